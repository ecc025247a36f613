use Rattle.std.proofs.Common.{◌∙◌, sym, map, arith}
use Rattle.mt_command.proofs.Firsts.{found_here, none_here, none_at_all}
use Rattle.mt_command.specs.Devices.{is_unbound}
use Rattle.mt_command.specs.Parts.{binding_view}
use Rattle.mt_command.proofs.devices.first_unbound.Goals as goal

pub returns-then-is_unbound-clause-place : goal.returns-then-is_unbound-clause-place
returns-then-is_unbound-clause-place c =
    found_here (is_unbound (map binding_view c.args.bindings.now)) c.args.devices.now c.loop-at.at c.loop-at.invariant _ c.loop-at-test.true (sym c.is_unbound.ensures ∙ c.if-is_unbound.true)

pub loop-at-preserved : goal.loop-at-preserved
loop-at-preserved c =
    none_here (is_unbound (map binding_view c.args.bindings.now)) c.args.devices.now c.loop-at.at c.loop-at.invariant _ c.loop-at-test.true (sym c.is_unbound.ensures ∙ c.if-is_unbound.false)

pub returns-clause-place : goal.returns-clause-place
returns-clause-place c = none_at_all (is_unbound (map binding_view c.args.bindings.now)) c.args.devices.now c.loop-at.at c.loop-at.invariant (omega arith) (omega arith)
