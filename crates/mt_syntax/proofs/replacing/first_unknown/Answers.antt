use Rattle.std.proofs.Common.{◌∙◌}
use Rattle.mt_syntax.proofs.ReplaceLoop.{unknown_on, unknown_here, unknown_end, tested}
use Rattle.mt_syntax.proofs.replacing.first_unknown.Goals as goal

pub returns-then-is_unknown : goal.returns-then-is_unknown
returns-then-is_unknown c =
    unknown_here c.args.bindings.now c.args.text.now c.loop-at.at c.loop-at-test.true (tested c.args.bindings.now c.args.text.now c.loop-at.at _ c.is_unknown.ensures ∙ c.if-is_unknown.true) c.loop-at.invariant

pub loop-at-preserved : goal.loop-at-preserved
loop-at-preserved c =
    unknown_on c.args.bindings.now c.args.text.now c.loop-at.at c.loop-at-test.true (tested c.args.bindings.now c.args.text.now c.loop-at.at _ c.is_unknown.ensures ∙ c.if-is_unknown.false) c.loop-at.invariant

pub returns : goal.returns
returns c = unknown_end c.args.bindings.now c.args.text.now c.loop-at.at c.loop-at-test.false c.loop-at.invariant
