use Rattle.std.proofs.Common.{◌∙◌, sym, ap, suc, ◌-◌, ◌+◌, arith}
use Rattle.std.specs.Prelude.{◌||◌}
use Rattle.mt_rewriter.specs.Tries.{free_among}
use Rattle.mt_rewriter.proofs.Free.{next_port, no_port}
use Rattle.mt_rewriter.proofs.tables.Tables.has_free.Goals as goal

pub returns-then-is_free : goal.returns-then-is_free
returns-then-is_free c =
    sym (c.loop-port.invariant
    ∙ next_port c.args.self.now.mappings c.args.number c.args.pool.now.hi c.loop-port.port c.is_free.result (omega (arith, c.loop-port-test.true)) c.is_free.ensures
    ∙ ap (λ b. b || free_among c.args.self.now.mappings c.args.number (suc c.args.pool.now.hi - (c.loop-port.port + 1)) (c.loop-port.port + 1)) c.if-is_free.true)

pub loop-port-preserved : goal.loop-port-preserved
loop-port-preserved c =
    c.loop-port.invariant
    ∙ next_port c.args.self.now.mappings c.args.number c.args.pool.now.hi c.loop-port.port c.is_free.result (omega (arith, c.loop-port-test.true)) c.is_free.ensures
    ∙ ap (λ b. b || free_among c.args.self.now.mappings c.args.number (suc c.args.pool.now.hi - (c.loop-port.port + 1)) (c.loop-port.port + 1)) c.if-is_free.false

pub returns : goal.returns
returns c = sym (c.loop-port.invariant ∙ no_port c.args.self.now.mappings c.args.number c.args.pool.now.hi c.loop-port.port (omega (arith, c.loop-port-test.false)))
