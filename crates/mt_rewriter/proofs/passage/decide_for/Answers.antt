use Rattle.std.proofs.Common.{subst, sym, ◌≤◌, length, Some}
use Rattle.std.specs.Prelude.{IfOk}
use Rattle.mt_rewriter.proofs.Decisions.{IsFresh, fresh_is, within_for}
use Rattle.mt_rewriter.specs.declared.passage.Decision.{Decision}
use Rattle.mt_rewriter.proofs.passage.decide_for.Goals as goal

pub returns-in-Some-clause-fresh : goal.returns-in-Some-clause-fresh
returns-in-Some-clause-fresh c = subst (λ r. IfOk r (IsFresh c.args.tables.now.mappings)) (sym c.decide.ensures) (fresh_is c.args.given.now.mappers.now c.args.given.now.pools.now c.args.given.now.picks.now c.args.tables.now _ c.args.used c.args.spec)

pub returns-in-Some-clause-within : goal.returns-in-Some-clause-within
returns-in-Some-clause-within c = λ within.
    subst (λ r. IfOk r (λ (d : Decision). d.used ≤ length c.args.given.now.picks.now)) (sym c.decide.ensures)
    (within_for c.args.given.now.mappers.now c.args.given.now.pools.now c.args.given.now.picks.now c.args.tables.now c.args.port.0 c.args.port.1 c.args.used c.args.spec (Some c.in-Some.before) within)
