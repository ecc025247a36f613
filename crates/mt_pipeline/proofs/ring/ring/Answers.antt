use Rattle.std.proofs.Common.{List, subst, sym, arith}
use Rattle.mt_flow.specs.Mappings.{StandsForward}
use Rattle.mt_flow.specs.declared.mapping.Mapping.{Mapping}
use Rattle.mt_pipeline.specs.Standing.{entries_of}
use Rattle.mt_pipeline.specs.Trying.{EndsBy, ring_decision}
use Rattle.mt_pipeline.proofs.Rounds.{along_next, along_none, ends_next, mapper_there, none_ends}
use Rattle.mt_pipeline.proofs.StepsTaken.{no_step, step_then}
use Rattle.mt_pipeline.proofs.ring.ring.Goals as goal

pub loop-init : goal.loop-init
loop-init g c =
    along_none c.args.given.now.rewriters.now c.args.given.now.gone.now c.args.key.now c.args.mapper c.args.templates.now c.args.resources.now c.args.ledger.now c.args.journal.now
    (no_step c.args.given.now.rewriters.now c.args.given.now.gone.now c.args.resources.now c.args.ledger.now c.args.journal.now c.requires.ready)

pub try_next-requires-clause-unmet : goal.try_next-requires-clause-unmet
try_next-requires-clause-unmet g c = λ stands. c.requires.unmet (subst (λ (s : List Mapping). StandsForward s c.args.key.now) c.loop.invariant.store stands)

pub loop-preserved : goal.loop-preserved
loop-preserved g c =
    along_next c.args.given.now.rewriters.now c.args.given.now.gone.now c.args.key.now c.args.mapper c.args.templates.now c.args.resources.now c.loop.resources c.try_next.new.resources
    c.args.ledger.now c.loop.ledger c.try_next.new.ledger c.args.journal.now c.loop.journal c.try_next.new.journal c.loop.clashed c.loop.counter
    (mapper_there c.args.given.now.rewriters.now c.args.given.now.gone.now c.args.resources.now c.args.ledger.now c.args.mapper c.args.templates.now c.requires.ready c.requires.at)
    c.loop.invariant (omega (arith, c.loop-test.true)) c.in-Ok.ensures.step c.in-Ok.tried c.in-Ok.ensures.turned c.in-Along.whether (sym c.in-Along.ensures)

pub returns-in-Ends-clause-step : goal.returns-in-Ends-clause-step
returns-in-Ends-clause-step g c =
    step_then c.args.given.now.rewriters.now c.args.given.now.gone.now c.args.resources.now c.loop.resources c.try_next.new.resources c.args.ledger.now c.loop.ledger c.try_next.new.ledger
    c.args.journal.now c.loop.journal c.try_next.new.journal c.loop.invariant.step c.in-Ok.ensures.step

pub returns-in-Ends-clause-ends : goal.returns-in-Ends-clause-ends
returns-in-Ends-clause-ends g c =
    ends_next c.args.given.now.rewriters.now c.args.given.now.gone.now c.args.key.now c.args.mapper c.args.templates.now c.args.resources.now c.loop.resources c.try_next.new.resources
    c.args.ledger.now c.loop.ledger c.try_next.new.ledger c.args.journal.now c.loop.journal c.try_next.new.journal c.loop.clashed c.loop.counter
    (mapper_there c.args.given.now.rewriters.now c.args.given.now.gone.now c.args.resources.now c.args.ledger.now c.args.mapper c.args.templates.now c.requires.ready c.requires.at)
    c.loop.invariant (omega (arith, c.loop-test.true)) c.in-Ok.ensures.step c.in-Ok.tried c.in-Ok.ensures.turned c.in-Ends.passed (sym c.in-Ends.ensures)

pub returns-in-Err-clause-step : goal.returns-in-Err-clause-step
returns-in-Err-clause-step g c =
    step_then c.args.given.now.rewriters.now c.args.given.now.gone.now c.args.resources.now c.loop.resources c.try_next.new.resources c.args.ledger.now c.loop.ledger c.try_next.new.ledger
    c.args.journal.now c.loop.journal c.try_next.new.journal c.loop.invariant.step c.in-Err.ensures.step

pub returns-clause-step : goal.returns-clause-step
returns-clause-step g c = c.loop.invariant.step

pub returns-clause-ends : goal.returns-clause-ends
returns-clause-ends g c =
    subst (EndsBy (ring_decision c.args.given.now.rewriters.now.pools.items (entries_of c.args.resources.now.store) c.args.key.now c.args.mapper c.args.templates.now c.args.ledger.now c.args.journal.now.picks.items)
    c.args.given.now.rewriters.now c.args.given.now.gone.now c.args.resources.now c.loop.resources c.args.ledger.now c.loop.ledger c.loop.journal.picks.items) (sym c.none_made.ensures)
    (none_ends c.args.given.now.rewriters.now c.args.given.now.gone.now c.args.key.now c.args.mapper c.args.templates.now c.args.resources.now c.loop.resources c.args.ledger.now c.loop.ledger
    c.args.journal.now c.loop.journal c.loop.clashed c.loop.counter c.loop.invariant (omega (arith, c.loop-test.false)))
