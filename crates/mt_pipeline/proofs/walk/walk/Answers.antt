use Rattle.mt_terms.specs.Trees.{tree_form}
use Rattle.mt_pipeline.proofs.Walked.{not_walked, walked_on, walked_step, walked_end}
use Rattle.mt_pipeline.proofs.walk.walk.Goals as goal

pub down-init : goal.down-init
down-init g c =
    not_walked c.args.given.now.rewriters.now c.args.given.now.gone.now c.args.header.now (tree_form c.args.tree.now) c.args.passed.now.items c.args.resources.now c.args.ledger.now c.args.journal.now c.requires.ready c.requires.walks

pub step-requires-clause-ready : goal.step-requires-clause-ready
step-requires-clause-ready g c = c.down.invariant.step.ready

pub step-requires-clause-walks : goal.step-requires-clause-walks
step-requires-clause-walks g c = c.down.invariant.can

pub returns-in_err-next-clause-step : goal.returns-in_err-next-clause-step
returns-in_err-next-clause-step g c = walked_step _ _ _ _ _ _ _ _ _ _ _ _ _ _ _ _ c.down.invariant c.step.ensures.step

pub down-smaller : goal.down-smaller
down-smaller g c = let h = rw c.in-On.is at c.in_ok-next.ensures.next in h.1

pub down-preserved : goal.down-preserved
down-preserved g c = let h = rw c.in-On.is at c.in_ok-next.ensures.next in walked_on _ _ _ _ _ _ _ _ _ _ _ _ _ _ _ _ c.down.invariant c.step.ensures.step _ _ h.0

pub returns-in-Over-clause-step : goal.returns-in-Over-clause-step
returns-in-Over-clause-step g c = walked_step _ _ _ _ _ _ _ _ _ _ _ _ _ _ _ _ c.down.invariant c.step.ensures.step

pub returns-in-Over-clause-ended : goal.returns-in-Over-clause-ended
returns-in-Over-clause-ended g c = let h = rw c.in-Over.is at c.in_ok-next.ensures.next in walked_end _ _ _ _ _ _ _ _ _ _ _ _ _ _ _ _ c.down.invariant c.step.ensures.step _ c.in-Over.end h
