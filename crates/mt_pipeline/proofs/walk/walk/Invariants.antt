use Rattle.mt_terms.specs.Trees.{tree_form}
use Rattle.mt_pipeline.proofs.Walked.{HasWalked}
use Rattle.mt_pipeline.specs.Walking.{size_of}
use Rattle.mt_pipeline.proofs.walk.walk.Given as goal

abbrev pub invariant-down : goal.invariant-down
invariant-down g l =
    HasWalked l.given.rewriters.now l.given.gone.now l.header (tree_form l.tree) (tree_form l.here) l.fn.passed.items l.passed.items l.fn.resources l.resources l.fn.ledger l.ledger l.fn.journal l.journal

abbrev pub decreases-down : goal.decreases-down
decreases-down g l = size_of (tree_form l.here)
