use Rattle.std.proofs.Common.{◌≡◌, map, length}
use Rattle.mt_terms.specs.Trees.{branch_form, branches_of}
use Rattle.mt_pipeline.specs.Walking.{branch_at}
use Rattle.mt_pipeline.proofs.steps.branch_at.Given as goal

abbrev pub invariant-loop-rest : goal.invariant-loop-rest
invariant-loop-rest l = branch_at (branches_of (map branch_form l.rest)) l.out ≡ branch_at (branches_of (map branch_form l.branches)) l.out

abbrev pub decreases-loop-rest : goal.decreases-loop-rest
decreases-loop-rest l = length l.rest
