use Rattle.std.proofs.Common.{◌≡◌, map, take}
use Rattle.mt_terms.specs.Trees.{branch_form}
use Rattle.mt_terms.proofs.+copies.Given as goal

-- the branches so far are copied
abbrev pub invariant-copies::copy_branches-loop-output : goal.invariant-copies::copy_branches-loop-output
invariant-copies::copy_branches-loop-output l = map branch_form l.copies.items ≡ map branch_form (take l.output-index l.branches)
