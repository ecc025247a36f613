use Rattle.std.proofs.Common.{◌≡◌, ◌++◌, map, length}
use Rattle.mt_terms.specs.Trees.{branch_form}
use Rattle.mt_synth.specs.Branches.{branches_named}
use Rattle.mt_synth.proofs.branching.branches_named.Given as goal

abbrev pub invariant-loop-rest : goal.invariant-loop-rest
invariant-loop-rest l =
    map branch_form l.made.items ++ branches_named l.trees (map (λ exit. exit.out) l.outs) l.rest
    ≡ branches_named l.trees (map (λ exit. exit.out) l.exits) l.numbers

abbrev pub decreases-loop-rest : goal.decreases-loop-rest
decreases-loop-rest l = length l.rest
