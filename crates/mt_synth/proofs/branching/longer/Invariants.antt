use Rattle.std.proofs.Common.{◌≡◌, ◌++◌, ◌∷◌, [], map, get_or, length}
use Rattle.mt_synth.proofs.branching.longer.Given as goal

abbrev pub invariant-loop-rest : goal.invariant-loop-rest
invariant-loop-rest l =
    map (λ v. v.items) l.made.items ++ map (λ pair. get_or (map (λ v. v.items) l.lists) pair.0 [] ++ pair.1 ∷ []) l.rest
    ≡ map (λ pair. get_or (map (λ v. v.items) l.lists) pair.0 [] ++ pair.1 ∷ []) l.pairs

abbrev pub decreases-loop-rest : goal.decreases-loop-rest
decreases-loop-rest l = length l.rest
