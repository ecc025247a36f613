use Rattle.std.proofs.Common.{◌≡◌, ◌++◌, length, map}
use Rattle.mt_elements.specs.ChainState.{specs_in}
use Rattle.mt_elements.proofs.chain.specs_of.Given as goal

abbrev pub invariant-loop-rest : goal.invariant-loop-rest
invariant-loop-rest l = map (λ s. s.items) l.all.items ++ map specs_in l.rest ≡ map specs_in l.kinds

abbrev pub decreases-loop-rest : goal.decreases-loop-rest
decreases-loop-rest l = length l.rest
