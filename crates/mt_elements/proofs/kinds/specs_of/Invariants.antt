use Rattle.std.proofs.Common.{◌≡◌, ◌++◌, length, map}
use Rattle.mt_elements.specs.Described.{spec_of}
use Rattle.mt_elements.proofs.kinds.specs_of.Given as goal

abbrev pub invariant-loop-rest : goal.invariant-loop-rest
invariant-loop-rest l = l.specs.items ++ map (spec_of l.pools.keys (map (λ x. x.now) l.names) l.scope) l.rest ≡ map (spec_of l.pools.keys (map (λ x. x.now) l.names) l.scope) l.written

abbrev pub decreases-loop-rest : goal.decreases-loop-rest
decreases-loop-rest l = length l.rest
