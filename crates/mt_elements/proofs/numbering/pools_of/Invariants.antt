use Rattle.std.proofs.Common.{◌≡◌, length, fold}
use Rattle.mt_elements.specs.Described.{added, firsts, is_pool, pools_in}
use Rattle.std.specs.List.{flat_map}
use Rattle.mt_elements.proofs.numbering.pools_of.Given as goal

abbrev pub invariant-loop-rest : goal.invariant-loop-rest
invariant-loop-rest l = fold (added is_pool) l.pools.keys (flat_map pools_in l.rest) ≡ firsts is_pool (flat_map pools_in l.descriptions)

abbrev pub decreases-loop-rest : goal.decreases-loop-rest
decreases-loop-rest l = length l.rest
