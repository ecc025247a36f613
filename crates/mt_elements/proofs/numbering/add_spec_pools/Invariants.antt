use Rattle.std.proofs.Common.{◌≡◌, length, fold}
use Rattle.mt_elements.specs.Described.{added, is_pool, spec_pool}
use Rattle.std.specs.List.{flat_map}
use Rattle.mt_elements.proofs.numbering.add_spec_pools.Given as goal

abbrev pub invariant-loop-rest : goal.invariant-loop-rest
invariant-loop-rest l = fold (added is_pool) l.pools.keys (flat_map spec_pool l.rest) ≡ fold (added is_pool) l.initial.pools.keys (flat_map spec_pool l.specs)

abbrev pub decreases-loop-rest : goal.decreases-loop-rest
decreases-loop-rest l = length l.rest
