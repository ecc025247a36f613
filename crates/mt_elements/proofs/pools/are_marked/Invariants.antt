use Rattle.std.proofs.Common.{◌≡◌, false, length, get_or}
use Rattle.std.specs.List.{list_any, flat_map}
use Rattle.mt_elements.specs.Overlaps.{pool_number}
use Rattle.mt_elements.proofs.pools.are_marked.Given as goal

abbrev pub invariant-loop-rest : goal.invariant-loop-rest
invariant-loop-rest l = list_any (λ number. get_or l.marks number false) (flat_map (λ t. pool_number t.sp) l.rest) ≡ list_any (λ number. get_or l.marks number false) (flat_map (λ t. pool_number t.sp) l.templates)

abbrev pub decreases-loop-rest : goal.decreases-loop-rest
decreases-loop-rest l = length l.rest
