use Rattle.std.proofs.Common.{◌≡◌, length}
use Rattle.mt_elements.specs.Described.{entry_in}
use Rattle.std.specs.List.{list_any, flat_map}
use Rattle.std.specs.Str.{bytes_eq}
use Rattle.mt_elements.proofs.describing.is_entered.Given as goal

abbrev pub invariant-loop-rest : goal.invariant-loop-rest
invariant-loop-rest l = list_any (bytes_eq l.device) (flat_map entry_in l.rest) ≡ list_any (bytes_eq l.device) (flat_map entry_in l.descriptions)

abbrev pub decreases-loop-rest : goal.decreases-loop-rest
decreases-loop-rest l = length l.rest
