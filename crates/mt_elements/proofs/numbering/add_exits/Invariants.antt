use Rattle.std.proofs.Common.{◌≡◌, length, fold}
use Rattle.mt_elements.specs.Described.{added, exit_in}
use Rattle.std.specs.List.{flat_map}
use Rattle.std.specs.Str.{bytes_eq}
use Rattle.mt_elements.proofs.numbering.add_exits.Given as goal

abbrev pub invariant-loop-rest : goal.invariant-loop-rest
invariant-loop-rest l = fold (added bytes_eq) l.devices.items (flat_map exit_in l.rest) ≡ fold (added bytes_eq) l.initial.devices.items (flat_map exit_in l.descriptions)

abbrev pub decreases-loop-rest : goal.decreases-loop-rest
decreases-loop-rest l = length l.rest
