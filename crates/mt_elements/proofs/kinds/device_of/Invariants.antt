use Rattle.std.proofs.Common.{◌≡◌, ◌+◌, suc, length}
use Rattle.std.specs.List.{position_or_len}
use Rattle.std.specs.Str.{bytes_eq}
use Rattle.mt_elements.proofs.kinds.device_of.Given as goal

abbrev pub invariant-loop-rest : goal.invariant-loop-rest
invariant-loop-rest l = record {
  place : l.number + position_or_len (bytes_eq l.name) l.rest ≡ suc (position_or_len (bytes_eq l.name) l.devices);
  counted : l.number + length l.rest ≡ suc (length l.devices);
}

abbrev pub decreases-loop-rest : goal.decreases-loop-rest
decreases-loop-rest l = length l.rest
