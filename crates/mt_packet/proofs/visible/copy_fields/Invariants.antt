-- proofs/visible/copy_fields/Invariants.antt
use Rattle.std.proofs.Common.{◌≡◌, map, take}
use Rattle.mt_packet.specs.Header.{field_of}
use Rattle.mt_packet.proofs.visible.copy_fields.Given as goal

-- the values so far are those of the fields so far
abbrev pub invariant-loop-index : goal.invariant-loop-index
invariant-loop-index l = take l.index l.values ≡ map (λ field. field_of l.header field) (take l.index l.fields)
