-- proofs/field/index_of/Invariants.antt
use Rattle.std.proofs.Common.{◌≡◌, ℕ, ◌<◌, get_or, false}
use Rattle.mt_packet.specs.Header.{is_field}
use Rattle.mt_packet.specs.declared.field.Field.TheVariants.{Device}
use Rattle.mt_packet.proofs.field.index_of.Given as goal

-- none before is the field
abbrev pub invariant-loop-index : goal.invariant-loop-index
invariant-loop-index l = (k : ℕ) → k < l.index → is_field l.field (get_or l.fields k Device) ≡ false
