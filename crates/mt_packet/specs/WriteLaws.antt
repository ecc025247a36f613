-- The laws of writes: of any packet, at every layer, of every two fields that it can be written with.
use Rattle.std.specs.Prelude.{◌≡◌, ◌≢◌, ◌↔◌, ℕ}
use Rattle.mt_packet.specs.Header.{AreBytes, field_of}
use Rattle.mt_packet.specs.Packet.{PacketState, packet_header, with_field, checked, CanWrite, IsChecked, HasWrittenHeader, HasWrittenTransport, HasWrittenSums}
use Rattle.mt_packet.specs.declared.field.Field.{Field}
use Rattle.mt_packet.specs.declared.field.Field.TheVariants.{Src, Dst, Dscp, Sport, Dport, Ttl}

-- a packet that can be written can be written again, whatever was written
abbrev pub WritesStayAllowed : Type 0
WritesStayAllowed =
    (packet : PacketState) (field other : Field) (value next : ℕ)
    → CanWrite packet field value → CanWrite packet other next → CanWrite (with_field packet field value) other next

-- the last write of a field wins
abbrev pub LastWriteWins : Type 0
LastWriteWins =
    (packet : PacketState) (field : Field) (value last : ℕ)
    → CanWrite packet field value → CanWrite packet field last
    → with_field (with_field packet field value) field last ≡ with_field packet field last

-- writes of two fields give the same packet in either order
abbrev pub WritesCommute : Type 0
WritesCommute =
    (packet : PacketState) (field other : Field) (value next : ℕ) → field ≢ other
    → CanWrite packet field value → CanWrite packet other next
    → with_field (with_field packet field value) other next ≡ with_field (with_field packet other next) field value

-- the checksums that a write of a field mends have their written form: no other packet stays as it is when
-- the value that a field has is written
abbrev pub IsSettledFor : PacketState → Field → Type 0
IsSettledFor packet Src = HasWrittenHeader packet × HasWrittenTransport packet
IsSettledFor packet Dst = HasWrittenHeader packet × HasWrittenTransport packet
IsSettledFor packet Dscp = HasWrittenHeader packet
IsSettledFor packet Ttl = HasWrittenHeader packet
IsSettledFor packet Sport = HasWrittenTransport packet
IsSettledFor packet Dport = HasWrittenTransport packet
IsSettledFor packet field = Unit {0}

-- a write of the value that the field has changes nothing, exactly where these checksums have their written
-- form
abbrev pub SameWriteKeeps : Type 0
SameWriteKeeps =
    (packet : PacketState) (field : Field) → AreBytes packet.bytes
    → CanWrite packet field (field_of (packet_header packet) field)
    → (with_field packet field (field_of (packet_header packet) field) ≡ packet) ↔ IsSettledFor packet field

-- a packet whose checksums have their written form is settled for every field
abbrev pub WrittenSumsSettle : Type 0
WrittenSumsSettle = (packet : PacketState) (field : Field) → HasWrittenSums packet → IsSettledFor packet field

-- a check gives checksums their written form, at every layer
abbrev pub CheckSettles : Type 0
CheckSettles = (packet : PacketState) → AreBytes packet.bytes → IsChecked packet → HasWrittenSums (checked packet)

-- a write keeps it, whatever the field
abbrev pub WriteSettles : Type 0
WriteSettles =
    (packet : PacketState) (field : Field) (value : ℕ)
    → CanWrite packet field value → HasWrittenSums packet → HasWrittenSums (with_field packet field value)
