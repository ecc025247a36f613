-- The patterns of a Classifier (Click manual), in this project's profile: four fields of the Ethernet
-- header and of ARP, each compared with one value.
use Rattle.std.specs.Prelude.{ℕ, ◌==◌, Bool, ◌&&◌, nat_le, List, length}
use Rattle.std.specs.List.{list_all}
use Rattle.mt_packet.specs.Header.{field_of}
use Rattle.mt_packet.specs.Packet.{PacketState, has_ethernet, packet_header}
use Rattle.mt_packet.specs.declared.field.Field.{Field}
use Rattle.mt_packet.specs.declared.field.Field.TheVariants as of
use Rattle.mt_kinds.specs.declared.kind.Clause.{Clause}
use Rattle.mt_kinds.specs.declared.kind.Clause.TheVariants.{EthType, EthDst, EthSrc, ArpOp}

-- a field, read at the packet's present bytes
abbrev pub value_of : PacketState → Field → ℕ
value_of packet which = field_of (packet_header packet) which

-- the packet has an Ethernet header of 14 bytes
unfoldable pub is_whole : PacketState → Bool
is_whole packet = has_ethernet packet.layer && nat_le 14 (length packet.bytes)

abbrev pub has_value : PacketState → Clause → Bool
has_value packet (EthType value) = value_of packet of.EthType == value
has_value packet (EthDst value) = value_of packet of.EthDst == value
has_value packet (EthSrc value) = value_of packet of.EthSrc == value
has_value packet (ArpOp value) = value_of packet of.ArpOp == value

-- a clause holds where the field has its value, and on no frame below 14 bytes
abbrev pub clause_holds : PacketState → Clause → Bool
clause_holds packet clause = is_whole packet && has_value packet clause

-- a pattern holds where all its clauses do; `-` has none
abbrev pub pattern_holds : PacketState → List Clause → Bool
pattern_holds packet clauses = list_all (clause_holds packet) clauses
