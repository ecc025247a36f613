-- A header: a number for each field, by field number. A switch sees some of the fields; paint and
-- annotation belong to the packet on its way. The fields and their ranges follow RFC 791,
-- RFC 768, RFC 9293 and the match fields of OpenFlow 1.3; the values where a field is absent, and an
-- EtherType read at bytes 12 and 13 also where a VLAN tag stands, are this project's own.
use Rattle.std.specs.Prelude.{ℕ, ◌<◌, ◌≤◌, ◌==◌, Bool, List, [], ◌∷◌, drop, length, map, slice_index}
use Rattle.std.specs.List.{position_or_len}
use Rattle.mt_packet.specs.Field.{eth_type_of, eth_dst_of, eth_src_of, arp_op_of}
use Rattle.mt_packet.specs.Ipv4.{proto_of, src_of, dst_of, dscp_of, ecn_of, sport_of, dport_of, icmp_type_of, ip_ok_of, ports_of, mf_of, frag_off_of, ttl_of, syn_of, ack_of, fin_of, rst_of}
use Rattle.mt_packet.specs.declared.field.Field.{Field}
use Rattle.mt_packet.specs.declared.field.Field.TheVariants.{Device, EthType, EthDst, EthSrc, ArpOp, Proto, Src, Dst, Dscp, Ecn, Sport, Dport, IcmpType, IpOk, Ports, Mf, FragOff, Ttl, Syn, Ack, Fin, Rst, Paint, Annotation}

-- a field's number, which is its index in a header
abbrev pub number_of : Field → ℕ
number_of Device = 0
number_of EthType = 1
number_of EthDst = 2
number_of EthSrc = 3
number_of ArpOp = 4
number_of Proto = 5
number_of Src = 6
number_of Dst = 7
number_of Dscp = 8
number_of Ecn = 9
number_of Sport = 10
number_of Dport = 11
number_of IcmpType = 12
number_of IpOk = 13
number_of Ports = 14
number_of Mf = 15
number_of FragOff = 16
number_of Ttl = 17
number_of Syn = 18
number_of Ack = 19
number_of Fin = 20
number_of Rst = 21
number_of Paint = 22
number_of Annotation = 23

-- the greatest value of a field; its values are all numbers from 0 to it
abbrev pub greatest_of : Field → ℕ
greatest_of Device = 4294967295
greatest_of EthType = 65536
greatest_of EthDst = 281474976710655
greatest_of EthSrc = 281474976710655
greatest_of ArpOp = 65536
greatest_of Proto = 255
greatest_of Src = 4294967295
greatest_of Dst = 4294967295
greatest_of Dscp = 63
greatest_of Ecn = 3
greatest_of Sport = 65536
greatest_of Dport = 65536
greatest_of IcmpType = 256
greatest_of IpOk = 1
greatest_of Ports = 1
greatest_of Mf = 1
greatest_of FragOff = 8191
greatest_of Ttl = 255
greatest_of Syn = 1
greatest_of Ack = 1
greatest_of Fin = 1
greatest_of Rst = 1
greatest_of Paint = 255
greatest_of Annotation = 4294967295

-- all fields by their numbers
abbrev pub fields : List Field
fields =
    Device ∷ EthType ∷ EthDst ∷ EthSrc ∷ ArpOp ∷ Proto ∷ Src ∷ Dst ∷ Dscp ∷ Ecn ∷ Sport ∷ Dport ∷ IcmpType
    ∷ IpOk ∷ Ports ∷ Mf ∷ FragOff ∷ Ttl ∷ Syn ∷ Ack ∷ Fin ∷ Rst ∷ Paint ∷ Annotation ∷ []

-- a header's value of a field
abbrev pub field_of : List ℕ → Field → ℕ
field_of header field = slice_index header (number_of field)

-- the fields that a switch sees, in the order in which a visible header has them: the match fields of
-- OpenFlow 1.3 for a device, Ethernet, ARP and IPv4
abbrev pub visible_fields : List Field
visible_fields =
    Device ∷ EthType ∷ EthDst ∷ EthSrc ∷ ArpOp ∷ Proto ∷ Src ∷ Dst ∷ Dscp ∷ Ecn ∷ Sport ∷ Dport ∷ IcmpType ∷ []

-- two fields are one
abbrev pub is_field : Field → Field → Bool
is_field field other = number_of other == number_of field

-- a field's index in a visible header; their number where the switch does not see it
abbrev pub visible_index : Field → ℕ
visible_index field = position_or_len (is_field field) visible_fields

-- the switch sees the field
abbrev pub IsVisible : Field → Type 0
IsVisible field = visible_index field < length visible_fields

-- the part of a header that a switch sees
abbrev pub visible_of : List ℕ → List ℕ
visible_of header = map (λ field. field_of header field) visible_fields

-- a visible header's value of a field
abbrev pub visible_field_of : List ℕ → Field → ℕ
visible_field_of values field = slice_index values (visible_index field)

-- each value is in its field's range
pub record InRanges (header : List ℕ) : Type 0 where
  pub in_range : (field : Field) → field_of header field ≤ greatest_of field

-- each value of a visible header is in its field's range
pub record InVisibleRanges (values : List ℕ) : Type 0 where
  pub in_range : (field : Field) → IsVisible field → visible_field_of values field ≤ greatest_of field

-- each item is a byte
abbrev pub AreBytes : List ℕ → Type 0
AreBytes bytes = (offset : ℕ) → slice_index bytes offset < 256

-- the fields in order, of a device, the bytes in which the Ethernet header stands, the data behind
-- it, a paint and an annotation
abbrev pub fields_of : ℕ → List ℕ → List ℕ → ℕ → ℕ → List ℕ
fields_of device frame datagram paint annotation =
    device ∷ eth_type_of frame ∷ eth_dst_of frame ∷ eth_src_of frame ∷ arp_op_of frame
    ∷ proto_of datagram ∷ src_of datagram ∷ dst_of datagram ∷ dscp_of datagram ∷ ecn_of datagram
    ∷ sport_of datagram ∷ dport_of datagram ∷ icmp_type_of datagram ∷ ip_ok_of datagram ∷ ports_of datagram
    ∷ mf_of datagram ∷ frag_off_of datagram ∷ ttl_of datagram
    ∷ syn_of datagram ∷ ack_of datagram ∷ fin_of datagram ∷ rst_of datagram
    ∷ paint ∷ annotation ∷ []

-- the header of a frame that arrives on a device: the data are what follows the first 14 bytes
unfoldable pub header_of : ℕ → List ℕ → List ℕ
header_of device frame = fields_of device frame (drop 14 frame) 0 0
