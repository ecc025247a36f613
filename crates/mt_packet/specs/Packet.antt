-- A packet on its way through a chain.
use Rattle.std.specs.Prelude.{◌≡◌, ℕ, ◌≤◌, List, [], ◌∷◌, ◌++◌, length, take, drop, slice_set, Bool, true, false, IsTrue, if◌then◌else◌}
use Rattle.mt_packet.specs.Field.{two_bytes_at, arp_op_of}
use Rattle.mt_packet.specs.Header.{AreBytes, fields_of, greatest_of, number_of}
use Rattle.mt_packet.specs.Ipv4.{total_length, proto_of, dst_of, has_ports, IsValidIpv4}
use Rattle.mt_packet.specs.Write.{put_two, put_six, checksum_offset, with_header_zero, with_tcp_zero, ipv4_with_field}
use Rattle.mt_packet.specs.declared.field.Field.{Field}
use Rattle.mt_packet.specs.declared.field.Field.TheVariants.{EthType, EthDst, EthSrc, Src, Dst, Dscp, Sport, Dport, Ttl, Paint, Annotation}
use Rattle.mt_packet.specs.declared.layer.Layer.{Layer}
use Rattle.mt_packet.specs.declared.layer.Layer.TheVariants.{Frame, Bare, Ip, Framed}

-- its present bytes, its layer, its paint, its destination annotation, and what came with its frame: the
-- time of capture in nanoseconds, the device and the number in the run
pub record PacketState : Type 0 where
  pub bytes : List ℕ
  pub layer : Layer
  pub paint : ℕ
  pub annotation : ℕ
  pub stamp : ℕ
  pub device : ℕ
  pub number : ℕ

-- the layers at which an Ethernet header stands in front of the data
abbrev pub has_ethernet : Layer → Bool
has_ethernet Frame = true
has_ethernet Bare = false
has_ethernet Ip = false
has_ethernet Framed = true

-- the bytes in which the fields of the Ethernet header are read: none where it was taken away, so that
-- these fields are then absent
abbrev pub frame_of : PacketState → List ℕ
frame_of packet = if has_ethernet packet.layer then packet.bytes else []

-- the data, in which the fields of IPv4 and of what it carries are read: what follows the 14 bytes of
-- the Ethernet header, and all present bytes where it was taken away
abbrev pub datagram_of : PacketState → List ℕ
datagram_of packet = if has_ethernet packet.layer then drop 14 packet.bytes else packet.bytes

-- the header of a packet, read at its present bytes as that of a frame, with its own paint and
-- annotation
abbrev pub packet_header : PacketState → List ℕ
packet_header packet =
    fields_of packet.device (frame_of packet) (datagram_of packet) packet.paint packet.annotation

-- the packet with other data, behind the same Ethernet header if it has one
abbrev pub with_datagram : PacketState → List ℕ → PacketState
with_datagram packet datagram =
    record packet {
      bytes = if has_ethernet packet.layer then take 14 packet.bytes ++ datagram else datagram;
    }

-- the packet as its frame arrives
abbrev pub arrived : List ℕ → ℕ → ℕ → ℕ → PacketState
arrived bytes stamp device number =
    record {
      bytes = bytes;
      layer = Frame;
      paint = 0;
      annotation = 0;
      stamp = stamp;
      device = device;
      number = number;
    }

-- the layer when the Ethernet header is taken away
abbrev pub layer_below : Layer → Layer
layer_below Frame = Bare
layer_below Framed = Ip
layer_below Bare = Bare
layer_below Ip = Ip

-- the packet without its Ethernet header
abbrev pub stripped : PacketState → PacketState
stripped packet = record packet { bytes = drop 14 packet.bytes; layer = layer_below packet.layer }

-- the six bytes of an Ethernet address
abbrev pub address_bytes : ℕ → List ℕ
address_bytes address = put_six (0 ∷ 0 ∷ 0 ∷ 0 ∷ 0 ∷ 0 ∷ []) 0 address

-- an Ethernet header (IEEE 802.3): destination, source, EtherType
abbrev pub ethernet_header : ℕ → ℕ → ℕ → List ℕ
ethernet_header ether_type src dst =
    address_bytes dst ++ address_bytes src ++ put_two (0 ∷ 0 ∷ []) 0 ether_type

-- the packet with an Ethernet header in front
abbrev pub encapsulated : PacketState → ℕ → ℕ → ℕ → PacketState
encapsulated packet ether_type src dst =
    record packet { bytes = ethernet_header ether_type src dst ++ packet.bytes; layer = Framed }

-- its data are a valid IPv4 packet, as after `check_ip` has told true
abbrev pub IsChecked : PacketState → Type 0
IsChecked packet = IsValidIpv4 (datagram_of packet)

-- the layer when the packet has been found to be IPv4
abbrev pub layer_checked : Layer → Layer
layer_checked Bare = Ip
layer_checked Frame = Frame
layer_checked Ip = Ip
layer_checked Framed = Framed

-- the data of a checked packet: what follows the total length is cut off, and the checksums have their
-- written form
unfoldable pub checked_datagram : List ℕ → List ℕ
checked_datagram datagram = with_tcp_zero (with_header_zero (take (total_length datagram) datagram))

-- a packet of valid IPv4 when it has been checked: its annotation is the destination
abbrev pub checked : PacketState → PacketState
checked packet =
    record (with_datagram packet (checked_datagram (datagram_of packet))) {
      annotation = dst_of (datagram_of packet);
      layer = layer_checked packet.layer;
    }

-- the packet with a field set to a value, and its checksums mended
abbrev pub with_field : PacketState → Field → ℕ → PacketState
with_field packet EthType value = record packet { bytes = put_two packet.bytes 12 value }
with_field packet EthDst value = record packet { bytes = put_six packet.bytes 0 value }
with_field packet EthSrc value = record packet { bytes = put_six packet.bytes 6 value }
with_field packet Paint value = record packet { paint = value }
with_field packet Annotation value = record packet { annotation = value }
with_field packet field value = with_datagram packet (ipv4_with_field (datagram_of packet) field value)

-- the packet has a whole Ethernet header
pub record HasEthernet (packet : PacketState) : Type 0 where
  pub is_there : IsTrue (has_ethernet packet.layer)
  pub is_whole : 14 ≤ length packet.bytes

-- its data are a checked packet with visible ports
pub record HasPorts (packet : PacketState) : Type 0 where
  pub is_checked : IsChecked packet
  pub are_visible : IsTrue (has_ports (datagram_of packet))

-- the header checksum (RFC 791) is written 0 to 65534, as a check and a write leave it
abbrev pub HasWrittenHeader : PacketState → Type 0
HasWrittenHeader packet = two_bytes_at (datagram_of packet) 10 ≤ 65534

-- so is the checksum of TCP (RFC 9293), where ports are visible. In UDP (RFC 768) every checksum has its
-- written form: 0 tells that there is none and stays, and a write leaves no other 0
abbrev pub HasWrittenTransport : PacketState → Type 0
HasWrittenTransport packet =
    has_ports (datagram_of packet) ≡ true → proto_of (datagram_of packet) ≡ 6
    → two_bytes_at (datagram_of packet) (checksum_offset (datagram_of packet)) ≤ 65534

-- a checked packet whose checksums have their written form, and whose items are bytes, as those of each
-- packet of a program are
pub record HasWrittenSums (packet : PacketState) : Type 0 where
  pub is_checked : IsChecked packet
  pub are_bytes : AreBytes packet.bytes
  pub header_is_written : HasWrittenHeader packet
  pub transport_is_written : HasWrittenTransport packet

-- when a field may be written with a value: it can be written at all, the packet has it, the value is
-- one of the field's that is not its absent one, and a packet was checked before a field of IPv4 is written
abbrev pub CanWrite : PacketState → Field → ℕ → Type 0
CanWrite packet EthType value = HasEthernet packet × (value ≤ 65535)
CanWrite packet EthDst value = HasEthernet packet × (value ≤ greatest_of EthDst)
CanWrite packet EthSrc value = HasEthernet packet × (value ≤ greatest_of EthSrc)
CanWrite packet Src value = IsChecked packet × (value ≤ greatest_of Src)
CanWrite packet Dst value = IsChecked packet × (value ≤ greatest_of Dst)
CanWrite packet Dscp value = IsChecked packet × (value ≤ greatest_of Dscp)
CanWrite packet Ttl value = IsChecked packet × (value ≤ greatest_of Ttl)
CanWrite packet Sport value = HasPorts packet × (value ≤ 65535)
CanWrite packet Dport value = HasPorts packet × (value ≤ 65535)
CanWrite packet Paint value = value ≤ greatest_of Paint
CanWrite packet Annotation value = value ≤ greatest_of Annotation
CanWrite packet _ value = ⊥

-- the header of a packet after a write: the field has the value, and every other field has the value that
-- it had. The operation of ARP goes by the EtherType, so it is read anew where that is written
abbrev pub header_after : PacketState → Field → ℕ → List ℕ
header_after packet EthType value =
    slice_set (slice_set (packet_header packet) 1 value) 4 (arp_op_of (put_two packet.bytes 12 value))
header_after packet field value = slice_set (packet_header packet) (number_of field) value
