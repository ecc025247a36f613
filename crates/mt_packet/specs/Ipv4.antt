-- The fields of an IPv4 packet (RFC 791), of the TCP or UDP header in it (RFC 9293, RFC 768), and the
-- type of an ICMP message (RFC 792). The data are the bytes past the Ethernet header; each field is
-- read by itself, at its own offset. Where a field is absent it has the value that its line names.
use Rattle.std.specs.Prelude.{◌≡◌, ℕ, ◌+◌, ◌*◌, ◌/◌, ◌%◌, ◌≤◌, min, List, length, take, slice_index, Bool, nat_le, ◌==◌, ◌&&◌, ◌||◌, if◌then◌else◌}
use Rattle.mt_packet.specs.Checksum.{ones_complement_sum, words_of}
use Rattle.mt_packet.specs.Field.{two_bytes_at, four_bytes_at}

-- the length of the header in bytes, as the low four bits of byte 0 tell it in words of four bytes
abbrev pub header_length : List ℕ → ℕ
header_length datagram = slice_index datagram 0 % 16 * 4

-- the total length, header and all, as the header tells it
abbrev pub total_length : List ℕ → ℕ
total_length datagram = two_bytes_at datagram 2

-- the bytes of the packet that are there: its total length, cut to the data
abbrev pub carried_length : List ℕ → ℕ
carried_length datagram = min (total_length datagram) (length datagram)

-- the data have a header's fixed part, of version 4
unfoldable pub is_readable : List ℕ → Bool
is_readable datagram = nat_le 20 (length datagram) && (slice_index datagram 0 / 16 == 4)

-- the protocol; absent 0
unfoldable pub proto_of : List ℕ → ℕ
proto_of datagram = if is_readable datagram then slice_index datagram 9 else 0

-- the source address; absent 0
unfoldable pub src_of : List ℕ → ℕ
src_of datagram = if is_readable datagram then four_bytes_at datagram 12 else 0

-- the destination address; absent 0
unfoldable pub dst_of : List ℕ → ℕ
dst_of datagram = if is_readable datagram then four_bytes_at datagram 16 else 0

-- the differentiated services code point (RFC 2474); absent 0
unfoldable pub dscp_of : List ℕ → ℕ
dscp_of datagram = if is_readable datagram then slice_index datagram 1 / 4 else 0

-- the explicit congestion notification (RFC 3168); absent 0
unfoldable pub ecn_of : List ℕ → ℕ
ecn_of datagram = if is_readable datagram then slice_index datagram 1 % 4 else 0

-- the bit "more fragments"; absent 0
unfoldable pub mf_of : List ℕ → ℕ
mf_of datagram = if is_readable datagram then slice_index datagram 6 / 32 % 2 else 0

-- the fragment offset in units of eight bytes; absent 0
unfoldable pub frag_off_of : List ℕ → ℕ
frag_off_of datagram = if is_readable datagram then two_bytes_at datagram 6 % 8192 else 0

-- the time to live; absent 0
unfoldable pub ttl_of : List ℕ → ℕ
ttl_of datagram = if is_readable datagram then slice_index datagram 8 else 0

-- the packet is no later fragment, and a protocol's message of at least some bytes lies behind its
-- whole header
unfoldable pub has_message : List ℕ → ℕ → ℕ → Bool
has_message datagram protocol least =
    is_readable datagram && (nat_le 20 (header_length datagram) && (frag_off_of datagram == 0))
    && ((proto_of datagram == protocol) && nat_le (header_length datagram + least) (carried_length datagram))

-- visible ports: a TCP header of 20 bytes or a UDP header of 8 bytes is there
unfoldable pub has_ports : List ℕ → Bool
has_ports datagram = has_message datagram 6 20 || has_message datagram 17 8

-- 1 for visible ports and 0 for none
unfoldable pub ports_of : List ℕ → ℕ
ports_of datagram = if has_ports datagram then 1 else 0

-- the source port; absent 65536
unfoldable pub sport_of : List ℕ → ℕ
sport_of datagram = if has_ports datagram then two_bytes_at datagram (header_length datagram) else 65536

-- the destination port; absent 65536
unfoldable pub dport_of : List ℕ → ℕ
dport_of datagram = if has_ports datagram then two_bytes_at datagram (header_length datagram + 2) else 65536

-- the type of an ICMP message of at least 8 bytes; absent 256
unfoldable pub icmp_type_of : List ℕ → ℕ
icmp_type_of datagram =
    if has_message datagram 1 8 then slice_index datagram (header_length datagram) else 256

-- the byte of the TCP flags; 0 where no TCP header is visible
unfoldable pub tcp_flags_of : List ℕ → ℕ
tcp_flags_of datagram =
    if has_message datagram 6 20 then slice_index datagram (header_length datagram + 13) else 0

-- the flags of a TCP header; absent 0
unfoldable pub fin_of : List ℕ → ℕ
fin_of datagram = tcp_flags_of datagram % 2

unfoldable pub syn_of : List ℕ → ℕ
syn_of datagram = tcp_flags_of datagram / 2 % 2

unfoldable pub rst_of : List ℕ → ℕ
rst_of datagram = tcp_flags_of datagram / 4 % 2

unfoldable pub ack_of : List ℕ → ℕ
ack_of datagram = tcp_flags_of datagram / 16 % 2

-- the data begin with a valid IPv4 packet
pub record IsValidIpv4 (datagram : List ℕ) : Type 0 where
  pub has_fixed_part : 20 ≤ length datagram
  pub is_version_4 : slice_index datagram 0 / 16 ≡ 4
  pub header_is_long_enough : 20 ≤ header_length datagram
  pub header_is_within : header_length datagram ≤ total_length datagram
  pub packet_is_within : total_length datagram ≤ length datagram
  -- the ones' complement sum of the header's words (RFC 791, RFC 1071)
  pub sum_is_right : ones_complement_sum (words_of (take (header_length datagram) datagram)) ≡ 65535

-- the test of the same
unfoldable pub is_valid_ipv4 : List ℕ → Bool
is_valid_ipv4 datagram =
    is_readable datagram
    && (nat_le 20 (header_length datagram)
    && (nat_le (header_length datagram) (total_length datagram)
    && (nat_le (total_length datagram) (length datagram)
    && (ones_complement_sum (words_of (take (header_length datagram) datagram)) == 65535))))

-- 1 where the data begin with a valid IPv4 packet, and 0 elsewhere
unfoldable pub ip_ok_of : List ℕ → ℕ
ip_ok_of datagram = if is_valid_ipv4 datagram then 1 else 0
