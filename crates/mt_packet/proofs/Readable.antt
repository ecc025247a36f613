-- What the tests of an IPv4 packet say of its length.
use Rattle.std.proofs.Common.{◌≡◌, ℕ, ◌+◌, ◌≤◌, List, length, true, arith}
use Rattle.std.proofs.lemmas.Grind.{common_steps}
use Rattle.mt_packet.specs.Ipv4.{is_readable, header_length, has_message, has_ports}

-- a readable packet has its fixed part
pub readable_long : (datagram : List ℕ) → is_readable datagram ≡ true → 20 ≤ length datagram
unfolding is_readable
readable_long datagram h = grind (arith, common_steps)

-- a message that is carried lies within the packet
pub message_long : (datagram : List ℕ) (protocol least : ℕ) → has_message datagram protocol least ≡ true
    → header_length datagram + least ≤ length datagram
unfolding has_message
message_long datagram protocol least h = grind (arith, common_steps)

pub message_readable : (datagram : List ℕ) (protocol least : ℕ) → has_message datagram protocol least ≡ true
    → is_readable datagram ≡ true
unfolding has_message
message_readable datagram protocol least h = grind (arith, common_steps)

-- a TCP header that is carried
pub tcp_long : (datagram : List ℕ) → has_message datagram 6 20 ≡ true
    → (20 ≤ length datagram) × (header_length datagram + 20 ≤ length datagram)
tcp_long datagram h =
    (readable_long datagram (message_readable datagram 6 20 h), message_long datagram 6 20 h)

-- a UDP header that is carried
pub udp_long : (datagram : List ℕ) → has_message datagram 17 8 ≡ true
    → (20 ≤ length datagram) × (header_length datagram + 8 ≤ length datagram)
udp_long datagram h =
    (readable_long datagram (message_readable datagram 17 8 h), message_long datagram 17 8 h)

-- an ICMP message that is carried
pub icmp_long : (datagram : List ℕ) → has_message datagram 1 8 ≡ true
    → (20 ≤ length datagram) × (header_length datagram + 8 ≤ length datagram)
icmp_long datagram h =
    (readable_long datagram (message_readable datagram 1 8 h), message_long datagram 1 8 h)

-- visible ports
pub ports_long : (datagram : List ℕ) → has_ports datagram ≡ true
    → (20 ≤ length datagram) × (header_length datagram + 8 ≤ length datagram)
unfolding has_ports
ports_long datagram h = grind (arith, tcp_long, udp_long)
