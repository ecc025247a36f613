-- The numbers that stand in the bytes of a frame, in network order, and the fields of its Ethernet
-- header (IEEE 802.3). An offset past the end reads as 0.
use Rattle.std.specs.Prelude.{ℕ, ◌+◌, ◌*◌, List, length, slice_index, nat_lt, ◌==◌, if◌then◌else◌}

-- the number in two bytes from an offset on, in network order
abbrev pub two_bytes_at : List ℕ → ℕ → ℕ
two_bytes_at bytes offset = slice_index bytes offset * 256 + slice_index bytes (offset + 1)

-- the number in four bytes from an offset on
abbrev pub four_bytes_at : List ℕ → ℕ → ℕ
four_bytes_at bytes offset = two_bytes_at bytes offset * 65536 + two_bytes_at bytes (offset + 2)

-- the number in six bytes from an offset on
abbrev pub six_bytes_at : List ℕ → ℕ → ℕ
six_bytes_at bytes offset = two_bytes_at bytes offset * 4294967296 + four_bytes_at bytes (offset + 2)

-- the EtherType of IEEE 802.3; 65536 where the frame has no whole Ethernet header
abbrev pub eth_type_of : List ℕ → ℕ
eth_type_of bytes = if nat_lt (length bytes) 14 then 65536 else two_bytes_at bytes 12

-- the destination address, and 0 where the frame has no whole Ethernet header
unfoldable pub eth_dst_of : List ℕ → ℕ
eth_dst_of bytes = if nat_lt (length bytes) 14 then 0 else six_bytes_at bytes 0

-- the source address, and 0 where the frame has no whole Ethernet header
unfoldable pub eth_src_of : List ℕ → ℕ
eth_src_of bytes = if nat_lt (length bytes) 14 then 0 else six_bytes_at bytes 6

-- the operation of an ARP packet (RFC 826), which EtherType 0x0806 announces; 65536 elsewhere
unfoldable pub arp_op_of : List ℕ → ℕ
arp_op_of bytes =
    if nat_lt (length bytes) 22 then 65536 else
    (if eth_type_of bytes == 2054 then two_bytes_at bytes 20 else 65536)
