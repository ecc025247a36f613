-- Writing a field into the bytes of a packet, with the checksums that it mends. A write sets bytes at
-- their offsets, so all other bytes stay.
use Rattle.std.specs.Prelude.{ℕ, ◌+◌, ◌*◌, ◌/◌, ◌%◌, List, [], ◌∷◌, take, slice_index, slice_set, sum, ◌==◌, ◌&&◌, if◌then◌else◌}
use Rattle.mt_packet.specs.Checksum.{words_of, negative_of, transport_after_write}
use Rattle.mt_packet.specs.Field.{two_bytes_at}
use Rattle.mt_packet.specs.Ipv4.{header_length, has_ports, proto_of}
use Rattle.mt_packet.specs.declared.field.Field.{Field}
use Rattle.mt_packet.specs.declared.field.Field.TheVariants.{Src, Dst, Dscp, Sport, Dport, Ttl}

-- the bytes with a number in two of them from an offset on, in network order
abbrev pub put_two : List ℕ → ℕ → ℕ → List ℕ
put_two bytes offset value =
    slice_set (slice_set bytes offset (value / 256 % 256)) (offset + 1) (value % 256)

-- the same in four bytes
abbrev pub put_four : List ℕ → ℕ → ℕ → List ℕ
put_four bytes offset value = put_two (put_two bytes offset (value / 65536)) (offset + 2) value

-- the same in six bytes
abbrev pub put_six : List ℕ → ℕ → ℕ → List ℕ
put_six bytes offset value = put_four (put_two bytes offset (value / 4294967296)) (offset + 2) value

-- the header checksum (RFC 791) of an IPv4 packet: the one number from 0 to 65534 that, in bytes 10
-- and 11, makes the plain sum of the header's words a multiple of 65535
abbrev pub header_checksum : List ℕ → ℕ
header_checksum datagram = negative_of (sum (words_of (take (header_length datagram) (put_two datagram 10 0))))

-- the packet with its header checksum
unfoldable pub with_header_checksum : List ℕ → List ℕ
with_header_checksum datagram = put_two datagram 10 (header_checksum datagram)

-- the offset of the transport checksum: byte 16 of a TCP header (RFC 9293), byte 6 of a UDP header
-- (RFC 768)
abbrev pub checksum_offset : List ℕ → ℕ
checksum_offset datagram = header_length datagram + (if proto_of datagram == 17 then 6 else 16)

-- the packet with its transport checksum changed by the difference of the words that a write replaced;
-- without visible ports there is none
unfoldable pub with_transport_checksum : List ℕ → List ℕ → List ℕ → List ℕ
with_transport_checksum datagram old new =
    if has_ports datagram then
    put_two datagram (checksum_offset datagram)
    (transport_after_write (proto_of datagram) (two_bytes_at datagram (checksum_offset datagram)) old new)
    else datagram

-- the packet with an address at an offset of its header
unfoldable pub with_address : List ℕ → ℕ → ℕ → List ℕ
with_address datagram offset value =
    with_transport_checksum (with_header_checksum (put_four datagram offset value))
    (two_bytes_at datagram offset ∷ two_bytes_at datagram (offset + 2) ∷ [])
    (value / 65536 ∷ value % 65536 ∷ [])

-- the packet with a port at an offset of its transport header
unfoldable pub with_port : List ℕ → ℕ → ℕ → List ℕ
with_port datagram offset value =
    with_transport_checksum (put_two datagram offset value) (two_bytes_at datagram offset ∷ []) (value ∷ [])

-- the packet with a code point in the high six bits of byte 1
unfoldable pub with_dscp : List ℕ → ℕ → List ℕ
with_dscp datagram value =
    with_header_checksum (slice_set datagram 1 (value * 4 + slice_index datagram 1 % 4))

-- the packet with a time to live
unfoldable pub with_ttl : List ℕ → ℕ → List ℕ
with_ttl datagram value = with_header_checksum (slice_set datagram 8 value)

-- an IPv4 packet with a field set to a value, and its checksums mended
abbrev pub ipv4_with_field : List ℕ → Field → ℕ → List ℕ
ipv4_with_field datagram Src value = with_address datagram 12 value
ipv4_with_field datagram Dst value = with_address datagram 16 value
ipv4_with_field datagram Dscp value = with_dscp datagram value
ipv4_with_field datagram Ttl value = with_ttl datagram value
ipv4_with_field datagram Sport value = with_port datagram (header_length datagram) value
ipv4_with_field datagram Dport value = with_port datagram (header_length datagram + 2) value
ipv4_with_field datagram _ value = datagram

-- the packet with a header checksum of 65535 written as 0, which is the same number
unfoldable pub with_header_zero : List ℕ → List ℕ
with_header_zero datagram = if two_bytes_at datagram 10 == 65535 then put_two datagram 10 0 else datagram

-- the packet with a TCP checksum of 65535 written as 0, where ports are visible
unfoldable pub with_tcp_zero : List ℕ → List ℕ
with_tcp_zero datagram =
    if (has_ports datagram && (proto_of datagram == 6))
    && (two_bytes_at datagram (checksum_offset datagram) == 65535)
    then put_two datagram (checksum_offset datagram) 0
    else datagram
