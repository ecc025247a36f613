-- The definitions tried on frames of which the headers and the checksums are known.
use Rattle.std.proofs.Common.{◌≡◌, refl, ℕ, List, [], ◌∷◌, drop}
use Rattle.mt_packet.specs.Checksum.{words_of, ones_complement_sum, checksum_after_write, transport_after_write}
use Rattle.mt_packet.specs.Field.{eth_dst_of, eth_src_of, arp_op_of}
use Rattle.mt_packet.specs.Header.{header_of}
use Rattle.mt_packet.specs.Ipv4.{is_readable, is_valid_ipv4, has_message, has_ports, proto_of, src_of, dst_of, dscp_of, ecn_of, sport_of, dport_of, icmp_type_of, ip_ok_of, ports_of, mf_of, frag_off_of, ttl_of, tcp_flags_of, syn_of, ack_of, fin_of, rst_of}
use Rattle.mt_packet.specs.Write.{header_checksum, with_header_checksum, with_ttl}

-- UDP from 10.0.0.5:5000 to 198.51.100.9:53
abbrev udp : List ℕ
udp =
    2 ∷ 0 ∷ 0 ∷ 0 ∷ 0 ∷ 2 ∷ 2 ∷ 0 ∷ 0 ∷ 0 ∷ 0 ∷ 1 ∷ 8 ∷ 0 ∷ 69 ∷ 0 ∷ 0 ∷ 32 ∷ 0 ∷ 1 ∷ 0 ∷ 0 ∷
    64 ∷ 17 ∷ 70 ∷ 139 ∷ 10 ∷ 0 ∷ 0 ∷ 5 ∷ 198 ∷ 51 ∷ 100 ∷ 9 ∷ 19 ∷ 136 ∷ 0 ∷ 53 ∷ 0 ∷ 12 ∷ 243 ∷
    16 ∷ 97 ∷ 98 ∷ 99 ∷ 100 ∷ []

-- TCP with SYN from 10.0.0.5:5000 to 198.51.100.9:80
abbrev tcp : List ℕ
tcp =
    2 ∷ 0 ∷ 0 ∷ 0 ∷ 0 ∷ 2 ∷ 2 ∷ 0 ∷ 0 ∷ 0 ∷ 0 ∷ 1 ∷ 8 ∷ 0 ∷ 69 ∷ 0 ∷ 0 ∷ 40 ∷ 0 ∷ 2 ∷ 0 ∷ 0 ∷
    64 ∷ 6 ∷ 70 ∷ 141 ∷ 10 ∷ 0 ∷ 0 ∷ 5 ∷ 198 ∷ 51 ∷ 100 ∷ 9 ∷ 19 ∷ 136 ∷ 0 ∷ 80 ∷ 0 ∷ 0 ∷ 0 ∷ 1 ∷
    0 ∷ 0 ∷ 0 ∷ 0 ∷ 80 ∷ 2 ∷ 32 ∷ 0 ∷ 18 ∷ 52 ∷ 0 ∷ 0 ∷ []

udp-header : header_of 1 udp
    ≡ (1 ∷ 2048 ∷ 2199023255554 ∷ 2199023255553 ∷ 65536 ∷ 17 ∷ 167772165 ∷ 3325256713 ∷ 0 ∷ 0 ∷ 5000 ∷ 53 ∷ 256 ∷ 1 ∷ 1 ∷ 0 ∷ 0 ∷ 64 ∷ 0 ∷ 0 ∷ 0 ∷ 0 ∷ 0 ∷ 0 ∷ [])
unfolding header_of is_readable is_valid_ipv4 has_message has_ports eth_dst_of eth_src_of arp_op_of proto_of src_of dst_of dscp_of ecn_of sport_of dport_of icmp_type_of ip_ok_of ports_of mf_of frag_off_of ttl_of tcp_flags_of syn_of ack_of fin_of rst_of
udp-header = refl

tcp-header : header_of 1 tcp
    ≡ (1 ∷ 2048 ∷ 2199023255554 ∷ 2199023255553 ∷ 65536 ∷ 6 ∷ 167772165 ∷ 3325256713 ∷ 0 ∷ 0 ∷ 5000 ∷ 80 ∷ 256 ∷ 1 ∷ 1 ∷ 0 ∷ 0 ∷ 64 ∷ 1 ∷ 0 ∷ 0 ∷ 0 ∷ 0 ∷ 0 ∷ [])
unfolding header_of is_readable is_valid_ipv4 has_message has_ports eth_dst_of eth_src_of arp_op_of proto_of src_of dst_of dscp_of ecn_of sport_of dport_of icmp_type_of ip_ok_of ports_of mf_of frag_off_of ttl_of tcp_flags_of syn_of ack_of fin_of rst_of
tcp-header = refl

-- the header checksum of the first frame, and the sum of its header
udp-checksum : header_checksum (drop 14 udp) ≡ 0x468b
udp-checksum = refl

-- the example of RFC 1071
sum-example : ones_complement_sum (words_of (0x00 ∷ 0x01 ∷ 0xf2 ∷ 0x03 ∷ 0xf4 ∷ 0xf5 ∷ 0xf6 ∷ 0xf7 ∷ [])) ≡ 0xddf2
sum-example = refl

-- the example of RFC 1624
difference-example : checksum_after_write 0xdd2f (0x5555 ∷ []) (0x3285 ∷ []) ≡ 0
difference-example = refl

-- a source written in UDP: with a checksum, with one that becomes 0, and with none
udp-mended : transport_after_write 17 0xf310 (0x0a00 ∷ 0x0005 ∷ 0x1388 ∷ []) (0xcb00 ∷ 0x7101 ∷ 0x0400 ∷ []) ≡ 0xd09b
udp-mended = refl

udp-full : transport_after_write 17 0x2275 (0x0a00 ∷ 0x0005 ∷ 0x1388 ∷ []) (0xcb00 ∷ 0x7101 ∷ 0x0400 ∷ []) ≡ 0xffff
udp-full = refl

udp-none : transport_after_write 17 0 (0x0a00 ∷ 0x0005 ∷ 0x1388 ∷ []) (0xcb00 ∷ 0x7101 ∷ 0x0400 ∷ []) ≡ 0
udp-none = refl

-- a wrong checksum in TCP stays wrong by the same error
tcp-mended : transport_after_write 6 0x1234 (0xc633 ∷ 0x6409 ∷ 0x0a00 ∷ 0x0005 ∷ 0x1388 ∷ []) (0xc633 ∷ 0x640a ∷ 0xc000 ∷ 0x0207 ∷ 0x07d0 ∷ []) ≡ 0x65e8
tcp-mended = refl

-- the time to live falls from 64 to 63
udp-aged : with_ttl (drop 14 udp) 63
    ≡ (69 ∷ 0 ∷ 0 ∷ 32 ∷ 0 ∷ 1 ∷ 0 ∷ 0 ∷ 63 ∷ 17 ∷ 71 ∷ 139 ∷ 10 ∷ 0 ∷ 0 ∷ 5 ∷ 198 ∷ 51 ∷ 100 ∷ 9 ∷ 19 ∷ 136 ∷ 0 ∷ 53 ∷ 0 ∷ 12 ∷ 243 ∷ 16 ∷ 97 ∷ 98 ∷ 99 ∷ 100 ∷ [])
unfolding with_ttl with_header_checksum
udp-aged = refl
