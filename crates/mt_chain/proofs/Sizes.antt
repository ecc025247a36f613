-- The length of a packet's bytes behind what may be done to it.
use Rattle.std.proofs.Common.{◌≡◌, ◌∙◌, sym, ap, refl, ℕ, ◌+◌, ◌/◌, ◌%◌, ◌≤◌, Bool, true, false, List, ◌++◌, length, take, drop, set, arith}
use Rattle.std.specs.Prelude.{if◌then◌else◌}
use Rattle.std.proofs.lemmas.List.{length-set, length-append, length-take, take-append-drop}
use Rattle.mt_packet.specs.Ipv4.{total_length}
use Rattle.mt_packet.specs.Packet.{PacketState, has_ethernet, datagram_of, with_datagram, with_field, checked_datagram}
use Rattle.mt_packet.specs.Write.{put_two, put_four, put_six, checksum_offset, with_header_checksum, with_transport_checksum, with_address, with_port, with_dscp, with_ttl, ipv4_with_field, with_header_zero, with_tcp_zero}
use Rattle.mt_packet.specs.declared.field.Field.{Field}
use Rattle.mt_packet.specs.declared.field.Field.TheVariants.{EthType, EthDst, EthSrc, Src, Dst, Dscp, Sport, Dport, Ttl, Paint, Annotation}

length-put_two : (d : List ℕ) (p v : ℕ) → length (put_two d p v) ≡ length d
length-put_two d p v = length-set (set d p (v / 256 % 256)) (p + 1) (v % 256) ∙ length-set d p (v / 256 % 256)

length-put_four : (d : List ℕ) (p v : ℕ) → length (put_four d p v) ≡ length d
length-put_four d p v = length-put_two (put_two d p (v / 65536)) (p + 2) v ∙ length-put_two d p (v / 65536)

length-put_six : (d : List ℕ) (p v : ℕ) → length (put_six d p v) ≡ length d
length-put_six d p v = length-put_four (put_two d p (v / 4294967296)) (p + 2) v ∙ length-put_two d p (v / 4294967296)

same_either : (d e : List ℕ) (b : Bool) → length e ≡ length d → length (if b then e else d) ≡ length d
same_either d e true h = h
same_either d e false h = refl

length-header_checksum : (d : List ℕ) → length (with_header_checksum d) ≡ length d
unfolding with_header_checksum
length-header_checksum d = length-put_two d 10 _

length-transport_checksum : (d old new : List ℕ) → length (with_transport_checksum d old new) ≡ length d
unfolding with_transport_checksum
length-transport_checksum d old new = same_either d _ _ (length-put_two d (checksum_offset d) _)

length-address : (d : List ℕ) (p v : ℕ) → length (with_address d p v) ≡ length d
unfolding with_address
length-address d p v =
    length-transport_checksum (with_header_checksum (put_four d p v)) _ _ ∙ length-header_checksum (put_four d p v) ∙ length-put_four d p v

length-port : (d : List ℕ) (p v : ℕ) → length (with_port d p v) ≡ length d
unfolding with_port
length-port d p v = length-transport_checksum (put_two d p v) _ _ ∙ length-put_two d p v

length-dscp : (d : List ℕ) (v : ℕ) → length (with_dscp d v) ≡ length d
unfolding with_dscp
length-dscp d v = length-header_checksum _ ∙ length-set d 1 _

length-ttl : (d : List ℕ) (v : ℕ) → length (with_ttl d v) ≡ length d
unfolding with_ttl
length-ttl d v = length-header_checksum _ ∙ length-set d 8 _

length-ipv4 : (d : List ℕ) (field : Field) (v : ℕ) → length (ipv4_with_field d field v) ≡ length d
length-ipv4 d Src v = length-address d 12 v
length-ipv4 d Dst v = length-address d 16 v
length-ipv4 d Dscp v = length-dscp d v
length-ipv4 d Ttl v = length-ttl d v
length-ipv4 d Sport v = length-port d _ v
length-ipv4 d Dport v = length-port d _ v
length-ipv4 d field v = refl

parts_of : (bytes e : List ℕ) (b : Bool) → length (if b then take 14 bytes ++ e else e) + length (if b then drop 14 bytes else bytes) ≡ length bytes + length e
parts_of bytes e true =
    let joined : length (take 14 bytes ++ e) ≡ length (take 14 bytes) + length e = length-append (take 14 bytes) e in
    let all : length (take 14 bytes) + length (drop 14 bytes) ≡ length bytes = sym (length-append (take 14 bytes) (drop 14 bytes)) ∙ ap length (take-append-drop 14 bytes) in
    omega (arith, joined, all)
parts_of bytes e false = omega arith

-- other data make the packet longer or shorter by as much
pub length-with_datagram : (p : PacketState) (e : List ℕ) → length (with_datagram p e).bytes + length (datagram_of p) ≡ length p.bytes + length e
length-with_datagram p e = parts_of p.bytes e (has_ethernet p.layer)

same_length : (p : PacketState) (e : List ℕ) → length e ≡ length (datagram_of p) → length (with_datagram p e).bytes ≡ length p.bytes
same_length p e same = let all = length-with_datagram p e in omega (arith, same, all)

-- a write of a field leaves the length
pub length-with_field : (p : PacketState) (field : Field) (v : ℕ) → length (with_field p field v).bytes ≡ length p.bytes
length-with_field p EthType v = length-put_two p.bytes 12 v
length-with_field p EthDst v = length-put_six p.bytes 0 v
length-with_field p EthSrc v = length-put_six p.bytes 6 v
length-with_field p Paint v = refl
length-with_field p Annotation v = refl
length-with_field p field v = same_length p _ (length-ipv4 (datagram_of p) field v)

length-header_zero : (d : List ℕ) → length (with_header_zero d) ≡ length d
unfolding with_header_zero
length-header_zero d = same_either d _ _ (length-put_two d 10 0)

length-tcp_zero : (d : List ℕ) → length (with_tcp_zero d) ≡ length d
unfolding with_tcp_zero
length-tcp_zero d = same_either d _ _ (length-put_two d (checksum_offset d) 0)

-- a check may only cut
pub checked_no_longer : (d : List ℕ) → length (checked_datagram d) ≤ length d
unfolding checked_datagram
checked_no_longer d =
    let kept : length (with_tcp_zero (with_header_zero (take (total_length d) d))) ≡ length (take (total_length d) d) =
    length-tcp_zero (with_header_zero (take (total_length d) d)) ∙ length-header_zero (take (total_length d) d) in
    let cut = length-take (total_length d) d in
    omega (arith, kept, cut)
