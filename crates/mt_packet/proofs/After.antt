-- The header of a packet after a write.
use Rattle.std.proofs.Common.{◌≡◌, ◌∙◌, sym, ap, refl, ℕ, ◌+◌, ◌/◌, ◌%◌, ◌<◌, ◌≤◌, List, [], ◌++◌, length, get_or, set, take, drop, Bool, true, false, if◌then◌else◌, nat_lt, length-append, inl, inr, ◌⊎◌, arith}
use Rattle.std.proofs.Math.ListN.{get_or-append}
use Rattle.std.proofs.lemmas.Bool.Decides.{nat_tests}
use Rattle.std.proofs.lemmas.List.{get_or-drop, get_or-take, length-take, length-drop, length-set}
use Rattle.mt_packet.proofs.Kept.{datagram_of-with, drop-put_two, drop-put_six}
use Rattle.mt_packet.proofs.Puts.{put_two-apart, put_four-apart, two-put}
use Rattle.mt_packet.proofs.Reading.{SameEthernet, four-put-low, ttl-fields, dscp-fields, src-fields, dst-fields, sport-fields, dport-fields}
use Rattle.mt_packet.proofs.Shape.{SameShape}
use Rattle.mt_packet.proofs.Valid.{shape-address, shape-port, shape-ttl, shape-dscp}
use Rattle.mt_packet.proofs.Views.{behind}
use Rattle.mt_packet.specs.Field.{four_bytes_at, six_bytes_at, eth_type_of, eth_dst_of, eth_src_of, arp_op_of}
use Rattle.mt_packet.specs.Header.{fields_of}
use Rattle.mt_packet.specs.Packet.{PacketState, has_ethernet, frame_of, datagram_of, with_datagram, packet_header, with_field, header_after, CanWrite, IsChecked}
use Rattle.mt_packet.specs.Write.{put_two, put_six}
use Rattle.mt_packet.specs.declared.field.Field.{Field}
use Rattle.mt_packet.specs.declared.field.Field.TheVariants.{Device, EthType, EthDst, EthSrc, ArpOp, Proto, Src, Dst, Dscp, Ecn, Sport, Dport, IcmpType, IpOk, Ports, Mf, FragOff, Ttl, Syn, Ack, Fin, Rst, Paint, Annotation}

-- bytes of one length that agree where the Ethernet header and the operation of ARP stand
agree-type : (f g : List ℕ) → length g ≡ length f → get_or g 12 0 ≡ get_or f 12 0 → get_or g 13 0 ≡ get_or f 13 0
    → eth_type_of g ≡ eth_type_of f
agree-type f g l a b = cc

agree-arp : (f g : List ℕ) → length g ≡ length f → get_or g 12 0 ≡ get_or f 12 0 → get_or g 13 0 ≡ get_or f 13 0
    → get_or g 20 0 ≡ get_or f 20 0 → get_or g 21 0 ≡ get_or f 21 0 → arp_op_of g ≡ arp_op_of f
unfolding arp_op_of
agree-arp f g l a b c d = cc

agree-dst : (f g : List ℕ) → length g ≡ length f → get_or g 0 0 ≡ get_or f 0 0 → get_or g 1 0 ≡ get_or f 1 0
    → get_or g 2 0 ≡ get_or f 2 0 → get_or g 3 0 ≡ get_or f 3 0 → get_or g 4 0 ≡ get_or f 4 0 → get_or g 5 0 ≡ get_or f 5 0
    → eth_dst_of g ≡ eth_dst_of f
unfolding eth_dst_of
agree-dst f g l a b c d e h = cc

agree-src : (f g : List ℕ) → length g ≡ length f → get_or g 6 0 ≡ get_or f 6 0 → get_or g 7 0 ≡ get_or f 7 0
    → get_or g 8 0 ≡ get_or f 8 0 → get_or g 9 0 ≡ get_or f 9 0 → get_or g 10 0 ≡ get_or f 10 0 → get_or g 11 0 ≡ get_or f 11 0
    → eth_src_of g ≡ eth_src_of f
unfolding eth_src_of
agree-src f g l a b c d e h = cc

-- a datagram of the same shape behind the same Ethernet header
pub front : (bytes e : List ℕ) (i : ℕ) → 34 ≤ length bytes → i < 14 → get_or (take 14 bytes ++ e) i 0 ≡ get_or bytes i 0
front bytes e i long low =
    let n = length-take 14 bytes in
    let here : i < length (take 14 bytes) = omega arith in
    get_or-append (take 14 bytes) e 0 i here ∙ get_or-take 14 bytes i 0 low

pub back : (bytes e : List ℕ) (i : ℕ) → 34 ≤ length bytes → get_or (take 14 bytes ++ e) (14 + i) 0 ≡ get_or e i 0
back bytes e i long =
    sym (get_or-drop 14 (take 14 bytes ++ e) i 0) ∙ ap (λ l. get_or l i 0) (behind bytes e (omega arith))

ethernet-behind : (bytes e : List ℕ) → 34 ≤ length bytes → SameShape (drop 14 bytes) e → SameEthernet bytes (take 14 bytes ++ e)
ethernet-behind bytes e long s =
    let n = s.same_length in
    let m = length-drop 14 bytes in
    let k = length-take 14 bytes in
    let j = length-append (take 14 bytes) e in
    let l : length (take 14 bytes ++ e) ≡ length bytes = omega arith in
    let b0 = front bytes e 0 long (omega arith) in
    let b1 = front bytes e 1 long (omega arith) in
    let b2 = front bytes e 2 long (omega arith) in
    let b3 = front bytes e 3 long (omega arith) in
    let b4 = front bytes e 4 long (omega arith) in
    let b5 = front bytes e 5 long (omega arith) in
    let b6 = front bytes e 6 long (omega arith) in
    let b7 = front bytes e 7 long (omega arith) in
    let b8 = front bytes e 8 long (omega arith) in
    let b9 = front bytes e 9 long (omega arith) in
    let b10 = front bytes e 10 long (omega arith) in
    let b11 = front bytes e 11 long (omega arith) in
    let b12 = front bytes e 12 long (omega arith) in
    let b13 = front bytes e 13 long (omega arith) in
    let c6 : get_or (take 14 bytes ++ e) 20 0 ≡ get_or bytes 20 0 = back bytes e 6 long ∙ s.byte_6 ∙ get_or-drop 14 bytes 6 0 in
    let c7 : get_or (take 14 bytes ++ e) 21 0 ≡ get_or bytes 21 0 = back bytes e 7 long ∙ s.byte_7 ∙ get_or-drop 14 bytes 7 0 in
    record {
      same_type = agree-type bytes _ l b12 b13;
      same_dst = agree-dst bytes _ l b0 b1 b2 b3 b4 b5;
      same_src = agree-src bytes _ l b6 b7 b8 b9 b10 b11;
      same_arp = agree-arp bytes _ l b12 b13 c6 c7;
    }

ethernet-with : (b : Bool) (bytes e : List ℕ) → 20 ≤ length (if b then drop 14 bytes else bytes)
    → SameShape (if b then drop 14 bytes else bytes) e
    → SameEthernet (if b then bytes else []) (if b then (if b then take 14 bytes ++ e else e) else [])
ethernet-with true bytes e long s = let n = length-drop 14 bytes in ethernet-behind bytes e (omega arith) s
ethernet-with false bytes e long s = record { same_type = refl; same_dst = refl; same_src = refl; same_arp = refl }

-- a datagram that is put into a checked packet
header-with : (p : PacketState) (e header : List ℕ) → IsChecked p
    → fields_of p.device (frame_of (with_datagram p e)) e p.paint p.annotation ≡ header
    → packet_header (with_datagram p e) ≡ header
header-with p e header c h =
    ap (λ d. fields_of p.device (frame_of (with_datagram p e)) d p.paint p.annotation) (datagram_of-with p e c) ∙ h

same-ethernet : (p : PacketState) (e : List ℕ) → IsChecked p → SameShape (datagram_of p) e
    → SameEthernet (frame_of p) (frame_of (with_datagram p e))
same-ethernet p e c s = ethernet-with (has_ethernet p.layer) p.bytes e c.has_fixed_part s

-- a write into the Ethernet header
same_length : (d : List ℕ) (p v : ℕ) → length (put_two d p v) ≡ length d
same_length d p v = length-set (set d p (v / 256 % 256)) (p + 1) (v % 256) ∙ length-set d p (v / 256 % 256)

six-length : (d : List ℕ) (p v : ℕ) → length (put_six d p v) ≡ length d
six-length d p v =
    same_length (put_two (put_two d p (v / 4294967296)) (p + 2) (v / 65536)) (p + 2 + 2) v
    ∙ same_length (put_two d p (v / 4294967296)) (p + 2) (v / 65536)
    ∙ same_length d p (v / 4294967296)

six-apart : (d : List ℕ) (p v i : ℕ) → (i < p) ⊎ (p + 5 < i) → get_or (put_six d p v) i 0 ≡ get_or d i 0
six-apart d p v i (inl h) =
    put_four-apart (put_two d p (v / 4294967296)) (p + 2) v i (omega arith) (omega arith) (omega arith) (omega arith)
    ∙ put_two-apart d p (v / 4294967296) i (omega arith) (omega arith)
six-apart d p v i (inr h) =
    put_four-apart (put_two d p (v / 4294967296)) (p + 2) v i (omega arith) (omega arith) (omega arith) (omega arith)
    ∙ put_two-apart d p (v / 4294967296) i (omega arith) (omega arith)

six-put : (d : List ℕ) (p v : ℕ) → p + 5 < length d → v ≤ 281474976710655 → six_bytes_at (put_six d p v) p ≡ v
six-put d p v within small =
    let n = same_length d p (v / 4294967296) in
    let high = two-put d p (v / 4294967296) (omega arith) in
    let low : four_bytes_at (put_six d p v) (p + 2) ≡ v % 4294967296 = four-put-low (put_two d p (v / 4294967296)) (p + 2) v (omega arith) in
    let a : get_or (put_six d p v) p 0 ≡ get_or (put_two d p (v / 4294967296)) p 0
    = put_four-apart (put_two d p (v / 4294967296)) (p + 2) v p (omega arith) (omega arith) (omega arith) (omega arith) in
    let b : get_or (put_six d p v) (p + 1) 0 ≡ get_or (put_two d p (v / 4294967296)) (p + 1) 0
    = put_four-apart (put_two d p (v / 4294967296)) (p + 2) v (p + 1) (omega arith) (omega arith) (omega arith) (omega arith) in
    omega arith

-- what is read after a write into the Ethernet header
read-type : (f : List ℕ) (v : ℕ) → 14 ≤ length f → v ≤ 65535 → eth_type_of (put_two f 12 v) ≡ v
read-type f v long small =
    let l = same_length f 12 v in
    let t = two-put f 12 v (omega arith) in
    let e : nat_lt (length (put_two f 12 v)) 14 ≡ false = grind (arith, nat_tests) in
    rw e (omega arith)

read-dst : (f : List ℕ) (v : ℕ) → 14 ≤ length f → v ≤ 281474976710655 → eth_dst_of (put_six f 0 v) ≡ v
unfolding eth_dst_of
read-dst f v long small =
    let l = six-length f 0 v in
    let t = six-put f 0 v (omega arith) small in
    let e : nat_lt (length (put_six f 0 v)) 14 ≡ false = grind (arith, nat_tests) in
    rw e t

read-src : (f : List ℕ) (v : ℕ) → 14 ≤ length f → v ≤ 281474976710655 → eth_src_of (put_six f 6 v) ≡ v
unfolding eth_src_of
read-src f v long small =
    let l = six-length f 6 v in
    let t = six-put f 6 v (omega arith) small in
    let e : nat_lt (length (put_six f 6 v)) 14 ≡ false = grind (arith, nat_tests) in
    rw e t

type-fields : (device : ℕ) (f d : List ℕ) (v paint annotation : ℕ) → 14 ≤ length f → v ≤ 65535
    → fields_of device (put_two f 12 v) d paint annotation
    ≡ set (set (fields_of device f d paint annotation) 1 v) 4 (arp_op_of (put_two f 12 v))
type-fields device f d v paint annotation long small =
    let l = same_length f 12 v in
    let t = read-type f v long small in
    let x = agree-dst f (put_two f 12 v) l (put_two-apart f 12 v 0 (omega arith) (omega arith)) (put_two-apart f 12 v 1 (omega arith) (omega arith)) (put_two-apart f 12 v 2 (omega arith) (omega arith)) (put_two-apart f 12 v 3 (omega arith) (omega arith)) (put_two-apart f 12 v 4 (omega arith) (omega arith)) (put_two-apart f 12 v 5 (omega arith) (omega arith)) in
    let y = agree-src f (put_two f 12 v) l (put_two-apart f 12 v 6 (omega arith) (omega arith)) (put_two-apart f 12 v 7 (omega arith) (omega arith)) (put_two-apart f 12 v 8 (omega arith) (omega arith)) (put_two-apart f 12 v 9 (omega arith) (omega arith)) (put_two-apart f 12 v 10 (omega arith) (omega arith)) (put_two-apart f 12 v 11 (omega arith) (omega arith)) in
    cc

dst-of-fields : (device : ℕ) (f d : List ℕ) (v paint annotation : ℕ) → 14 ≤ length f → v ≤ 281474976710655
    → fields_of device (put_six f 0 v) d paint annotation ≡ set (fields_of device f d paint annotation) 2 v
dst-of-fields device f d v paint annotation long small =
    let l = six-length f 0 v in
    let t = read-dst f v long small in
    let x = agree-type f (put_six f 0 v) l (six-apart f 0 v 12 (inr (omega arith))) (six-apart f 0 v 13 (inr (omega arith))) in
    let y = agree-src f (put_six f 0 v) l (six-apart f 0 v 6 (inr (omega arith))) (six-apart f 0 v 7 (inr (omega arith))) (six-apart f 0 v 8 (inr (omega arith))) (six-apart f 0 v 9 (inr (omega arith))) (six-apart f 0 v 10 (inr (omega arith))) (six-apart f 0 v 11 (inr (omega arith))) in
    let z = agree-arp f (put_six f 0 v) l (six-apart f 0 v 12 (inr (omega arith))) (six-apart f 0 v 13 (inr (omega arith))) (six-apart f 0 v 20 (inr (omega arith))) (six-apart f 0 v 21 (inr (omega arith))) in
    cc

src-of-fields : (device : ℕ) (f d : List ℕ) (v paint annotation : ℕ) → 14 ≤ length f → v ≤ 281474976710655
    → fields_of device (put_six f 6 v) d paint annotation ≡ set (fields_of device f d paint annotation) 3 v
src-of-fields device f d v paint annotation long small =
    let l = six-length f 6 v in
    let t = read-src f v long small in
    let x = agree-type f (put_six f 6 v) l (six-apart f 6 v 12 (inr (omega arith))) (six-apart f 6 v 13 (inr (omega arith))) in
    let y = agree-dst f (put_six f 6 v) l (six-apart f 6 v 0 (inl (omega arith))) (six-apart f 6 v 1 (inl (omega arith))) (six-apart f 6 v 2 (inl (omega arith))) (six-apart f 6 v 3 (inl (omega arith))) (six-apart f 6 v 4 (inl (omega arith))) (six-apart f 6 v 5 (inl (omega arith))) in
    let z = agree-arp f (put_six f 6 v) l (six-apart f 6 v 12 (inr (omega arith))) (six-apart f 6 v 13 (inr (omega arith))) (six-apart f 6 v 20 (inr (omega arith))) (six-apart f 6 v 21 (inr (omega arith))) in
    cc

-- with an Ethernet header in front, the present bytes are the frame
ethernet-header : (b : Bool) (device : ℕ) (bytes after : List ℕ) (paint annotation : ℕ) (change : List ℕ → List ℕ) → b ≡ true
    → drop 14 after ≡ drop 14 bytes
    → fields_of device after (drop 14 bytes) paint annotation ≡ change (fields_of device bytes (drop 14 bytes) paint annotation)
    → fields_of device (if b then after else []) (if b then drop 14 after else after) paint annotation
    ≡ change (fields_of device (if b then bytes else []) (if b then drop 14 bytes else bytes) paint annotation)
ethernet-header true device bytes after paint annotation change t same h =
    ap (λ d. fields_of device after d paint annotation) same ∙ h
ethernet-header false device bytes after paint annotation change t same h = cc

-- the header after a write
pub with_field-header : (p : PacketState) (field : Field) (v : ℕ) → CanWrite p field v
    → packet_header (with_field p field v) ≡ header_after p field v
with_field-header p EthType v c =
    ethernet-header (has_ethernet p.layer) p.device p.bytes (put_two p.bytes 12 v) p.paint p.annotation
    (λ h. set (set h 1 v) 4 (arp_op_of (put_two p.bytes 12 v))) c.0.is_there (drop-put_two p.bytes 12 v (omega arith))
    (type-fields p.device p.bytes (drop 14 p.bytes) v p.paint p.annotation c.0.is_whole c.1)
with_field-header p EthDst v c =
    ethernet-header (has_ethernet p.layer) p.device p.bytes (put_six p.bytes 0 v) p.paint p.annotation
    (λ h. set h 2 v) c.0.is_there (drop-put_six p.bytes 0 v (omega arith))
    (dst-of-fields p.device p.bytes (drop 14 p.bytes) v p.paint p.annotation c.0.is_whole c.1)
with_field-header p EthSrc v c =
    ethernet-header (has_ethernet p.layer) p.device p.bytes (put_six p.bytes 6 v) p.paint p.annotation
    (λ h. set h 3 v) c.0.is_there (drop-put_six p.bytes 6 v (omega arith))
    (src-of-fields p.device p.bytes (drop 14 p.bytes) v p.paint p.annotation c.0.is_whole c.1)
with_field-header p Paint v c = refl
with_field-header p Annotation v c = refl
with_field-header p Src v c =
    let least = c.0.header_is_long_enough in
    header-with p _ _ c.0
    (src-fields p.device (frame_of p) _ (datagram_of p) v p.paint p.annotation
    (same-ethernet p _ c.0 (shape-address _ 12 v (omega arith) least)) c.0 c.1)
with_field-header p Dst v c =
    let least = c.0.header_is_long_enough in
    header-with p _ _ c.0
    (dst-fields p.device (frame_of p) _ (datagram_of p) v p.paint p.annotation
    (same-ethernet p _ c.0 (shape-address _ 16 v (omega arith) least)) c.0 c.1)
with_field-header p Dscp v c =
    let least = c.0.header_is_long_enough in
    header-with p _ _ c.0
    (dscp-fields p.device (frame_of p) _ (datagram_of p) v p.paint p.annotation
    (same-ethernet p _ c.0 (shape-dscp _ v)) c.0)
with_field-header p Ttl v c =
    let least = c.0.header_is_long_enough in
    header-with p _ _ c.0
    (ttl-fields p.device (frame_of p) _ (datagram_of p) v p.paint p.annotation
    (same-ethernet p _ c.0 (shape-ttl _ v)) c.0)
with_field-header p Sport v c =
    let least = c.0.is_checked.header_is_long_enough in
    header-with p _ _ c.0.is_checked
    (sport-fields p.device (frame_of p) _ (datagram_of p) v p.paint p.annotation
    (same-ethernet p _ c.0.is_checked (shape-port _ _ v (omega arith) least)) c.0.is_checked c.0.are_visible c.1)
with_field-header p Dport v c =
    let least = c.0.is_checked.header_is_long_enough in
    header-with p _ _ c.0.is_checked
    (dport-fields p.device (frame_of p) _ (datagram_of p) v p.paint p.annotation
    (same-ethernet p _ c.0.is_checked (shape-port _ _ v (omega arith) least)) c.0.is_checked c.0.are_visible c.1)
with_field-header p Device v c = absurd c
with_field-header p ArpOp v c = absurd c
with_field-header p Proto v c = absurd c
with_field-header p Ecn v c = absurd c
with_field-header p IcmpType v c = absurd c
with_field-header p IpOk v c = absurd c
with_field-header p Ports v c = absurd c
with_field-header p Mf v c = absurd c
with_field-header p FragOff v c = absurd c
with_field-header p Syn v c = absurd c
with_field-header p Ack v c = absurd c
with_field-header p Fin v c = absurd c
with_field-header p Rst v c = absurd c

-- the header of a written packet
pub written-header : (p q : PacketState) (field : Field) (v : ℕ) → CanWrite p field v → q ≡ with_field p field v
    → packet_header q ≡ header_after p field v
written-header p q field v c e = ap (λ r. packet_header r) e ∙ with_field-header p field v c
