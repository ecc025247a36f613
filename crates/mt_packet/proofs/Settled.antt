-- A write of the value that is there changes nothing exactly where the checksums have their written form.
use Rattle.std.proofs.Common.{◌≡◌, ◌∙◌, ◌↔◌, sym, ap, refl, ℕ, ◌+◌, ◌*◌, ◌/◌, ◌%◌, ◌≤◌, List, [], ◌++◌, length, get_or, take, drop, sum, Bool, true, false, eqb, nat_lt, ◌&&◌, if◌then◌else◌, inl, inr, arith}
use Rattle.std.proofs.lemmas.Bool.Decides.{nat_tests}
use Rattle.std.proofs.lemmas.List.{take-append-drop}
use Rattle.mt_packet.proofs.Forms.{Part, source, destination, code_point, life, source_port, destination_port, context, written, change, form, change-clear, within-ports}
use Rattle.mt_packet.proofs.Kept.{datagram_of-with}
use Rattle.mt_packet.proofs.Mends.{perform-same, sum_of, header-after, transport-after}
use Rattle.mt_packet.proofs.PacketWrites.{type, receiver, sender, part, after, side_bytes}
use Rattle.mt_packet.proofs.Puts.{message_proto, ports-cases}
use Rattle.mt_packet.proofs.Ranges.{AreBytes-drop}
use Rattle.mt_packet.proofs.Reading.{valid-readable}
use Rattle.mt_packet.proofs.Right.{header_sum, header_sum-held, ones_complement-right}
use Rattle.mt_packet.proofs.Spots.{sets, Holds, sets-same}
use Rattle.mt_packet.specs.Checksum.{words_of, negative_of, transport_after_write}
use Rattle.mt_packet.specs.Field.{two_bytes_at, four_bytes_at, eth_type_of, eth_dst_of, eth_src_of}
use Rattle.mt_packet.specs.Header.{AreBytes}
use Rattle.mt_packet.specs.Ipv4.{IsValidIpv4, header_length, has_ports, proto_of, src_of, dst_of, dscp_of, ttl_of, sport_of, dport_of}
use Rattle.mt_packet.specs.Packet.{PacketState, has_ethernet, frame_of, datagram_of, with_datagram, IsChecked, HasEthernet}
use Rattle.mt_packet.specs.Write.{put_two, checksum_offset}
use Rattle.mt_packet.specs.WriteLaws.{SameWriteKeeps, WrittenSumsSettle}
use Rattle.mt_packet.specs.declared.field.Field.TheVariants.{Device, EthType, EthDst, EthSrc, ArpOp, Proto, Src, Dst, Dscp, Ecn, Sport, Dport, IcmpType, IpOk, Ports, Mf, FragOff, Ttl, Syn, Ack, Fin, Rst, Paint, Annotation}

-- a valid checksum in its written form is the header checksum
header-is-sum : (d : List ℕ) → IsValidIpv4 d → two_bytes_at d 10 ≤ 65534 → sum_of (header_length d) d ≡ two_bytes_at d 10
header-is-sum d v small =
    let least = v.header_is_long_enough in
    let within : header_length d ≤ length d = (let a = v.header_is_within in let b = v.packet_is_within in omega arith) in
    let held = header_sum-held d least within in
    let right = ones_complement-right (header_sum d) v.sum_is_right in
    only (sum (words_of (take (header_length d) (put_two d 10 0)))) (two_bytes_at d 10) (header_sum d) held right.1 small
  where
    only : (rest c whole : ℕ) → whole ≡ rest + c → whole % 65535 ≡ 0 → c ≤ 65534 → negative_of rest ≡ c
    only rest c whole a b s = omega arith

-- a write of the words that are there keeps a transport checksum in its written form
after-same : (protocol c : ℕ) (old new : List ℕ) → sum old ≡ sum new → c ≤ 65535 → (eqb protocol 17 ≡ false → c ≤ 65534)
    → transport_after_write protocol c old new ≡ c
after-same protocol c old new e small tcp =
    by_protocol (eqb protocol 17) tcp (difference c (sum old) (sum new) e)
  where
    difference : (c s t : ℕ) → s ≡ t → (c + s + negative_of t) % 65535 ≡ c % 65535
    difference c s t e = omega arith

    by_protocol : (b : Bool) → (b ≡ false → c ≤ 65534) → (c + sum old + negative_of (sum new)) % 65535 ≡ c % 65535
        → (if b then (if eqb c 0 then 0 else (if eqb ((c + sum old + negative_of (sum new)) % 65535) 0 then 65535 else ((c + sum old + negative_of (sum new)) % 65535))) else ((c + sum old + negative_of (sum new)) % 65535)) ≡ c
    by_protocol true t d = rw d (grind (arith, nat_tests))
    by_protocol false t d = let l = t refl in d ∙ omega arith

tcp-ports : (d : List ℕ) → has_ports d ≡ true → eqb (proto_of d) 17 ≡ false → proto_of d ≡ 6
tcp-ports d h n =
    elim (ports-cases d h) [
      | inl t ↦ message_proto d 6 20 t
      | inr u ↦ (let p = message_proto d 17 8 u in grind (arith, nat_tests))
    ]

-- the written form of the checksums of a datagram
abbrev pub HeaderForm : List ℕ → Type 0
HeaderForm d = two_bytes_at d 10 ≤ 65534

abbrev pub TransportForm : List ℕ → Type 0
TransportForm d = has_ports d ≡ true → proto_of d ≡ 6 → two_bytes_at d (checksum_offset d) ≤ 65534

abbrev pub PartForm : List ℕ → Part → Type 0
PartForm d source = HeaderForm d × TransportForm d
PartForm d destination = HeaderForm d × TransportForm d
PartForm d code_point = HeaderForm d
PartForm d life = HeaderForm d
PartForm d source_port = TransportForm d
PartForm d destination_port = TransportForm d

-- the value of a field
abbrev Read : List ℕ → Part → ℕ → Type 0
Read d source v = v ≡ four_bytes_at d 12
Read d destination v = v ≡ four_bytes_at d 16
Read d code_point v = v ≡ get_or d 1 0 / 4
Read d life v = v ≡ get_or d 8 0
Read d source_port v = v ≡ two_bytes_at d (header_length d)
Read d destination_port v = v ≡ two_bytes_at d (header_length d + 2)

holds : (d : List ℕ) (q : Part) (v : ℕ) → AreBytes d → Read d q v → Holds (header_length d) (change (header_length d) d q v).bytes d
holds d source v bytes r =
    let b0 = bytes 12 in
    let b1 = bytes 13 in
    let b2 = bytes 14 in
    let b3 = bytes 15 in
    (omega arith, (omega arith, (omega arith, (omega arith, tt))))
holds d destination v bytes r =
    let b0 = bytes 16 in
    let b1 = bytes 17 in
    let b2 = bytes 18 in
    let b3 = bytes 19 in
    (omega arith, (omega arith, (omega arith, (omega arith, tt))))
holds d code_point v bytes r = (omega arith, tt)
holds d life v bytes r = (sym r, tt)
holds d source_port v bytes r =
    let b0 = bytes (header_length d + 0) in
    let b1 = bytes (header_length d + 1) in
    let e : get_or d (header_length d) 0 ≡ get_or d (header_length d + 0) 0 = ap (λ n. get_or d n 0) (omega arith) in
    let f : get_or d (header_length d + 1) 0 ≡ get_or d (header_length d + 1) 0 = ap (λ n. get_or d n 0) (omega arith) in
    (omega arith, (omega arith, tt))
holds d destination_port v bytes r =
    let b0 = bytes (header_length d + 2) in
    let b1 = bytes (header_length d + 3) in
    let e : get_or d (header_length d + 2) 0 ≡ get_or d (header_length d + 2) 0 = ap (λ n. get_or d n 0) (omega arith) in
    let f : get_or d (header_length d + 2 + 1) 0 ≡ get_or d (header_length d + 3) 0 = ap (λ n. get_or d n 0) (omega arith) in
    (omega arith, (omega arith, tt))

words-same : (d : List ℕ) (q : Part) (v : ℕ) → AreBytes d → Read d q v
    → sum (change (header_length d) d q v).old ≡ sum (change (header_length d) d q v).new
words-same d source v bytes r =
    let b0 = bytes 12 in
    let b1 = bytes 13 in
    let b2 = bytes 14 in
    let b3 = bytes 15 in
    omega arith
words-same d destination v bytes r =
    let b0 = bytes 16 in
    let b1 = bytes 17 in
    let b2 = bytes 18 in
    let b3 = bytes 19 in
    omega arith
words-same d code_point v bytes r = refl
words-same d life v bytes r = refl
words-same d source_port v bytes r =
    let e : get_or d (header_length d) 0 ≡ get_or d (header_length d + 0) 0 = ap (λ n. get_or d n 0) (omega arith) in
    let f : get_or d (header_length d + 1) 0 ≡ get_or d (header_length d + 1) 0 = ap (λ n. get_or d n 0) (omega arith) in
    omega arith
words-same d destination_port v bytes r =
    let e : get_or d (header_length d + 2) 0 ≡ get_or d (header_length d + 2) 0 = ap (λ n. get_or d n 0) (omega arith) in
    let f : get_or d (header_length d + 2 + 1) 0 ≡ get_or d (header_length d + 3) 0 = ap (λ n. get_or d n 0) (omega arith) in
    omega arith

-- which checksums a write mends
header-needed : (d : List ℕ) (q : Part) (v : ℕ) → PartForm d q → (change (header_length d) d q v).in_header ≡ true → HeaderForm d
header-needed d source v f e = f.0
header-needed d destination v f e = f.0
header-needed d code_point v f e = f
header-needed d life v f e = f
header-needed d source_port v f e = cc
header-needed d destination_port v f e = cc

transport-needed : (d : List ℕ) (q : Part) (v : ℕ) → PartForm d q → ((change (header_length d) d q v).in_transport && has_ports d) ≡ true
    → (has_ports d ≡ true) × TransportForm d
transport-needed d source v f e = (e, f.1)
transport-needed d destination v f e = (e, f.1)
transport-needed d code_point v f e = cc
transport-needed d life v f e = cc
transport-needed d source_port v f e = (e, f)
transport-needed d destination_port v f e = (e, f)

-- a write of the value that is there, in a datagram whose checksums have their written form
pub same-part : (d : List ℕ) (q : Part) (v : ℕ) → IsValidIpv4 d → AreBytes d → Read d q v → PartForm d q → written d q v ≡ d
same-part d q v valid bytes r f =
    form d q v valid
    ∙ perform-same (context d) (change (header_length d) d q v) d bytes (holds d q v bytes r)
    (λ e. header-is-sum d valid (header-needed d q v f e))
    (λ e. let t = transport-needed d q v f e in kept t.0 t.1)
  where
    kept : has_ports d ≡ true → TransportForm d
        → transport_after_write (proto_of d) (two_bytes_at d (checksum_offset d)) (change (header_length d) d q v).old (change (header_length d) d q v).new
        ≡ two_bytes_at d (checksum_offset d)
    kept h t =
        let b0 = bytes (checksum_offset d) in
        let b1 = bytes (checksum_offset d + 1) in
        after-same (proto_of d) (two_bytes_at d (checksum_offset d)) (change (header_length d) d q v).old (change (header_length d) d q v).new
        (words-same d q v bytes r) (omega arith) (λ n. t h (tcp-ports d h n))

-- a write leaves each checksum that it mends in its written form
pub mended-header : (d : List ℕ) (q : Part) (v : ℕ) → IsValidIpv4 d
    → ((change (header_length d) d q v).in_header ≡ false → HeaderForm d) → HeaderForm (written d q v)
mended-header d q v valid h =
    let e = ap (λ l. two_bytes_at l 10) (form d q v valid) in
    let a = header-after (context d) (change (header_length d) d q v) d valid.header_is_long_enough valid.has_fixed_part (change-clear d d q v) h in
    omega arith

pub mended-transport : (d : List ℕ) (q : Part) (v : ℕ) → IsValidIpv4 d → has_ports d ≡ true → proto_of d ≡ 6
    → (((change (header_length d) d q v).in_transport && has_ports d) ≡ false → two_bytes_at d (checksum_offset d) ≤ 65534)
    → two_bytes_at (written d q v) (checksum_offset d) ≤ 65534
mended-transport d q v valid h p t =
    let e = ap (λ l. two_bytes_at l (checksum_offset d)) (form d q v valid) in
    let a = transport-after (context d) (change (header_length d) d q v) d valid.header_is_long_enough (change-clear d d q v) (within-ports d) h p t in
    omega arith

header-from : (d : List ℕ) (q : Part) (v : ℕ) → IsValidIpv4 d → (change (header_length d) d q v).in_header ≡ true → written d q v ≡ d → HeaderForm d
header-from d q v valid mends e =
    let a = mended-header d q v valid (λ f. cc) in
    let b = ap (λ l. two_bytes_at l 10) e in
    omega arith

transport-from : (d : List ℕ) (q : Part) (v : ℕ) → IsValidIpv4 d → (change (header_length d) d q v).in_transport ≡ true → written d q v ≡ d → TransportForm d
transport-from d q v valid mends e h p =
    let a = mended-transport d q v valid h p (λ f. cc) in
    let b = ap (λ l. two_bytes_at l (checksum_offset d)) e in
    omega arith

-- where nothing changed, the checksums had their written form
pub form-from : (d : List ℕ) (q : Part) (v : ℕ) → IsValidIpv4 d → written d q v ≡ d → PartForm d q
form-from d source v valid e = (header-from d source v valid refl e, transport-from d source v valid refl e)
form-from d destination v valid e = (header-from d destination v valid refl e, transport-from d destination v valid refl e)
form-from d code_point v valid e = header-from d code_point v valid refl e
form-from d life v valid e = header-from d life v valid refl e
form-from d source_port v valid e = transport-from d source_port v valid refl e
form-from d destination_port v valid e = transport-from d destination_port v valid refl e

-- a packet whose datagram is put in again
with-own : (p : PacketState) → with_datagram p (datagram_of p) ≡ p
with-own p = ap (λ b. record p { bytes = b }) (by_layer (has_ethernet p.layer))
  where
    by_layer : (b : Bool) → (if b then take 14 p.bytes ++ (if b then drop 14 p.bytes else p.bytes) else (if b then drop 14 p.bytes else p.bytes)) ≡ p.bytes
    by_layer true = take-append-drop 14 p.bytes
    by_layer false = refl

pub datagram-bytes : (p : PacketState) → AreBytes p.bytes → AreBytes (datagram_of p)
datagram-bytes p h = by_layer (has_ethernet p.layer)
  where
    by_layer : (b : Bool) → AreBytes (if b then drop 14 p.bytes else p.bytes)
    by_layer true = AreBytes-drop p.bytes 14 h
    by_layer false = h

same-after : (p : PacketState) (q : Part) (v : ℕ) → IsChecked p → AreBytes p.bytes → Read (datagram_of p) q v
    → (after p (part q) v ≡ p) ↔ PartForm (datagram_of p) q
same-after p q v c bytes r = (
  λ e. form-from (datagram_of p) q v c (sym (datagram_of-with p (written (datagram_of p) q v) c) ∙ ap (λ s. datagram_of s) e),
  λ f. ap (with_datagram p) (same-part (datagram_of p) q v c (datagram-bytes p bytes) r f) ∙ with-own p,
)

-- the values that are read in a valid datagram
read-src : (d : List ℕ) → IsValidIpv4 d → src_of d ≡ four_bytes_at d 12
unfolding src_of
read-src d v = let r = valid-readable d v in cc

read-dst : (d : List ℕ) → IsValidIpv4 d → dst_of d ≡ four_bytes_at d 16
unfolding dst_of
read-dst d v = let r = valid-readable d v in cc

read-dscp : (d : List ℕ) → IsValidIpv4 d → dscp_of d ≡ get_or d 1 0 / 4
unfolding dscp_of
read-dscp d v = let r = valid-readable d v in cc

read-ttl : (d : List ℕ) → IsValidIpv4 d → ttl_of d ≡ get_or d 8 0
unfolding ttl_of
read-ttl d v = let r = valid-readable d v in cc

read-sport : (d : List ℕ) → has_ports d ≡ true → sport_of d ≡ two_bytes_at d (header_length d)
unfolding sport_of
read-sport d h = cc

read-dport : (d : List ℕ) → has_ports d ≡ true → dport_of d ≡ two_bytes_at d (header_length d + 2)
unfolding dport_of
read-dport d h = cc

-- the fields of an Ethernet header
side-type : (b : List ℕ) → 14 ≤ length b → AreBytes b → put_two b 12 (eth_type_of b) ≡ b
side-type b long bytes =
    let e : nat_lt (length b) 14 ≡ false = grind (arith, nat_tests) in
    let b0 = bytes 12 in
    let b1 = bytes 13 in
    let v : eth_type_of b ≡ two_bytes_at b 12 = cc in
    sets-same 20 (side_bytes type (eth_type_of b)) b (omega arith, (omega arith, tt))

six-held : (b : List ℕ) (p v : ℕ) → AreBytes b → v ≡ two_bytes_at b p * 4294967296 + (two_bytes_at b (p + 2) * 65536 + two_bytes_at b (p + 2 + 2))
    → (get_or b p 0 ≡ v / 4294967296 / 256 % 256) × (get_or b (p + 1) 0 ≡ v / 4294967296 % 256)
    × (get_or b (p + 2) 0 ≡ v / 65536 / 256 % 256) × (get_or b (p + 2 + 1) 0 ≡ v / 65536 % 256)
    × (get_or b (p + 2 + 2) 0 ≡ v / 256 % 256) × (get_or b (p + 2 + 2 + 1) 0 ≡ v % 256)
six-held b p v bytes e =
    let b0 = bytes p in
    let b1 = bytes (p + 1) in
    let b2 = bytes (p + 2) in
    let b3 = bytes (p + 2 + 1) in
    let b4 = bytes (p + 2 + 2) in
    let b5 = bytes (p + 2 + 2 + 1) in
    let low_four = two_bytes_at b (p + 2) * 65536 + two_bytes_at b (p + 2 + 2) in
    let q : v / 4294967296 ≡ two_bytes_at b p = omega arith in
    let r : v / 65536 ≡ two_bytes_at b p * 65536 + two_bytes_at b (p + 2) = omega arith in
    (omega arith, omega arith, omega arith, omega arith, omega arith, omega arith)

side-dst : (b : List ℕ) → 14 ≤ length b → AreBytes b → sets 20 (side_bytes receiver (eth_dst_of b)) b ≡ b
unfolding eth_dst_of
side-dst b long bytes =
    let e : nat_lt (length b) 14 ≡ false = grind (arith, nat_tests) in
    let h = six-held b 0 (eth_dst_of b) bytes (cc) in
    sets-same 20 (side_bytes receiver (eth_dst_of b)) b (h.0, (h.1, (h.2, (h.3, (h.4, (h.5, tt))))))

side-src : (b : List ℕ) → 14 ≤ length b → AreBytes b → sets 20 (side_bytes sender (eth_src_of b)) b ≡ b
unfolding eth_src_of
side-src b long bytes =
    let e : nat_lt (length b) 14 ≡ false = grind (arith, nat_tests) in
    let h = six-held b 6 (eth_src_of b) bytes (cc) in
    sets-same 20 (side_bytes sender (eth_src_of b)) b (h.0, (h.1, (h.2, (h.3, (h.4, (h.5, tt))))))

-- with an Ethernet header in front the frame is all bytes
frame-whole : (p : PacketState) → HasEthernet p → frame_of p ≡ p.bytes
frame-whole p h = by_layer (has_ethernet p.layer) h.is_there
  where
    by_layer : (b : Bool) → b ≡ true → (if b then p.bytes else []) ≡ p.bytes
    by_layer true t = refl
    by_layer false t = cc

pub same-write-keeps : SameWriteKeeps
same-write-keeps p Device bytes c = absurd c
same-write-keeps p EthType bytes c =
    (λ _. tt, λ _. ap (λ b. record p { bytes = b }) (ap (λ x. sets 20 (side_bytes type (eth_type_of x)) p.bytes) (frame-whole p c.0) ∙ side-type p.bytes c.0.is_whole bytes))
same-write-keeps p EthDst bytes c =
    (λ _. tt, λ _. ap (λ b. record p { bytes = b }) (ap (λ x. sets 20 (side_bytes receiver (eth_dst_of x)) p.bytes) (frame-whole p c.0) ∙ side-dst p.bytes c.0.is_whole bytes))
same-write-keeps p EthSrc bytes c =
    (λ _. tt, λ _. ap (λ b. record p { bytes = b }) (ap (λ x. sets 20 (side_bytes sender (eth_src_of x)) p.bytes) (frame-whole p c.0) ∙ side-src p.bytes c.0.is_whole bytes))
same-write-keeps p ArpOp bytes c = absurd c
same-write-keeps p Proto bytes c = absurd c
same-write-keeps p Src bytes c = same-after p source _ c.0 bytes (read-src (datagram_of p) c.0)
same-write-keeps p Dst bytes c = same-after p destination _ c.0 bytes (read-dst (datagram_of p) c.0)
same-write-keeps p Dscp bytes c = same-after p code_point _ c.0 bytes (read-dscp (datagram_of p) c.0)
same-write-keeps p Ecn bytes c = absurd c
same-write-keeps p Sport bytes c =
    same-after p source_port _ c.0.is_checked bytes (read-sport (datagram_of p) c.0.are_visible)
same-write-keeps p Dport bytes c =
    same-after p destination_port _ c.0.is_checked bytes (read-dport (datagram_of p) c.0.are_visible)
same-write-keeps p IcmpType bytes c = absurd c
same-write-keeps p IpOk bytes c = absurd c
same-write-keeps p Ports bytes c = absurd c
same-write-keeps p Mf bytes c = absurd c
same-write-keeps p FragOff bytes c = absurd c
same-write-keeps p Ttl bytes c = same-after p life _ c.0 bytes (read-ttl (datagram_of p) c.0)
same-write-keeps p Syn bytes c = absurd c
same-write-keeps p Ack bytes c = absurd c
same-write-keeps p Fin bytes c = absurd c
same-write-keeps p Rst bytes c = absurd c
same-write-keeps p Paint bytes c = (λ _. tt, λ _. refl)
same-write-keeps p Annotation bytes c = (λ _. tt, λ _. refl)

pub written-sums-settle : WrittenSumsSettle
written-sums-settle p Device h = tt
written-sums-settle p EthType h = tt
written-sums-settle p EthDst h = tt
written-sums-settle p EthSrc h = tt
written-sums-settle p ArpOp h = tt
written-sums-settle p Proto h = tt
written-sums-settle p Src h = (h.header_is_written, h.transport_is_written)
written-sums-settle p Dst h = (h.header_is_written, h.transport_is_written)
written-sums-settle p Dscp h = h.header_is_written
written-sums-settle p Ecn h = tt
written-sums-settle p Sport h = h.transport_is_written
written-sums-settle p Dport h = h.transport_is_written
written-sums-settle p IcmpType h = tt
written-sums-settle p IpOk h = tt
written-sums-settle p Ports h = tt
written-sums-settle p Mf h = tt
written-sums-settle p FragOff h = tt
written-sums-settle p Ttl h = h.header_is_written
written-sums-settle p Syn h = tt
written-sums-settle p Ack h = tt
written-sums-settle p Fin h = tt
written-sums-settle p Rst h = tt
written-sums-settle p Paint h = tt
written-sums-settle p Annotation h = tt
