-- Each value of a frame's header is in its field's range.
use Rattle.std.proofs.Common.{◌≡◌, ◌∙◌, ap, ℕ, ◌+◌, ◌≤◌, List, drop, subst, sym, refl, arith}
use Rattle.std.proofs.lemmas.Bool.Decides.{nat_tests}
use Rattle.std.proofs.lemmas.List.{get_or-drop}
use Rattle.mt_packet.specs.Field.{two_bytes_at, four_bytes_at, six_bytes_at, eth_type_of, eth_dst_of, eth_src_of, arp_op_of}
use Rattle.mt_packet.specs.Header.{field_of, greatest_of, InRanges, InVisibleRanges, IsVisible, AreBytes, fields_of, visible_of, visible_field_of}
use Rattle.mt_packet.specs.Ipv4.{header_length, proto_of, src_of, dst_of, dscp_of, ecn_of, sport_of, dport_of, icmp_type_of, ip_ok_of, ports_of, mf_of, frag_off_of, ttl_of, syn_of, ack_of, fin_of, rst_of}
use Rattle.mt_packet.specs.declared.field.Field.{Field}
use Rattle.mt_packet.specs.declared.field.Field.TheVariants.{Device, EthType, EthDst, EthSrc, ArpOp, Proto, Src, Dst, Dscp, Ecn, Sport, Dport, IcmpType, IpOk, Ports, Mf, FragOff, Ttl, Syn, Ack, Fin, Rst, Paint, Annotation}

-- bytes past an offset are bytes
pub AreBytes-drop : (bytes : List ℕ) (n : ℕ) → AreBytes bytes → AreBytes (drop n bytes)
AreBytes-drop bytes n h offset = rw (get_or-drop n bytes offset 0) (h (n + offset))

pub two_bytes-range : (bytes : List ℕ) (offset : ℕ) → AreBytes bytes → two_bytes_at bytes offset ≤ 65535
two_bytes-range bytes offset h = omega (arith, h offset, h (offset + 1))

pub four_bytes-range : (bytes : List ℕ) (offset : ℕ) → AreBytes bytes → four_bytes_at bytes offset ≤ 4294967295
four_bytes-range bytes offset h =
    omega (arith, two_bytes-range bytes offset h, two_bytes-range bytes (offset + 2) h)

pub six_bytes-range : (bytes : List ℕ) (offset : ℕ) → AreBytes bytes → six_bytes_at bytes offset ≤ 281474976710655
six_bytes-range bytes offset h =
    omega (arith, two_bytes-range bytes offset h, four_bytes-range bytes (offset + 2) h)

eth_type-range : (frame : List ℕ) → AreBytes frame → eth_type_of frame ≤ 65536
eth_type-range frame h = grind (arith, nat_tests, two_bytes-range frame 12 h)

eth_dst-range : (frame : List ℕ) → AreBytes frame → eth_dst_of frame ≤ 281474976710655
unfolding eth_dst_of
eth_dst-range frame h = grind (arith, nat_tests, six_bytes-range frame 0 h)

eth_src-range : (frame : List ℕ) → AreBytes frame → eth_src_of frame ≤ 281474976710655
unfolding eth_src_of
eth_src-range frame h = grind (arith, nat_tests, six_bytes-range frame 6 h)

arp_op-range : (frame : List ℕ) → AreBytes frame → arp_op_of frame ≤ 65536
unfolding arp_op_of
arp_op-range frame h = grind (arith, nat_tests, two_bytes-range frame 20 h)

proto-range : (datagram : List ℕ) → AreBytes datagram → proto_of datagram ≤ 255
unfolding proto_of
proto-range datagram h = grind (arith, nat_tests, h 9)

pub src-range : (datagram : List ℕ) → AreBytes datagram → src_of datagram ≤ 4294967295
unfolding src_of
src-range datagram h = grind (arith, nat_tests, four_bytes-range datagram 12 h)

pub dst-range : (datagram : List ℕ) → AreBytes datagram → dst_of datagram ≤ 4294967295
unfolding dst_of
dst-range datagram h = grind (arith, nat_tests, four_bytes-range datagram 16 h)

dscp-range : (datagram : List ℕ) → AreBytes datagram → dscp_of datagram ≤ 63
unfolding dscp_of
dscp-range datagram h = grind (arith, nat_tests, h 1)

ecn-range : (datagram : List ℕ) → ecn_of datagram ≤ 3
unfolding ecn_of
ecn-range datagram = grind (arith, nat_tests)

mf-range : (datagram : List ℕ) → mf_of datagram ≤ 1
unfolding mf_of
mf-range datagram = grind (arith, nat_tests)

frag_off-range : (datagram : List ℕ) → frag_off_of datagram ≤ 8191
unfolding frag_off_of
frag_off-range datagram = grind (arith, nat_tests)

ttl-range : (datagram : List ℕ) → AreBytes datagram → ttl_of datagram ≤ 255
unfolding ttl_of
ttl-range datagram h = grind (arith, nat_tests, h 8)

sport-range : (datagram : List ℕ) → AreBytes datagram → sport_of datagram ≤ 65536
unfolding sport_of
sport-range datagram h = grind (arith, nat_tests, two_bytes-range datagram (header_length datagram) h)

dport-range : (datagram : List ℕ) → AreBytes datagram → dport_of datagram ≤ 65536
unfolding dport_of
dport-range datagram h = grind (arith, nat_tests, two_bytes-range datagram (header_length datagram + 2) h)

icmp_type-range : (datagram : List ℕ) → AreBytes datagram → icmp_type_of datagram ≤ 256
unfolding icmp_type_of
icmp_type-range datagram h = grind (arith, nat_tests, h (header_length datagram))

ip_ok-range : (datagram : List ℕ) → ip_ok_of datagram ≤ 1
unfolding ip_ok_of
ip_ok-range datagram = grind (arith, nat_tests)

ports-range : (datagram : List ℕ) → ports_of datagram ≤ 1
unfolding ports_of
ports-range datagram = grind (arith, nat_tests)

fin-range : (datagram : List ℕ) → fin_of datagram ≤ 1
unfolding fin_of
fin-range datagram = omega arith

syn-range : (datagram : List ℕ) → syn_of datagram ≤ 1
unfolding syn_of
syn-range datagram = omega arith

rst-range : (datagram : List ℕ) → rst_of datagram ≤ 1
unfolding rst_of
rst-range datagram = omega arith

ack-range : (datagram : List ℕ) → ack_of datagram ≤ 1
unfolding ack_of
ack-range datagram = omega arith

each : (device : ℕ) (frame datagram : List ℕ) (paint annotation : ℕ) → device ≤ 4294967295
    → AreBytes frame → AreBytes datagram → paint ≤ 255 → annotation ≤ 4294967295
    → (field : Field) → field_of (fields_of device frame datagram paint annotation) field ≤ greatest_of field
each device frame datagram paint annotation d f g p a Device = d
each device frame datagram paint annotation d f g p a EthType = eth_type-range frame f
each device frame datagram paint annotation d f g p a EthDst = eth_dst-range frame f
each device frame datagram paint annotation d f g p a EthSrc = eth_src-range frame f
each device frame datagram paint annotation d f g p a ArpOp = arp_op-range frame f
each device frame datagram paint annotation d f g p a Proto = proto-range datagram g
each device frame datagram paint annotation d f g p a Src = src-range datagram g
each device frame datagram paint annotation d f g p a Dst = dst-range datagram g
each device frame datagram paint annotation d f g p a Dscp = dscp-range datagram g
each device frame datagram paint annotation d f g p a Ecn = ecn-range datagram
each device frame datagram paint annotation d f g p a Sport = sport-range datagram g
each device frame datagram paint annotation d f g p a Dport = dport-range datagram g
each device frame datagram paint annotation d f g p a IcmpType = icmp_type-range datagram g
each device frame datagram paint annotation d f g p a IpOk = ip_ok-range datagram
each device frame datagram paint annotation d f g p a Ports = ports-range datagram
each device frame datagram paint annotation d f g p a Mf = mf-range datagram
each device frame datagram paint annotation d f g p a FragOff = frag_off-range datagram
each device frame datagram paint annotation d f g p a Ttl = ttl-range datagram g
each device frame datagram paint annotation d f g p a Syn = syn-range datagram
each device frame datagram paint annotation d f g p a Ack = ack-range datagram
each device frame datagram paint annotation d f g p a Fin = fin-range datagram
each device frame datagram paint annotation d f g p a Rst = rst-range datagram
each device frame datagram paint annotation d f g p a Paint = p
each device frame datagram paint annotation d f g p a Annotation = a

-- the fields of any frame and datagram
pub fields_of-in_ranges : (device : ℕ) (frame datagram : List ℕ) (paint annotation : ℕ) → device ≤ 4294967295
    → AreBytes frame → AreBytes datagram → paint ≤ 255 → annotation ≤ 4294967295
    → InRanges (fields_of device frame datagram paint annotation)
fields_of-in_ranges device frame datagram paint annotation d f g p a =
    record { in_range = each device frame datagram paint annotation d f g p a }

-- equal lists are in ranges alike
pub InRanges-along : (g h : List ℕ) → g ≡ h → InRanges h → InRanges g
InRanges-along g h e r = let P : List ℕ → Type 0 = λ l. InRanges l in subst P (sym e) r

-- a visible header has the values of its header
pub visible-same : (header : List ℕ) (field : Field) → IsVisible field → visible_field_of (visible_of header) field ≡ field_of header field
visible-same header Device seen = refl
visible-same header EthType seen = refl
visible-same header EthDst seen = refl
visible-same header EthSrc seen = refl
visible-same header ArpOp seen = refl
visible-same header Proto seen = refl
visible-same header Src seen = refl
visible-same header Dst seen = refl
visible-same header Dscp seen = refl
visible-same header Ecn seen = refl
visible-same header Sport seen = refl
visible-same header Dport seen = refl
visible-same header IcmpType seen = refl
visible-same header IpOk seen = absurd (omega arith)
visible-same header Ports seen = absurd (omega arith)
visible-same header Mf seen = absurd (omega arith)
visible-same header FragOff seen = absurd (omega arith)
visible-same header Ttl seen = absurd (omega arith)
visible-same header Syn seen = absurd (omega arith)
visible-same header Ack seen = absurd (omega arith)
visible-same header Fin seen = absurd (omega arith)
visible-same header Rst seen = absurd (omega arith)
visible-same header Paint seen = absurd (omega arith)
visible-same header Annotation seen = absurd (omega arith)

-- the visible part of a header is in its ranges
pub visible-in_ranges : (header : List ℕ) → InRanges header → InVisibleRanges (visible_of header)
visible-in_ranges header r =
    record { in_range = λ field seen. let e = visible-same header field seen in rw e (r.in_range field) }

-- values that are the visible part of a header
pub copied-in_ranges : (values header : List ℕ) → values ≡ visible_of header → InRanges header → InVisibleRanges values
copied-in_ranges values header e r =
    let P : List ℕ → Type 0 = λ l. InVisibleRanges l in subst P (sym e) (visible-in_ranges header r)

pub copied-same : (values header : List ℕ) → values ≡ visible_of header → (field : Field) → IsVisible field
    → visible_field_of values field ≡ field_of header field
copied-same values header e field seen = ap (λ l. visible_field_of l field) e ∙ visible-same header field seen
