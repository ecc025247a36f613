-- The header of a checked packet.
use Rattle.std.proofs.Common.{◌≡◌, ◌≢◌, ◌∙◌, ap, refl, ℕ, ◌+◌, ◌*◌, ◌/◌, ◌%◌, ◌<◌, ◌≤◌, List, [], ◌++◌, length, get_or, set, take, drop, Bool, true, false, cond, if◌then◌else◌, nat_lt, length-append, inl, inr, arith}
use Rattle.std.proofs.lemmas.Bool.Decides.{nat_tests}
use Rattle.std.proofs.lemmas.List.{get_or-take, get_or-drop, length-take, length-drop}
use Rattle.mt_packet.proofs.After.{front, back}
use Rattle.mt_packet.proofs.Kept.{datagram_of-checked, checked-layer, cut-message, cut-ports, header_zero-shape, tcp_zero-shape, zeros-shape}
use Rattle.mt_packet.proofs.Puts.{ports-cases, put_two-apart}
use Rattle.mt_packet.proofs.Reading.{SameEthernet, SameRest, rest-from, offset-beyond, flags-low, flags-high, same-src, same-dst, same-dscp, same-ecn, same-ttl, same-sport, same-dport, same-icmp, same-ip_ok, same-two, valid-readable}
use Rattle.mt_packet.proofs.Shape.{SameShape}
use Rattle.mt_packet.proofs.Valid.{choose, valid-cut, valid-header_zero, valid-tcp_zero}
use Rattle.mt_packet.specs.Field.{eth_dst_of, eth_src_of, arp_op_of}
use Rattle.mt_packet.specs.Header.{fields_of}
use Rattle.mt_packet.specs.Ipv4.{IsValidIpv4, header_length, total_length, has_message, has_ports, proto_of, src_of, dst_of, dscp_of, ecn_of, mf_of, frag_off_of, ttl_of, ports_of, sport_of, dport_of, icmp_type_of, tcp_flags_of, syn_of, ack_of, fin_of, rst_of}
use Rattle.mt_packet.specs.Packet.{PacketState, has_ethernet, frame_of, datagram_of, packet_header, checked, checked_datagram, IsChecked}
use Rattle.mt_packet.specs.Write.{checksum_offset, with_header_zero, with_tcp_zero}

-- the fields of two datagrams are the same
pub record SameFields (old new : List ℕ) : Type 0 where
  pub rest : SameRest old new
  pub f_src : src_of new ≡ src_of old
  pub f_dst : dst_of new ≡ dst_of old
  pub f_dscp : dscp_of new ≡ dscp_of old
  pub f_ecn : ecn_of new ≡ ecn_of old
  pub f_ttl : ttl_of new ≡ ttl_of old
  pub f_sport : sport_of new ≡ sport_of old
  pub f_dport : dport_of new ≡ dport_of old

SameRest-trans : (a b c : List ℕ) → SameRest a b → SameRest b c → SameRest a c
SameRest-trans a b c p q =
    record {
      r_proto = q.r_proto ∙ p.r_proto;
      r_icmp = q.r_icmp ∙ p.r_icmp;
      r_ok = q.r_ok ∙ p.r_ok;
      r_ports = q.r_ports ∙ p.r_ports;
      r_mf = q.r_mf ∙ p.r_mf;
      r_frag = q.r_frag ∙ p.r_frag;
      r_syn = q.r_syn ∙ p.r_syn;
      r_ack = q.r_ack ∙ p.r_ack;
      r_fin = q.r_fin ∙ p.r_fin;
      r_rst = q.r_rst ∙ p.r_rst;
    }

SameFields-trans : (a b c : List ℕ) → SameFields a b → SameFields b c → SameFields a c
SameFields-trans a b c p q =
    record {
      rest = SameRest-trans a b c p.rest q.rest;
      f_src = q.f_src ∙ p.f_src;
      f_dst = q.f_dst ∙ p.f_dst;
      f_dscp = q.f_dscp ∙ p.f_dscp;
      f_ecn = q.f_ecn ∙ p.f_ecn;
      f_ttl = q.f_ttl ∙ p.f_ttl;
      f_sport = q.f_sport ∙ p.f_sport;
      f_dport = q.f_dport ∙ p.f_dport;
    }

-- datagrams of one shape that agree at every byte of a field
from-bytes : (d e : List ℕ) → SameShape d e → IsValidIpv4 d → IsValidIpv4 e
    → ((i : ℕ) → i ≢ 10 → i ≢ 11 → i ≢ checksum_offset d → i ≢ checksum_offset d + 1 → get_or e i 0 ≡ get_or d i 0)
    → SameFields d e
from-bytes d e s v w at =
    let least = v.header_is_long_enough in
    let beyond = offset-beyond d in
    record {
      rest = rest-from d e s v w (same-icmp d e s (at (header_length d) (omega arith) (omega arith) (omega arith) (omega arith))) (at (header_length d + 13) (omega arith) (omega arith) (flags-low d) (flags-high d));
      f_src = same-src d e s (at (12) (omega arith) (omega arith) (omega arith) (omega arith)) (at (13) (omega arith) (omega arith) (omega arith) (omega arith)) (at (14) (omega arith) (omega arith) (omega arith) (omega arith)) (at (15) (omega arith) (omega arith) (omega arith) (omega arith));
      f_dst = same-dst d e s (at (16) (omega arith) (omega arith) (omega arith) (omega arith)) (at (17) (omega arith) (omega arith) (omega arith) (omega arith)) (at (18) (omega arith) (omega arith) (omega arith) (omega arith)) (at (19) (omega arith) (omega arith) (omega arith) (omega arith));
      f_dscp = same-dscp d e s (at (1) (omega arith) (omega arith) (omega arith) (omega arith));
      f_ecn = same-ecn d e s (ap (λ n. n % 4) (at (1) (omega arith) (omega arith) (omega arith) (omega arith)));
      f_ttl = same-ttl d e s (at (8) (omega arith) (omega arith) (omega arith) (omega arith));
      f_sport = same-sport d e s (at (header_length d) (omega arith) (omega arith) (omega arith) (omega arith)) (at (header_length d + 1) (omega arith) (omega arith) (omega arith) (omega arith));
      f_dport = same-dport d e s (at (header_length d + 2) (omega arith) (omega arith) (omega arith) (omega arith)) (at (header_length d + 2 + 1) (omega arith) (omega arith) (omega arith) (omega arith));
    }

header_zero-apart : (d : List ℕ) (i : ℕ) → i ≢ 10 → i ≢ 11 → get_or (with_header_zero d) i 0 ≡ get_or d i 0
unfolding with_header_zero
header_zero-apart d i a b =
    choose _ (λ e. get_or e i 0 ≡ get_or d i 0) _ _ (λ _. put_two-apart d 10 0 i a b) (λ _. refl)

tcp_zero-apart : (d : List ℕ) (i : ℕ) → i ≢ checksum_offset d → i ≢ checksum_offset d + 1 → get_or (with_tcp_zero d) i 0 ≡ get_or d i 0
unfolding with_tcp_zero
tcp_zero-apart d i a b =
    choose _ (λ e. get_or e i 0 ≡ get_or d i 0) _ _ (λ _. put_two-apart d (checksum_offset d) 0 i a b) (λ _. refl)

header_zero-fields : (d : List ℕ) → IsValidIpv4 d → SameFields d (with_header_zero d)
header_zero-fields d v =
    from-bytes d _ (header_zero-shape d) v (valid-header_zero d v) (λ i a b k l. header_zero-apart d i a b)

tcp_zero-fields : (d : List ℕ) → IsValidIpv4 d → SameFields d (with_tcp_zero d)
tcp_zero-fields d v =
    from-bytes d _ (tcp_zero-shape d v.header_is_long_enough) v (valid-tcp_zero d v) (λ i a b k l. tcp_zero-apart d i k l)

-- a value that counts only where a test holds
when : (b c : Bool) (x y z : ℕ) → c ≡ b → (b ≡ true → x ≡ y) → cond c x z ≡ cond b y z
when true c x y z e h = rw e (h refl)
when false c x y z e h = rw e refl

message-within : (d : List ℕ) (protocol least : ℕ) → has_message d protocol least ≡ true → header_length d + least ≤ total_length d
unfolding has_message
message-within d protocol least h = grind (arith, nat_tests)

ports-within : (d : List ℕ) → has_ports d ≡ true → header_length d + 8 ≤ total_length d
ports-within d h =
    elim (ports-cases d h) [
      | inl t ↦ (let m = message-within d 6 20 t in omega arith)
      | inr u ↦ message-within d 17 8 u
    ]

-- a valid datagram that is cut to its total length
cut-header : (d : List ℕ) → IsValidIpv4 d → header_length (take (total_length d) d) ≡ header_length d
cut-header d v =
    let least = v.header_is_long_enough in
    let inside = v.header_is_within in
    ap (λ b. b % 16 * 4) (get_or-take (total_length d) d 0 0 (omega arith))

cut-proto : (d : List ℕ) → IsValidIpv4 d → proto_of (take (total_length d) d) ≡ proto_of d
unfolding proto_of
cut-proto d v =
    let least = v.header_is_long_enough in
    let inside = v.header_is_within in
    let r = valid-readable d v in
    let q = valid-readable _ (valid-cut d v) in
    let b9 = get_or-take (total_length d) d 9 0 (omega arith) in
    cc

cut-src : (d : List ℕ) → IsValidIpv4 d → src_of (take (total_length d) d) ≡ src_of d
unfolding src_of
cut-src d v =
    let least = v.header_is_long_enough in
    let inside = v.header_is_within in
    let r = valid-readable d v in
    let q = valid-readable _ (valid-cut d v) in
    let b12 = get_or-take (total_length d) d 12 0 (omega arith) in
    let b13 = get_or-take (total_length d) d 13 0 (omega arith) in
    let b14 = get_or-take (total_length d) d 14 0 (omega arith) in
    let b15 = get_or-take (total_length d) d 15 0 (omega arith) in
    cc

cut-dst : (d : List ℕ) → IsValidIpv4 d → dst_of (take (total_length d) d) ≡ dst_of d
unfolding dst_of
cut-dst d v =
    let least = v.header_is_long_enough in
    let inside = v.header_is_within in
    let r = valid-readable d v in
    let q = valid-readable _ (valid-cut d v) in
    let b16 = get_or-take (total_length d) d 16 0 (omega arith) in
    let b17 = get_or-take (total_length d) d 17 0 (omega arith) in
    let b18 = get_or-take (total_length d) d 18 0 (omega arith) in
    let b19 = get_or-take (total_length d) d 19 0 (omega arith) in
    cc

cut-dscp : (d : List ℕ) → IsValidIpv4 d → dscp_of (take (total_length d) d) ≡ dscp_of d
unfolding dscp_of
cut-dscp d v =
    let least = v.header_is_long_enough in
    let inside = v.header_is_within in
    let r = valid-readable d v in
    let q = valid-readable _ (valid-cut d v) in
    let b1 = get_or-take (total_length d) d 1 0 (omega arith) in
    cc

cut-ecn : (d : List ℕ) → IsValidIpv4 d → ecn_of (take (total_length d) d) ≡ ecn_of d
unfolding ecn_of
cut-ecn d v =
    let least = v.header_is_long_enough in
    let inside = v.header_is_within in
    let r = valid-readable d v in
    let q = valid-readable _ (valid-cut d v) in
    let b1 = get_or-take (total_length d) d 1 0 (omega arith) in
    cc

cut-mf : (d : List ℕ) → IsValidIpv4 d → mf_of (take (total_length d) d) ≡ mf_of d
unfolding mf_of
cut-mf d v =
    let least = v.header_is_long_enough in
    let inside = v.header_is_within in
    let r = valid-readable d v in
    let q = valid-readable _ (valid-cut d v) in
    let b6 = get_or-take (total_length d) d 6 0 (omega arith) in
    cc

cut-frag_off : (d : List ℕ) → IsValidIpv4 d → frag_off_of (take (total_length d) d) ≡ frag_off_of d
unfolding frag_off_of
cut-frag_off d v =
    let least = v.header_is_long_enough in
    let inside = v.header_is_within in
    let r = valid-readable d v in
    let q = valid-readable _ (valid-cut d v) in
    let b6 = get_or-take (total_length d) d 6 0 (omega arith) in
    let b7 = get_or-take (total_length d) d 7 0 (omega arith) in
    cc

cut-ttl : (d : List ℕ) → IsValidIpv4 d → ttl_of (take (total_length d) d) ≡ ttl_of d
unfolding ttl_of
cut-ttl d v =
    let least = v.header_is_long_enough in
    let inside = v.header_is_within in
    let r = valid-readable d v in
    let q = valid-readable _ (valid-cut d v) in
    let b8 = get_or-take (total_length d) d 8 0 (omega arith) in
    cc

cut-ports_of : (d : List ℕ) → IsValidIpv4 d → ports_of (take (total_length d) d) ≡ ports_of d
unfolding ports_of
cut-ports_of d v =
    let least = v.header_is_long_enough in
    let inside = v.header_is_within in
    let p = cut-ports d v in
    cc

cut-sport : (d : List ℕ) → IsValidIpv4 d → sport_of (take (total_length d) d) ≡ sport_of d
unfolding sport_of
cut-sport d v =
    let least = v.header_is_long_enough in
    let inside = v.header_is_within in
    when (has_ports d) (has_ports (take (total_length d) d)) _ _ 65536 (cut-ports d v)
    (λ t.
    let within = ports-within d t in
    same-two d (take (total_length d) d) (header_length (take (total_length d) d)) (header_length d) (cut-header d v)
    (get_or-take (total_length d) d (header_length d) 0 (omega arith))
    (get_or-take (total_length d) d (header_length d + 1) 0 (omega arith)))

cut-dport : (d : List ℕ) → IsValidIpv4 d → dport_of (take (total_length d) d) ≡ dport_of d
unfolding dport_of
cut-dport d v =
    let least = v.header_is_long_enough in
    let inside = v.header_is_within in
    when (has_ports d) (has_ports (take (total_length d) d)) _ _ 65536 (cut-ports d v)
    (λ t.
    let within = ports-within d t in
    same-two d (take (total_length d) d) (header_length (take (total_length d) d) + 2) (header_length d + 2) (ap (λ k. k + 2) (cut-header d v))
    (get_or-take (total_length d) d (header_length d + 2) 0 (omega arith))
    (get_or-take (total_length d) d (header_length d + 2 + 1) 0 (omega arith)))

cut-icmp : (d : List ℕ) → IsValidIpv4 d → icmp_type_of (take (total_length d) d) ≡ icmp_type_of d
unfolding icmp_type_of
cut-icmp d v =
    let least = v.header_is_long_enough in
    let inside = v.header_is_within in
    when (has_message d 1 8) (has_message (take (total_length d) d) 1 8) _ _ 256 (cut-message d 1 8 v)
    (λ t.
    let within = message-within d 1 8 t in
    ap (λ k. get_or (take (total_length d) d) k 0) (cut-header d v) ∙ get_or-take (total_length d) d (header_length d) 0 (omega arith))

cut-flags : (d : List ℕ) → IsValidIpv4 d → tcp_flags_of (take (total_length d) d) ≡ tcp_flags_of d
unfolding tcp_flags_of
cut-flags d v =
    let least = v.header_is_long_enough in
    let inside = v.header_is_within in
    when (has_message d 6 20) (has_message (take (total_length d) d) 6 20) _ _ 0 (cut-message d 6 20 v)
    (λ t.
    let within = message-within d 6 20 t in
    ap (λ k. get_or (take (total_length d) d) (k + 13) 0) (cut-header d v) ∙ get_or-take (total_length d) d (header_length d + 13) 0 (omega arith))

cut-fields : (d : List ℕ) → IsValidIpv4 d → SameFields d (take (total_length d) d)
unfolding syn_of ack_of fin_of rst_of
cut-fields d v =
    let f = cut-flags d v in
    record {
      rest =
          record {
            r_proto = cut-proto d v;
            r_icmp = cut-icmp d v;
            r_ok = same-ip_ok d _ v (valid-cut d v);
            r_ports = cut-ports_of d v;
            r_mf = cut-mf d v;
            r_frag = cut-frag_off d v;
            r_syn = ap (λ n. n / 2 % 2) f;
            r_ack = ap (λ n. n / 16 % 2) f;
            r_fin = ap (λ n. n % 2) f;
            r_rst = ap (λ n. n / 4 % 2) f;
          };
      f_src = cut-src d v;
      f_dst = cut-dst d v;
      f_dscp = cut-dscp d v;
      f_ecn = cut-ecn d v;
      f_ttl = cut-ttl d v;
      f_sport = cut-sport d v;
      f_dport = cut-dport d v;
    }

-- a checked datagram has the fields that it had
checked-fields : (d : List ℕ) → IsValidIpv4 d → SameFields d (checked_datagram d)
unfolding checked_datagram
checked-fields d v =
    let a = valid-cut d v in
    let b = valid-header_zero _ a in
    SameFields-trans d _ _ (cut-fields d v) (SameFields-trans _ _ _ (header_zero-fields _ a) (tcp_zero-fields _ b))

-- the bytes of it at which the operation of ARP stands, and its length
checked-bytes : (d : List ℕ) → IsValidIpv4 d
    → (20 ≤ length (checked_datagram d)) × (get_or (checked_datagram d) 6 0 ≡ get_or d 6 0) × (get_or (checked_datagram d) 7 0 ≡ get_or d 7 0)
unfolding checked_datagram
checked-bytes d v =
    let least = v.header_is_long_enough in
    let inside = v.header_is_within in
    let within = v.packet_is_within in
    let a = valid-cut d v in
    let s = zeros-shape _ a in
    let n = s.same_length in
    let m = length-take (total_length d) d in (
      omega arith,
      s.byte_6 ∙ get_or-take (total_length d) d 6 0 (omega arith),
      s.byte_7 ∙ get_or-take (total_length d) d 7 0 (omega arith),
    )

-- long frames that agree where the Ethernet header and the operation of ARP stand
long-ethernet : (f g : List ℕ) → 34 ≤ length f → 34 ≤ length g → ((i : ℕ) → i < 14 → get_or g i 0 ≡ get_or f i 0)
    → get_or g 20 0 ≡ get_or f 20 0 → get_or g 21 0 ≡ get_or f 21 0 → SameEthernet f g
unfolding eth_dst_of eth_src_of arp_op_of
long-ethernet f g long longer at a20 a21 =
    let p : nat_lt (length f) 14 ≡ false = grind (arith, nat_tests) in
    let q : nat_lt (length g) 14 ≡ false = grind (arith, nat_tests) in
    let r : nat_lt (length f) 22 ≡ false = grind (arith, nat_tests) in
    let s : nat_lt (length g) 22 ≡ false = grind (arith, nat_tests) in
    let a0 = at 0 (omega arith) in
    let a1 = at 1 (omega arith) in
    let a2 = at 2 (omega arith) in
    let a3 = at 3 (omega arith) in
    let a4 = at 4 (omega arith) in
    let a5 = at 5 (omega arith) in
    let a6 = at 6 (omega arith) in
    let a7 = at 7 (omega arith) in
    let a8 = at 8 (omega arith) in
    let a9 = at 9 (omega arith) in
    let a10 = at 10 (omega arith) in
    let a11 = at 11 (omega arith) in
    let a12 = at 12 (omega arith) in
    let a13 = at 13 (omega arith) in
    record { same_type = cc; same_dst = cc; same_src = cc; same_arp = cc }

checked-ethernet : (b : Bool) (bytes c : List ℕ) → 20 ≤ length (if b then drop 14 bytes else bytes) → 20 ≤ length c
    → get_or c 6 0 ≡ get_or (if b then drop 14 bytes else bytes) 6 0 → get_or c 7 0 ≡ get_or (if b then drop 14 bytes else bytes) 7 0
    → SameEthernet (if b then bytes else []) (if b then (if b then take 14 bytes ++ c else c) else [])
checked-ethernet true bytes c long longer s6 s7 =
    let n = length-drop 14 bytes in
    let k = length-take 14 bytes in
    let j = length-append (take 14 bytes) c in
    let enough : 34 ≤ length bytes = omega arith in
    long-ethernet bytes _ enough (omega arith) (λ i low. front bytes c i enough low)
    (back bytes c 6 enough ∙ s6 ∙ get_or-drop 14 bytes 6 0) (back bytes c 7 enough ∙ s7 ∙ get_or-drop 14 bytes 7 0)
checked-ethernet false bytes c long longer s6 s7 = record { same_type = refl; same_dst = refl; same_src = refl; same_arp = refl }

all-fields : (device : ℕ) (frame after d e : List ℕ) (paint annotation dst : ℕ) → SameEthernet frame after → SameFields d e
    → fields_of device after e paint dst ≡ set (fields_of device frame d paint annotation) 23 dst
all-fields device frame after d e paint annotation dst s f = cc

-- the header of a checked packet: its annotation is the destination
pub checked-header : (p : PacketState) → IsChecked p
    → packet_header (checked p) ≡ set (packet_header p) 23 (dst_of (datagram_of p))
checked-header p v =
    let b = checked-bytes (datagram_of p) v in
    ap (λ d. fields_of p.device (frame_of (checked p)) d p.paint (dst_of (datagram_of p))) (datagram_of-checked p v)
    ∙ ap (λ e. fields_of p.device (if e then (checked p).bytes else []) (checked_datagram (datagram_of p)) p.paint (dst_of (datagram_of p)))
    (checked-layer p.layer)
    ∙ all-fields p.device (frame_of p) _ (datagram_of p) (checked_datagram (datagram_of p)) p.paint p.annotation
    (dst_of (datagram_of p))
    (checked-ethernet (has_ethernet p.layer) p.bytes (checked_datagram (datagram_of p)) v.has_fixed_part b.0 b.1 b.2)
    (checked-fields (datagram_of p) v)

-- the header of a packet after the check, by its answer
pub judged-header : (p q : PacketState) (b : Bool) → (b ≡ true → IsChecked p) → q ≡ (if b then checked p else p)
    → packet_header q ≡ (if b then set (packet_header p) 23 (dst_of (datagram_of p)) else packet_header p)
judged-header p q true v e = ap (λ r. packet_header r) e ∙ checked-header p (v refl)
judged-header p q false v e = ap (λ r. packet_header r) e
