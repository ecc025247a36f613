-- What is read in a datagram after a write: the field that was written has its value, and every other
-- field has the value that it had.
use Rattle.std.proofs.Common.{◌≡◌, ◌≢◌, ◌∙◌, sym, ap, refl, ℕ, ◌+◌, ◌*◌, ◌/◌, ◌%◌, ◌<◌, ◌≤◌, List, length, get_or, set, Bool, true, false, cond, eqb, inl, inr, ◌⊎◌, arith}
use Rattle.std.proofs.lemmas.Bool.Decides.{nat_tests}
use Rattle.std.proofs.lemmas.List.{get_or-set_other, get_or-set_same, length-set}
use Rattle.mt_packet.proofs.Frames.{valid-tested}
use Rattle.mt_packet.proofs.Puts.{message_proto, ports-cases, put_two-apart, put_four-apart, two-put}
use Rattle.mt_packet.proofs.Readable.{ports_long}
use Rattle.mt_packet.proofs.Shape.{SameShape, SameShape-trans, SameShape-put_two, SameShape-put_four, SameShape-header_checksum, same-header_length, same-readable, same-proto, same-frag_off, same-mf, same-message, same-ports, same-offset}
use Rattle.mt_packet.proofs.Valid.{choose, valid-address, valid-port, valid-ttl, valid-dscp, shape-address, shape-port, shape-ttl, shape-dscp}
use Rattle.mt_packet.specs.Field.{two_bytes_at, four_bytes_at, eth_type_of, eth_dst_of, eth_src_of, arp_op_of}
use Rattle.mt_packet.specs.Header.{fields_of}
use Rattle.mt_packet.specs.Ipv4.{IsValidIpv4, header_length, is_readable, proto_of, src_of, dst_of, dscp_of, ecn_of, mf_of, frag_off_of, ttl_of, has_message, has_ports, ports_of, sport_of, dport_of, icmp_type_of, tcp_flags_of, syn_of, ack_of, fin_of, rst_of, ip_ok_of}
use Rattle.mt_packet.specs.Write.{put_two, put_four, checksum_offset, with_header_checksum, with_transport_checksum, with_address, with_port, with_dscp, with_ttl}

header_checksum-apart : (d : List ℕ) (i : ℕ) → i ≢ 10 → i ≢ 11 → get_or (with_header_checksum d) i 0 ≡ get_or d i 0
unfolding with_header_checksum
header_checksum-apart d i a b = put_two-apart d 10 _ i a b

transport-apart : (d old new : List ℕ) (i : ℕ) → i ≢ checksum_offset d → i ≢ checksum_offset d + 1
    → get_or (with_transport_checksum d old new) i 0 ≡ get_or d i 0
unfolding with_transport_checksum
transport-apart d old new i a b =
    choose (has_ports d) (λ e. get_or e i 0 ≡ get_or d i 0) _ _
    (λ _. put_two-apart d (checksum_offset d) _ i a b) (λ _. refl)

-- the transport checksum stands apart from the ports and from the flags
offset-cases : (d : List ℕ) → (checksum_offset d ≡ header_length d + 6) ⊎ (checksum_offset d ≡ header_length d + 16)
offset-cases d = pick (eqb (proto_of d) 17)
  where
    pick : (b : Bool) → (header_length d + cond b 6 16 ≡ header_length d + 6) ⊎ (header_length d + cond b 6 16 ≡ header_length d + 16)
    pick true = inl refl
    pick false = inr refl

ttl-apart : (d : List ℕ) (v i : ℕ) → i ≢ 8 → i ≢ 10 → i ≢ 11 → get_or (with_ttl d v) i 0 ≡ get_or d i 0
unfolding with_ttl
ttl-apart d v i a b c = header_checksum-apart (set d 8 v) i b c ∙ get_or-set_other d 8 i v 0 a

dscp-apart : (d : List ℕ) (v i : ℕ) → i ≢ 1 → i ≢ 10 → i ≢ 11 → get_or (with_dscp d v) i 0 ≡ get_or d i 0
unfolding with_dscp
dscp-apart d v i a b c = header_checksum-apart (set d 1 _) i b c ∙ get_or-set_other d 1 i _ 0 a

address-shape : (d : List ℕ) (p v : ℕ) → 10 ≤ p → SameShape d (with_header_checksum (put_four d p v))
address-shape d p v far = SameShape-trans d _ _ (SameShape-put_four d p v far) (SameShape-header_checksum (put_four d p v))

address-apart : (d : List ℕ) (p v i : ℕ) → 10 ≤ p → i ≢ p → i ≢ p + 1 → i ≢ p + 2 → i ≢ p + 3 → i ≢ 10 → i ≢ 11
    → i ≢ checksum_offset d → i ≢ checksum_offset d + 1 → get_or (with_address d p v) i 0 ≡ get_or d i 0
unfolding with_address
address-apart d p v i far a b c e t u k l =
    let same = same-offset d _ (address-shape d p v far) in
    let k' : i ≢ checksum_offset (with_header_checksum (put_four d p v)) = rw same k in
    let l' : i ≢ checksum_offset (with_header_checksum (put_four d p v)) + 1 = rw same l in
    transport-apart (with_header_checksum (put_four d p v)) _ _ i k' l'
    ∙ header_checksum-apart (put_four d p v) i t u
    ∙ put_four-apart d p v i a b c e

port-apart : (d : List ℕ) (p v i : ℕ) → 10 ≤ p → i ≢ p → i ≢ p + 1
    → i ≢ checksum_offset d → i ≢ checksum_offset d + 1 → get_or (with_port d p v) i 0 ≡ get_or d i 0
unfolding with_port
port-apart d p v i far a b k l =
    let same = same-offset d _ (SameShape-put_two d p v far) in
    let k' : i ≢ checksum_offset (put_two d p v) = rw same k in
    let l' : i ≢ checksum_offset (put_two d p v) + 1 = rw same l in
    transport-apart (put_two d p v) _ _ i k' l' ∙ put_two-apart d p v i a b

-- fields of datagrams of one shape whose bytes there are the same
pub same-src : (d e : List ℕ) → SameShape d e → get_or e 12 0 ≡ get_or d 12 0 → get_or e 13 0 ≡ get_or d 13 0
    → get_or e 14 0 ≡ get_or d 14 0 → get_or e 15 0 ≡ get_or d 15 0 → src_of e ≡ src_of d
unfolding src_of
same-src d e s a b f g = let r = same-readable d e s in cc

pub same-dst : (d e : List ℕ) → SameShape d e → get_or e 16 0 ≡ get_or d 16 0 → get_or e 17 0 ≡ get_or d 17 0
    → get_or e 18 0 ≡ get_or d 18 0 → get_or e 19 0 ≡ get_or d 19 0 → dst_of e ≡ dst_of d
unfolding dst_of
same-dst d e s a b f g = let r = same-readable d e s in cc

pub same-dscp : (d e : List ℕ) → SameShape d e → get_or e 1 0 ≡ get_or d 1 0 → dscp_of e ≡ dscp_of d
unfolding dscp_of
same-dscp d e s a = let r = same-readable d e s in cc

pub same-ecn : (d e : List ℕ) → SameShape d e → get_or e 1 0 % 4 ≡ get_or d 1 0 % 4 → ecn_of e ≡ ecn_of d
unfolding ecn_of
same-ecn d e s a = let r = same-readable d e s in cc

pub same-ttl : (d e : List ℕ) → SameShape d e → get_or e 8 0 ≡ get_or d 8 0 → ttl_of e ≡ ttl_of d
unfolding ttl_of
same-ttl d e s a = let r = same-readable d e s in cc

same-ports_of : (d e : List ℕ) → SameShape d e → ports_of e ≡ ports_of d
unfolding ports_of
same-ports_of d e s = let p = same-ports d e s in cc

pub same-two : (d e : List ℕ) (m n : ℕ) → m ≡ n → get_or e n 0 ≡ get_or d n 0 → get_or e (n + 1) 0 ≡ get_or d (n + 1) 0
    → two_bytes_at e m ≡ two_bytes_at d n
same-two d e m n h a b = cc

pub same-sport : (d e : List ℕ) → SameShape d e → get_or e (header_length d) 0 ≡ get_or d (header_length d) 0
    → get_or e (header_length d + 1) 0 ≡ get_or d (header_length d + 1) 0 → sport_of e ≡ sport_of d
unfolding sport_of
same-sport d e s a b =
    let p = same-ports d e s in
    let t = same-two d e (header_length e) (header_length d) (same-header_length d e s) a b in
    cc

pub same-dport : (d e : List ℕ) → SameShape d e → get_or e (header_length d + 2) 0 ≡ get_or d (header_length d + 2) 0
    → get_or e (header_length d + 2 + 1) 0 ≡ get_or d (header_length d + 2 + 1) 0 → dport_of e ≡ dport_of d
unfolding dport_of
same-dport d e s a b =
    let p = same-ports d e s in
    let t = same-two d e (header_length e + 2) (header_length d + 2) (ap (λ n. n + 2) (same-header_length d e s)) a b in
    cc

pub same-icmp : (d e : List ℕ) → SameShape d e → get_or e (header_length d) 0 ≡ get_or d (header_length d) 0 → icmp_type_of e ≡ icmp_type_of d
unfolding icmp_type_of
same-icmp d e s a =
    let m = same-message d e 1 8 s in
    let t : get_or e (header_length e) 0 ≡ get_or d (header_length d) 0 = ap (λ n. get_or e n 0) (same-header_length d e s) ∙ a in
    cc

same-flags : (d e : List ℕ) → SameShape d e → get_or e (header_length d + 13) 0 ≡ get_or d (header_length d + 13) 0
    → tcp_flags_of e ≡ tcp_flags_of d
unfolding tcp_flags_of
same-flags d e s a =
    let m = same-message d e 6 20 s in
    let t : get_or e (header_length e + 13) 0 ≡ get_or d (header_length d + 13) 0 = ap (λ n. get_or e (n + 13) 0) (same-header_length d e s) ∙ a in
    cc

pub same-ip_ok : (d e : List ℕ) → IsValidIpv4 d → IsValidIpv4 e → ip_ok_of e ≡ ip_ok_of d
unfolding ip_ok_of
same-ip_ok d e v w = let a = valid-tested d v in let b = valid-tested e w in cc

-- with visible ports there is no ICMP message
no-icmp : (d : List ℕ) → has_ports d ≡ true → has_message d 1 8 ≡ false
no-icmp d h = decide (has_message d 1 8) refl
  where
    clash : (n : ℕ) → proto_of d ≡ n → n ≢ 1 → has_message d 1 8 ≡ true → has_message d 1 8 ≡ false
    clash n p apart m = absurd (apart (sym p ∙ message_proto d 1 8 m))

    against : has_message d 1 8 ≡ true → has_message d 1 8 ≡ false
    against m =
        elim (ports-cases d h) [
          | inl t ↦ clash 6 (message_proto d 6 20 t) (omega arith) m
          | inr u ↦ clash 17 (message_proto d 17 8 u) (omega arith) m
        ]

    decide : (b : Bool) → has_message d 1 8 ≡ b → has_message d 1 8 ≡ false
    decide true m = against m
    decide false m = m

same-icmp-ports : (d e : List ℕ) → SameShape d e → has_ports d ≡ true → icmp_type_of e ≡ icmp_type_of d
unfolding icmp_type_of
same-icmp-ports d e s h =
    let m = same-message d e 1 8 s in
    let n = no-icmp d h in
    cc

-- the transport checksum stands behind the ports, and apart from the flags
pub offset-beyond : (d : List ℕ) → header_length d + 6 ≤ checksum_offset d
offset-beyond d = elim (offset-cases d) [ inl e ↦ omega arith | inr e ↦ omega arith ]

pub flags-low : (d : List ℕ) → header_length d + 13 ≢ checksum_offset d
flags-low d = elim (offset-cases d) [ inl e ↦ omega arith | inr e ↦ omega arith ]

pub flags-high : (d : List ℕ) → header_length d + 13 ≢ checksum_offset d + 1
flags-high d = elim (offset-cases d) [ inl e ↦ omega arith | inr e ↦ omega arith ]

-- a number that is put into four bytes
pub four-put-low : (d : List ℕ) (p v : ℕ) → p + 3 < length d → four_bytes_at (put_four d p v) p ≡ v % 4294967296
four-put-low d p v within =
    let n = same_length d p (v / 65536) in
    let high = two-put d p (v / 65536) (omega arith) in
    let low : two_bytes_at (put_four d p v) (p + 2) ≡ v % 65536 = two-put (put_two d p (v / 65536)) (p + 2) v (omega arith) in
    let a : get_or (put_four d p v) p 0 ≡ get_or (put_two d p (v / 65536)) p 0 = put_two-apart (put_two d p (v / 65536)) (p + 2) v p (omega arith) (omega arith) in
    let b : get_or (put_four d p v) (p + 1) 0 ≡ get_or (put_two d p (v / 65536)) (p + 1) 0 = put_two-apart (put_two d p (v / 65536)) (p + 2) v (p + 1) (omega arith) (omega arith) in
    omega arith
  where
    same_length : (d : List ℕ) (p v : ℕ) → length (put_two d p v) ≡ length d
    same_length d p v = length-set (set d p (v / 256 % 256)) (p + 1) (v % 256) ∙ length-set d p (v / 256 % 256)

four-put : (d : List ℕ) (p v : ℕ) → p + 3 < length d → v ≤ 4294967295 → four_bytes_at (put_four d p v) p ≡ v
four-put d p v within small = let low = four-put-low d p v within in omega arith

-- the bytes of two frames have the same Ethernet fields
pub record SameEthernet (old new : List ℕ) : Type 0 where
  pub same_type : eth_type_of new ≡ eth_type_of old
  pub same_dst : eth_dst_of new ≡ eth_dst_of old
  pub same_src : eth_src_of new ≡ eth_src_of old
  pub same_arp : arp_op_of new ≡ arp_op_of old

-- the fields that go by the shape alone, and the flags and the type
pub record SameRest (old new : List ℕ) : Type 0 where
  pub r_proto : proto_of new ≡ proto_of old
  pub r_icmp : icmp_type_of new ≡ icmp_type_of old
  pub r_ok : ip_ok_of new ≡ ip_ok_of old
  pub r_ports : ports_of new ≡ ports_of old
  pub r_mf : mf_of new ≡ mf_of old
  pub r_frag : frag_off_of new ≡ frag_off_of old
  pub r_syn : syn_of new ≡ syn_of old
  pub r_ack : ack_of new ≡ ack_of old
  pub r_fin : fin_of new ≡ fin_of old
  pub r_rst : rst_of new ≡ rst_of old

pub rest-from : (d e : List ℕ) → SameShape d e → IsValidIpv4 d → IsValidIpv4 e → icmp_type_of e ≡ icmp_type_of d
    → get_or e (header_length d + 13) 0 ≡ get_or d (header_length d + 13) 0 → SameRest d e
unfolding syn_of ack_of fin_of rst_of
rest-from d e s v w i a =
    let f = same-flags d e s a in
    record {
      r_proto = same-proto d e s;
      r_icmp = i;
      r_ok = same-ip_ok d e v w;
      r_ports = same-ports_of d e s;
      r_mf = same-mf d e s;
      r_frag = same-frag_off d e s;
      r_syn = ap (λ n. n / 2 % 2) f;
      r_ack = ap (λ n. n / 16 % 2) f;
      r_fin = ap (λ n. n % 2) f;
      r_rst = ap (λ n. n / 4 % 2) f;
    }

pub valid-readable : (d : List ℕ) → IsValidIpv4 d → is_readable d ≡ true
unfolding is_readable
valid-readable d v = let a = v.has_fixed_part in let b = v.is_version_4 in grind (arith, nat_tests)

-- after a write of the time to live
ttl-read : (d : List ℕ) (v : ℕ) → IsValidIpv4 d → ttl_of (with_ttl d v) ≡ v
unfolding ttl_of with_ttl
ttl-read d v w =
    let long = w.has_fixed_part in
    let in_it : 8 < length d = omega arith in
    let a : get_or (with_header_checksum (set d 8 v)) 8 0 ≡ v
    = header_checksum-apart (set d 8 v) 8 (omega arith) (omega arith) ∙ get_or-set_same d 8 v 0 in_it in
    let r = valid-readable _ (valid-ttl-open d v w) in
    cc
  where
    valid-ttl-open : (d : List ℕ) (v : ℕ) → IsValidIpv4 d → IsValidIpv4 (with_header_checksum (set d 8 v))
    valid-ttl-open d v w = valid-ttl d v w

pub ttl-fields : (device : ℕ) (frame after d : List ℕ) (v paint annotation : ℕ) → SameEthernet frame after → IsValidIpv4 d
    → fields_of device after (with_ttl d v) paint annotation ≡ set (fields_of device frame d paint annotation) 17 v
ttl-fields device frame after d v paint annotation same w =
    let least = w.header_is_long_enough in
    let beyond = offset-beyond d in
    let s = shape-ttl d v in
    let rest =
    rest-from d (with_ttl d v) s w (valid-ttl d v w)
    (same-icmp d _ s (ttl-apart d v (header_length d) (omega arith) (omega arith) (omega arith)))
    (ttl-apart d v (header_length d + 13) (omega arith) (omega arith) (omega arith)) in
    let src = same-src d _ s (ttl-apart d v (12) (omega arith) (omega arith) (omega arith)) (ttl-apart d v (13) (omega arith) (omega arith) (omega arith)) (ttl-apart d v (14) (omega arith) (omega arith) (omega arith)) (ttl-apart d v (15) (omega arith) (omega arith) (omega arith)) in
    let dst = same-dst d _ s (ttl-apart d v (16) (omega arith) (omega arith) (omega arith)) (ttl-apart d v (17) (omega arith) (omega arith) (omega arith)) (ttl-apart d v (18) (omega arith) (omega arith) (omega arith)) (ttl-apart d v (19) (omega arith) (omega arith) (omega arith)) in
    let tos = (ttl-apart d v (1) (omega arith) (omega arith) (omega arith)) in
    let dscp = same-dscp d _ s tos in
    let ecn = same-ecn d _ s (ap (λ n. n % 4) tos) in
    let sport = same-sport d _ s (ttl-apart d v (header_length d) (omega arith) (omega arith) (omega arith)) (ttl-apart d v (header_length d + 1) (omega arith) (omega arith) (omega arith)) in
    let dport = same-dport d _ s (ttl-apart d v (header_length d + 2) (omega arith) (omega arith) (omega arith)) (ttl-apart d v (header_length d + 2 + 1) (omega arith) (omega arith) (omega arith)) in
    let read = ttl-read d v w in
    cc

-- after a write of the code point
dscp-byte : (d : List ℕ) (v : ℕ) → IsValidIpv4 d → get_or (with_dscp d v) 1 0 ≡ v * 4 + get_or d 1 0 % 4
unfolding with_dscp
dscp-byte d v w =
    let long = w.has_fixed_part in
    let in_it : 1 < length d = omega arith in
    header_checksum-apart (set d 1 _) 1 (omega arith) (omega arith) ∙ get_or-set_same d 1 _ 0 in_it

dscp-read : (d : List ℕ) (v : ℕ) → IsValidIpv4 d → dscp_of (with_dscp d v) ≡ v
unfolding dscp_of
dscp-read d v w =
    let b = dscp-byte d v w in
    let r = valid-readable _ (valid-dscp d v w) in
    let q : get_or (with_dscp d v) 1 0 / 4 ≡ v = omega arith in
    cc

pub dscp-low : (d : List ℕ) (v : ℕ) → IsValidIpv4 d → get_or (with_dscp d v) 1 0 % 4 ≡ get_or d 1 0 % 4
dscp-low d v w = let b = dscp-byte d v w in omega arith

pub dscp-fields : (device : ℕ) (frame after d : List ℕ) (v paint annotation : ℕ) → SameEthernet frame after → IsValidIpv4 d
    → fields_of device after (with_dscp d v) paint annotation ≡ set (fields_of device frame d paint annotation) 8 v
dscp-fields device frame after d v paint annotation same w =
    let least = w.header_is_long_enough in
    let beyond = offset-beyond d in
    let ecn = same-ecn d _ (shape-dscp d v) (dscp-low d v w) in
    let s = shape-dscp d v in
    let rest =
    rest-from d (with_dscp d v) s w (valid-dscp d v w)
    (same-icmp d _ s (dscp-apart d v (header_length d) (omega arith) (omega arith) (omega arith)))
    (dscp-apart d v (header_length d + 13) (omega arith) (omega arith) (omega arith)) in
    let src = same-src d _ s (dscp-apart d v (12) (omega arith) (omega arith) (omega arith)) (dscp-apart d v (13) (omega arith) (omega arith) (omega arith)) (dscp-apart d v (14) (omega arith) (omega arith) (omega arith)) (dscp-apart d v (15) (omega arith) (omega arith) (omega arith)) in
    let dst = same-dst d _ s (dscp-apart d v (16) (omega arith) (omega arith) (omega arith)) (dscp-apart d v (17) (omega arith) (omega arith) (omega arith)) (dscp-apart d v (18) (omega arith) (omega arith) (omega arith)) (dscp-apart d v (19) (omega arith) (omega arith) (omega arith)) in
    let ttl = same-ttl d _ s (dscp-apart d v (8) (omega arith) (omega arith) (omega arith)) in
    let sport = same-sport d _ s (dscp-apart d v (header_length d) (omega arith) (omega arith) (omega arith)) (dscp-apart d v (header_length d + 1) (omega arith) (omega arith) (omega arith)) in
    let dport = same-dport d _ s (dscp-apart d v (header_length d + 2) (omega arith) (omega arith) (omega arith)) (dscp-apart d v (header_length d + 2 + 1) (omega arith) (omega arith) (omega arith)) in
    let read = dscp-read d v w in
    cc

-- after a write of an address
pub address-inner : (d : List ℕ) (p v i : ℕ) → 10 ≤ p → i ≢ 10 → i ≢ 11 → i ≢ checksum_offset d → i ≢ checksum_offset d + 1
    → get_or (with_address d p v) i 0 ≡ get_or (put_four d p v) i 0
unfolding with_address
address-inner d p v i far t u k l =
    let same = same-offset d _ (address-shape d p v far) in
    let k' : i ≢ checksum_offset (with_header_checksum (put_four d p v)) = rw same k in
    let l' : i ≢ checksum_offset (with_header_checksum (put_four d p v)) + 1 = rw same l in
    transport-apart (with_header_checksum (put_four d p v)) _ _ i k' l' ∙ header_checksum-apart (put_four d p v) i t u

src-read : (d : List ℕ) (v : ℕ) → IsValidIpv4 d → v ≤ 4294967295 → src_of (with_address d 12 v) ≡ v
unfolding src_of
src-read d v w small =
    let least = w.header_is_long_enough in
    let beyond = offset-beyond d in
    let long = w.has_fixed_part in
    let b0 = address-inner d 12 v 12 (omega arith) (omega arith) (omega arith) (omega arith) (omega arith) in
    let b1 = address-inner d 12 v 13 (omega arith) (omega arith) (omega arith) (omega arith) (omega arith) in
    let b2 = address-inner d 12 v 14 (omega arith) (omega arith) (omega arith) (omega arith) (omega arith) in
    let b3 = address-inner d 12 v 15 (omega arith) (omega arith) (omega arith) (omega arith) (omega arith) in
    let four = four-put d 12 v (omega arith) small in
    let r = valid-readable _ (valid-address d 12 v (omega arith) w) in
    let q : four_bytes_at (with_address d 12 v) 12 ≡ v = omega arith in
    cc

pub src-fields : (device : ℕ) (frame after d : List ℕ) (v paint annotation : ℕ) → SameEthernet frame after → IsValidIpv4 d → v ≤ 4294967295
    → fields_of device after (with_address d 12 v) paint annotation ≡ set (fields_of device frame d paint annotation) 6 v
src-fields device frame after d v paint annotation same w small =
    let least = w.header_is_long_enough in
    let beyond = offset-beyond d in
    let s = shape-address d 12 v (omega arith) least in
    let rest =
    rest-from d (with_address d 12 v) s w (valid-address d 12 v (omega arith) w)
    (same-icmp d _ s (address-apart d 12 v (header_length d) (omega arith) (omega arith) (omega arith) (omega arith) (omega arith) (omega arith) (omega arith) (omega arith) (omega arith)))
    (address-apart d 12 v (header_length d + 13) (omega arith) (omega arith) (omega arith) (omega arith) (omega arith) (omega arith) (omega arith) (flags-low d) (flags-high d)) in
    let dst = same-dst d _ s (address-apart d 12 v (16) (omega arith) (omega arith) (omega arith) (omega arith) (omega arith) (omega arith) (omega arith) (omega arith) (omega arith)) (address-apart d 12 v (17) (omega arith) (omega arith) (omega arith) (omega arith) (omega arith) (omega arith) (omega arith) (omega arith) (omega arith)) (address-apart d 12 v (18) (omega arith) (omega arith) (omega arith) (omega arith) (omega arith) (omega arith) (omega arith) (omega arith) (omega arith)) (address-apart d 12 v (19) (omega arith) (omega arith) (omega arith) (omega arith) (omega arith) (omega arith) (omega arith) (omega arith) (omega arith)) in
    let tos = (address-apart d 12 v (1) (omega arith) (omega arith) (omega arith) (omega arith) (omega arith) (omega arith) (omega arith) (omega arith) (omega arith)) in
    let dscp = same-dscp d _ s tos in
    let ecn = same-ecn d _ s (ap (λ n. n % 4) tos) in
    let ttl = same-ttl d _ s (address-apart d 12 v (8) (omega arith) (omega arith) (omega arith) (omega arith) (omega arith) (omega arith) (omega arith) (omega arith) (omega arith)) in
    let sport = same-sport d _ s (address-apart d 12 v (header_length d) (omega arith) (omega arith) (omega arith) (omega arith) (omega arith) (omega arith) (omega arith) (omega arith) (omega arith)) (address-apart d 12 v (header_length d + 1) (omega arith) (omega arith) (omega arith) (omega arith) (omega arith) (omega arith) (omega arith) (omega arith) (omega arith)) in
    let dport = same-dport d _ s (address-apart d 12 v (header_length d + 2) (omega arith) (omega arith) (omega arith) (omega arith) (omega arith) (omega arith) (omega arith) (omega arith) (omega arith)) (address-apart d 12 v (header_length d + 2 + 1) (omega arith) (omega arith) (omega arith) (omega arith) (omega arith) (omega arith) (omega arith) (omega arith) (omega arith)) in
    let read = src-read d v w small in
    cc

dst-read : (d : List ℕ) (v : ℕ) → IsValidIpv4 d → v ≤ 4294967295 → dst_of (with_address d 16 v) ≡ v
unfolding dst_of
dst-read d v w small =
    let least = w.header_is_long_enough in
    let beyond = offset-beyond d in
    let long = w.has_fixed_part in
    let b0 = address-inner d 16 v 16 (omega arith) (omega arith) (omega arith) (omega arith) (omega arith) in
    let b1 = address-inner d 16 v 17 (omega arith) (omega arith) (omega arith) (omega arith) (omega arith) in
    let b2 = address-inner d 16 v 18 (omega arith) (omega arith) (omega arith) (omega arith) (omega arith) in
    let b3 = address-inner d 16 v 19 (omega arith) (omega arith) (omega arith) (omega arith) (omega arith) in
    let four = four-put d 16 v (omega arith) small in
    let r = valid-readable _ (valid-address d 16 v (omega arith) w) in
    let q : four_bytes_at (with_address d 16 v) 16 ≡ v = omega arith in
    cc

pub dst-fields : (device : ℕ) (frame after d : List ℕ) (v paint annotation : ℕ) → SameEthernet frame after → IsValidIpv4 d → v ≤ 4294967295
    → fields_of device after (with_address d 16 v) paint annotation ≡ set (fields_of device frame d paint annotation) 7 v
dst-fields device frame after d v paint annotation same w small =
    let least = w.header_is_long_enough in
    let beyond = offset-beyond d in
    let s = shape-address d 16 v (omega arith) least in
    let rest =
    rest-from d (with_address d 16 v) s w (valid-address d 16 v (omega arith) w)
    (same-icmp d _ s (address-apart d 16 v (header_length d) (omega arith) (omega arith) (omega arith) (omega arith) (omega arith) (omega arith) (omega arith) (omega arith) (omega arith)))
    (address-apart d 16 v (header_length d + 13) (omega arith) (omega arith) (omega arith) (omega arith) (omega arith) (omega arith) (omega arith) (flags-low d) (flags-high d)) in
    let src = same-src d _ s (address-apart d 16 v (12) (omega arith) (omega arith) (omega arith) (omega arith) (omega arith) (omega arith) (omega arith) (omega arith) (omega arith)) (address-apart d 16 v (13) (omega arith) (omega arith) (omega arith) (omega arith) (omega arith) (omega arith) (omega arith) (omega arith) (omega arith)) (address-apart d 16 v (14) (omega arith) (omega arith) (omega arith) (omega arith) (omega arith) (omega arith) (omega arith) (omega arith) (omega arith)) (address-apart d 16 v (15) (omega arith) (omega arith) (omega arith) (omega arith) (omega arith) (omega arith) (omega arith) (omega arith) (omega arith)) in
    let tos = (address-apart d 16 v (1) (omega arith) (omega arith) (omega arith) (omega arith) (omega arith) (omega arith) (omega arith) (omega arith) (omega arith)) in
    let dscp = same-dscp d _ s tos in
    let ecn = same-ecn d _ s (ap (λ n. n % 4) tos) in
    let ttl = same-ttl d _ s (address-apart d 16 v (8) (omega arith) (omega arith) (omega arith) (omega arith) (omega arith) (omega arith) (omega arith) (omega arith) (omega arith)) in
    let sport = same-sport d _ s (address-apart d 16 v (header_length d) (omega arith) (omega arith) (omega arith) (omega arith) (omega arith) (omega arith) (omega arith) (omega arith) (omega arith)) (address-apart d 16 v (header_length d + 1) (omega arith) (omega arith) (omega arith) (omega arith) (omega arith) (omega arith) (omega arith) (omega arith) (omega arith)) in
    let dport = same-dport d _ s (address-apart d 16 v (header_length d + 2) (omega arith) (omega arith) (omega arith) (omega arith) (omega arith) (omega arith) (omega arith) (omega arith) (omega arith)) (address-apart d 16 v (header_length d + 2 + 1) (omega arith) (omega arith) (omega arith) (omega arith) (omega arith) (omega arith) (omega arith) (omega arith) (omega arith)) in
    let read = dst-read d v w small in
    cc

-- after a write of a port
port-inner : (d : List ℕ) (p v i : ℕ) → 10 ≤ p → i ≢ checksum_offset d → i ≢ checksum_offset d + 1
    → get_or (with_port d p v) i 0 ≡ get_or (put_two d p v) i 0
unfolding with_port
port-inner d p v i far k l =
    let same = same-offset d _ (SameShape-put_two d p v far) in
    let k' : i ≢ checksum_offset (put_two d p v) = rw same k in
    let l' : i ≢ checksum_offset (put_two d p v) + 1 = rw same l in
    transport-apart (put_two d p v) _ _ i k' l'

pub port-value : (d : List ℕ) (at v : ℕ) → IsValidIpv4 d → has_ports d ≡ true → at ≤ 2 → v ≤ 65535
    → two_bytes_at (with_port d (header_length d + at) v) (header_length d + at) ≡ v
port-value d at v w h low small =
    let least = w.header_is_long_enough in
    let beyond = offset-beyond d in
    let long = ports_long d h in
    let b0 = port-inner d (header_length d + at) v (header_length d + at) (omega arith) (omega arith) (omega arith) in
    let b1 = port-inner d (header_length d + at) v (header_length d + at + 1) (omega arith) (omega arith) (omega arith) in
    let two = two-put d (header_length d + at) v (omega arith) in
    omega arith

sport-read : (d : List ℕ) (v : ℕ) → IsValidIpv4 d → has_ports d ≡ true → v ≤ 65535 → sport_of (with_port d (header_length d) v) ≡ v
unfolding sport_of
sport-read d v w h small =
    let least = w.header_is_long_enough in
    let s = shape-port d (header_length d) v (omega arith) least in
    let n = same-header_length d _ s in
    let p = same-ports d _ s ∙ h in
    let z : header_length d + 0 ≡ header_length d = omega arith in
    let q : two_bytes_at (with_port d (header_length d) v) (header_length d) ≡ v = rw z at (port-value d 0 v w h (omega arith) small) in
    let t = same-two (with_port d (header_length d) v) (with_port d (header_length d) v) (header_length (with_port d (header_length d) v)) (header_length d) n refl refl in
    cc

pub sport-fields : (device : ℕ) (frame after d : List ℕ) (v paint annotation : ℕ) → SameEthernet frame after → IsValidIpv4 d → has_ports d ≡ true → v ≤ 65535
    → fields_of device after (with_port d (header_length d) v) paint annotation ≡ set (fields_of device frame d paint annotation) 10 v
sport-fields device frame after d v paint annotation same w h small =
    let least = w.header_is_long_enough in
    let beyond = offset-beyond d in
    let s = shape-port d (header_length d) v (omega arith) least in
    let rest =
    rest-from d (with_port d (header_length d) v) s w (valid-port d (header_length d) v (omega arith) w)
    (same-icmp-ports d _ s h)
    (port-apart d (header_length d) v (header_length d + 13) (omega arith) (omega arith) (omega arith) (flags-low d) (flags-high d)) in
    let src = same-src d _ s (port-apart d (header_length d) v (12) (omega arith) (omega arith) (omega arith) (omega arith) (omega arith)) (port-apart d (header_length d) v (13) (omega arith) (omega arith) (omega arith) (omega arith) (omega arith)) (port-apart d (header_length d) v (14) (omega arith) (omega arith) (omega arith) (omega arith) (omega arith)) (port-apart d (header_length d) v (15) (omega arith) (omega arith) (omega arith) (omega arith) (omega arith)) in
    let dst = same-dst d _ s (port-apart d (header_length d) v (16) (omega arith) (omega arith) (omega arith) (omega arith) (omega arith)) (port-apart d (header_length d) v (17) (omega arith) (omega arith) (omega arith) (omega arith) (omega arith)) (port-apart d (header_length d) v (18) (omega arith) (omega arith) (omega arith) (omega arith) (omega arith)) (port-apart d (header_length d) v (19) (omega arith) (omega arith) (omega arith) (omega arith) (omega arith)) in
    let tos = (port-apart d (header_length d) v (1) (omega arith) (omega arith) (omega arith) (omega arith) (omega arith)) in
    let dscp = same-dscp d _ s tos in
    let ecn = same-ecn d _ s (ap (λ n. n % 4) tos) in
    let ttl = same-ttl d _ s (port-apart d (header_length d) v (8) (omega arith) (omega arith) (omega arith) (omega arith) (omega arith)) in
    let dport = same-dport d _ s (port-apart d (header_length d) v (header_length d + 2) (omega arith) (omega arith) (omega arith) (omega arith) (omega arith)) (port-apart d (header_length d) v (header_length d + 2 + 1) (omega arith) (omega arith) (omega arith) (omega arith) (omega arith)) in
    let read = sport-read d v w h small in
    cc

dport-read : (d : List ℕ) (v : ℕ) → IsValidIpv4 d → has_ports d ≡ true → v ≤ 65535 → dport_of (with_port d (header_length d + 2) v) ≡ v
unfolding dport_of
dport-read d v w h small =
    let least = w.header_is_long_enough in
    let s = shape-port d (header_length d + 2) v (omega arith) least in
    let n = same-header_length d _ s in
    let p = same-ports d _ s ∙ h in
    let q : two_bytes_at (with_port d (header_length d + 2) v) (header_length d + 2) ≡ v = port-value d 2 v w h (omega arith) small in
    let t = same-two (with_port d (header_length d + 2) v) (with_port d (header_length d + 2) v) (header_length (with_port d (header_length d + 2) v) + 2) (header_length d + 2) (ap (λ k. k + 2) n) refl refl in
    cc

pub dport-fields : (device : ℕ) (frame after d : List ℕ) (v paint annotation : ℕ) → SameEthernet frame after → IsValidIpv4 d → has_ports d ≡ true → v ≤ 65535
    → fields_of device after (with_port d (header_length d + 2) v) paint annotation ≡ set (fields_of device frame d paint annotation) 11 v
dport-fields device frame after d v paint annotation same w h small =
    let least = w.header_is_long_enough in
    let beyond = offset-beyond d in
    let s = shape-port d (header_length d + 2) v (omega arith) least in
    let rest =
    rest-from d (with_port d (header_length d + 2) v) s w (valid-port d (header_length d + 2) v (omega arith) w)
    (same-icmp-ports d _ s h)
    (port-apart d (header_length d + 2) v (header_length d + 13) (omega arith) (omega arith) (omega arith) (flags-low d) (flags-high d)) in
    let src = same-src d _ s (port-apart d (header_length d + 2) v (12) (omega arith) (omega arith) (omega arith) (omega arith) (omega arith)) (port-apart d (header_length d + 2) v (13) (omega arith) (omega arith) (omega arith) (omega arith) (omega arith)) (port-apart d (header_length d + 2) v (14) (omega arith) (omega arith) (omega arith) (omega arith) (omega arith)) (port-apart d (header_length d + 2) v (15) (omega arith) (omega arith) (omega arith) (omega arith) (omega arith)) in
    let dst = same-dst d _ s (port-apart d (header_length d + 2) v (16) (omega arith) (omega arith) (omega arith) (omega arith) (omega arith)) (port-apart d (header_length d + 2) v (17) (omega arith) (omega arith) (omega arith) (omega arith) (omega arith)) (port-apart d (header_length d + 2) v (18) (omega arith) (omega arith) (omega arith) (omega arith) (omega arith)) (port-apart d (header_length d + 2) v (19) (omega arith) (omega arith) (omega arith) (omega arith) (omega arith)) in
    let tos = (port-apart d (header_length d + 2) v (1) (omega arith) (omega arith) (omega arith) (omega arith) (omega arith)) in
    let dscp = same-dscp d _ s tos in
    let ecn = same-ecn d _ s (ap (λ n. n % 4) tos) in
    let ttl = same-ttl d _ s (port-apart d (header_length d + 2) v (8) (omega arith) (omega arith) (omega arith) (omega arith) (omega arith)) in
    let sport = same-sport d _ s (port-apart d (header_length d + 2) v (header_length d) (omega arith) (omega arith) (omega arith) (omega arith) (omega arith)) (port-apart d (header_length d + 2) v (header_length d + 1) (omega arith) (omega arith) (omega arith) (omega arith) (omega arith)) in
    let read = dport-read d v w h small in
    cc
