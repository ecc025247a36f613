-- The written form of checksums, given by a check and kept by every write.
use Rattle.std.proofs.Common.{◌≡◌, ◌∙◌, sym, subst, refl, ℕ, ◌+◌, ◌-◌, ◌/◌, ◌%◌, ◌<◌, ◌≤◌, List, [], ◌∷◌, ◌++◌, length, get_or, set, take, drop, Bool, true, false, cond, eqb, ◌&&◌, if◌then◌else◌, ◌⊎◌, inl, inr, arith}
use Rattle.std.proofs.Math.ListN.{get_or-append, get_or-eq_default}
use Rattle.std.proofs.lemmas.Bool.{cases_lt, cases_eq}
use Rattle.std.proofs.lemmas.Bool.Decides.{nat_tests}
use Rattle.std.proofs.lemmas.List.{get_or-set_same, get_or-set_other, get_or-take, get_or-append_right, length-set, length-take}
use Rattle.mt_packet.proofs.Forms.{Part, source, destination, code_point, life, source_port, destination_port, context, written, change, form}
use Rattle.mt_packet.proofs.Kept.{datagram_of-with, datagram_of-checked, tcp_zero-shape}
use Rattle.mt_packet.proofs.Mends.{Context, mend_header, mend_transport}
use Rattle.mt_packet.proofs.Orders.{Allowed, written-valid, written-shape}
use Rattle.mt_packet.proofs.PacketWrites.{Writable, ethernet, painted, annotated, part, Side, type, receiver, sender, side_bytes, side-datagram, field_for, which, Can, can, after, as-after}
use Rattle.mt_packet.proofs.Puts.{put_two-apart, two-put, checksum_within}
use Rattle.mt_packet.proofs.Settled.{HeaderForm, TransportForm, mended-header, mended-transport, datagram-bytes}
use Rattle.mt_packet.proofs.Shape.{same-ports, same-proto, same-offset}
use Rattle.mt_packet.proofs.Spots.{Spot, offset_of, sets}
use Rattle.mt_packet.proofs.Valid.{valid-cut, valid-header_zero, valid-tcp_zero}
use Rattle.mt_packet.proofs.Ranges.{AreBytes-drop}
use Rattle.mt_packet.proofs.Views.{seen}
use Rattle.mt_packet.specs.declared.layer.Layer.{Layer}
use Rattle.std.specs.Bool.{OnTrue}
use Rattle.mt_packet.specs.Field.{two_bytes_at}
use Rattle.mt_packet.specs.Header.{AreBytes}
use Rattle.mt_packet.specs.Ipv4.{IsValidIpv4, header_length, total_length, has_ports, proto_of}
use Rattle.mt_packet.specs.Packet.{PacketState, has_ethernet, datagram_of, with_datagram, with_field, checked, checked_datagram, CanWrite, IsChecked, HasWrittenSums}
use Rattle.mt_packet.specs.Write.{put_two, checksum_offset, with_header_zero, with_tcp_zero}
use Rattle.mt_packet.specs.WriteLaws.{CheckSettles, WriteSettles}
use Rattle.mt_packet.specs.declared.field.Field.{Field}

-- bytes stay bytes
set-bytes : (d : List ℕ) (i v : ℕ) → AreBytes d → v < 256 → AreBytes (set d i v)
set-bytes d i v h small = λ j. by_place j (cases_eq j i) (cases_lt i (length d))
  where
    by_place : (j : ℕ) → (j ≡ i) ⊎ (j ≡ i → ⊥) → (i < length d) ⊎ (length d ≤ i) → get_or (set d i v) j 0 < 256
    by_place j (inl e) (inl within) = let s = get_or-set_same d i v 0 within in rw (e, s) small
    by_place j (inl e) (inr past) =
        let n = length-set d i v in
        let s : get_or (set d i v) i 0 ≡ 0 = get_or-eq_default (set d i v) 0 (omega arith) in
        rw (e, s) (omega arith)
    by_place j (inr n) w = let s = get_or-set_other d i j v 0 n in let b = h j in rw s b

put-bytes : (d : List ℕ) (p v : ℕ) → AreBytes d → AreBytes (put_two d p v)
put-bytes d p v h = set-bytes (set d p (v / 256 % 256)) (p + 1) (v % 256) (set-bytes d p (v / 256 % 256) h (omega arith)) (omega arith)

-- each value that is set is a byte
abbrev Small : List (Spot × ℕ) → Type 0
Small [] = Unit {0}
Small (w ∷ ws) = (w.1 < 256) × Small ws

sets-bytes : (h : ℕ) (ws : List (Spot × ℕ)) (d : List ℕ) → AreBytes d → Small ws → AreBytes (sets h ws d)
sets-bytes h [] d b s = b
sets-bytes h (w ∷ ws) d b s = sets-bytes h ws (set d (offset_of h w.0) w.1) (set-bytes d (offset_of h w.0) w.1 b s.0) s.1

header-bytes : (h : ℕ) (b : Bool) (d : List ℕ) → AreBytes d → AreBytes (mend_header h b d)
header-bytes h true d a = put-bytes d 10 _ a
header-bytes h false d a = a

transport-bytes : (x : Context) (b : Bool) (old new : List ℕ) (d : List ℕ) → AreBytes d → AreBytes (mend_transport x b old new d)
transport-bytes x true old new d a = put-bytes d (x.header + x.distance) _ a
transport-bytes x false old new d a = a

small : (h : ℕ) (d : List ℕ) (q : Part) (v : ℕ) → Allowed d q v → Small (change h d q v).bytes
small h d source v a = (omega arith, (omega arith, (omega arith, (omega arith, tt))))
small h d destination v a = (omega arith, (omega arith, (omega arith, (omega arith, tt))))
small h d code_point v a = (omega arith, tt)
small h d life v a = (omega arith, tt)
small h d source_port v a = (omega arith, (omega arith, tt))
small h d destination_port v a = (omega arith, (omega arith, tt))

written-bytes : (d : List ℕ) (q : Part) (v : ℕ) → IsValidIpv4 d → Allowed d q v → AreBytes d → AreBytes (written d q v)
written-bytes d q v valid a b =
    let P : List ℕ → Type 0 = λ l. AreBytes l in
    let w = change (header_length d) d q v in
    subst P (sym (form d q v valid))
    (transport-bytes (context d) (w.in_transport && has_ports d) w.old w.new (mend_header (header_length d) w.in_header (sets (header_length d) w.bytes d))
    (header-bytes (header_length d) w.in_header (sets (header_length d) w.bytes d)
    (sets-bytes (header_length d) w.bytes d b (small (header_length d) d q v a))))

take-bytes : (n : ℕ) (d : List ℕ) → AreBytes d → AreBytes (take n d)
take-bytes n d b = λ j. by_place j (cases_lt j n)
  where
    by_place : (j : ℕ) → (j < n) ⊎ (n ≤ j) → get_or (take n d) j 0 < 256
    by_place j (inl l) = let s = get_or-take n d j 0 l in let h = b j in rw s h
    by_place j (inr l) =
        let m = length-take n d in
        let s : get_or (take n d) j 0 ≡ 0 = get_or-eq_default (take n d) 0 (omega arith) in
        rw s (omega arith)

join-bytes : (f d : List ℕ) → AreBytes f → AreBytes d → AreBytes (f ++ d)
join-bytes f d a b = λ j. by_place j (cases_lt j (length f))
  where
    by_place : (j : ℕ) → (j < length f) ⊎ (length f ≤ j) → get_or (f ++ d) j 0 < 256
    by_place j (inl l) = let s = get_or-append f d 0 j l in let h = a j in rw s h
    by_place j (inr l) = let s = get_or-append_right f d (length f) j 0 refl l in let h = b (j - length f) in rw s h

with-bytes : (p : PacketState) (d : List ℕ) → AreBytes p.bytes → AreBytes d → AreBytes (with_datagram p d).bytes
with-bytes p d a b = by_layer (has_ethernet p.layer)
  where
    by_layer : (l : Bool) → AreBytes (if l then take 14 p.bytes ++ d else d)
    by_layer true = join-bytes (take 14 p.bytes) d (take-bytes 14 p.bytes a) b
    by_layer false = b

side-small : (a : Side) (v : ℕ) → Small (side_bytes a v)
side-small type v = (omega arith, (omega arith, tt))
side-small receiver v = (omega arith, (omega arith, (omega arith, (omega arith, (omega arith, (omega arith, tt))))))
side-small sender v = (omega arith, (omega arith, (omega arith, (omega arith, (omega arith, (omega arith, tt))))))

-- the facts of a datagram that has its checksums in their written form
record Formed (d : List ℕ) : Type 0 where
  valid : IsValidIpv4 d
  header_form : HeaderForm d
  transport_form : TransportForm d

formed-of : (p : PacketState) → HasWrittenSums p → Formed (datagram_of p)
formed-of p h = record { valid = h.is_checked; header_form = h.header_is_written; transport_form = h.transport_is_written }

sums-of : (p : PacketState) (d : List ℕ) → datagram_of p ≡ d → Formed d → AreBytes p.bytes → HasWrittenSums p
sums-of p d e f b =
    let P : List ℕ → Type 0 = λ l. Formed l in
    let g = subst P (sym e) f in
    record { is_checked = g.valid; are_bytes = b; header_is_written = g.header_form; transport_is_written = g.transport_form }

-- a write of a field of IPv4
kept-header : (d : List ℕ) (q : Part) (v : ℕ) → Formed d → HeaderForm (written d q v)
kept-header d q v f = mended-header d q v f.valid (λ e. f.header_form)

kept-transport : (d : List ℕ) (q : Part) (v : ℕ) → Formed d → TransportForm (written d q v)
kept-transport d q v f h p =
    let s = written-shape d q v f.valid in
    let ports : has_ports d ≡ true = sym (same-ports d (written d q v) s) ∙ h in
    let tcp : proto_of d ≡ 6 = sym (same-proto d (written d q v) s) ∙ p in
    let a = mended-transport d q v f.valid ports tcp (λ e. f.transport_form ports tcp) in
    let o = same-offset d (written d q v) s in
    rw o a

formed-written : (d : List ℕ) (q : Part) (v : ℕ) → Formed d → Formed (written d q v)
formed-written d q v f =
    record { valid = written-valid d q v f.valid; header_form = kept-header d q v f; transport_form = kept-transport d q v f }

sums-after : (p : PacketState) (k : Writable) (v : ℕ) → Can p k v → HasWrittenSums p → HasWrittenSums (after p k v)
sums-after p (ethernet a) v c h =
    sums-of (after p (ethernet a) v) (datagram_of p) (side-datagram p a v c) (formed-of p h)
    (sets-bytes 20 (side_bytes a v) p.bytes h.are_bytes (side-small a v))
sums-after p painted v c h = sums-of (after p painted v) (datagram_of p) refl (formed-of p h) h.are_bytes
sums-after p annotated v c h = sums-of (after p annotated v) (datagram_of p) refl (formed-of p h) h.are_bytes
sums-after p (part q) v c h =
    sums-of (after p (part q) v) (written (datagram_of p) q v) (datagram_of-with p (written (datagram_of p) q v) c.0)
    (formed-written (datagram_of p) q v (formed-of p h))
    (with-bytes p (written (datagram_of p) q v) h.are_bytes
    (written-bytes (datagram_of p) q v c.0 c.1 (datagram-bytes p h.are_bytes)))

pub write-settles : WriteSettles
write-settles p field v c h = told (which p field v c)
  where
    told : (k : Writable) × (field_for k ≡ field) → HasWrittenSums (with_field p field v)
    told k =
        let P : Field → Type 0 = λ f. CanWrite p f v → HasWrittenSums (with_field p f v) in
        let S : PacketState → Type 0 = λ q. HasWrittenSums q in
        subst P k.1 (λ e. subst S (sym (as-after p k.0 v)) (sums-after p k.0 v (can p k.0 v e) h)) c

-- a check
zero-bytes : (b : Bool) (d : List ℕ) (p : ℕ) → AreBytes d → AreBytes (cond b (put_two d p 0) d)
zero-bytes true d p a = put-bytes d p 0 a
zero-bytes false d p a = a

tcp-zero-bytes : (d : List ℕ) → AreBytes d → AreBytes (with_tcp_zero d)
unfolding with_tcp_zero
tcp-zero-bytes d a =
    zero-bytes ((has_ports d && eqb (proto_of d) 6) && eqb (two_bytes_at d (checksum_offset d)) 65535) d (checksum_offset d) a

header-zero-bytes : (d : List ℕ) → AreBytes d → AreBytes (with_header_zero d)
unfolding with_header_zero
header-zero-bytes d a = zero-bytes (eqb (two_bytes_at d 10) 65535) d 10 a

checked-bytes : (d : List ℕ) → AreBytes d → AreBytes (checked_datagram d)
unfolding checked_datagram
checked-bytes d a =
    tcp-zero-bytes (with_header_zero (take (total_length d) d))
    (header-zero-bytes (take (total_length d) d) (take-bytes (total_length d) d a))

header-zeroed : (d : List ℕ) → IsValidIpv4 d → AreBytes d → HeaderForm (with_header_zero d)
unfolding with_header_zero
header-zeroed d v a = by_test (eqb (two_bytes_at d 10) 65535) refl
  where
    by_test : (b : Bool) → eqb (two_bytes_at d 10) 65535 ≡ b → two_bytes_at (cond b (put_two d 10 0) d) 10 ≤ 65534
    by_test true e = let l = v.has_fixed_part in let t = two-put d 10 0 (omega arith) in omega arith
    by_test false e = let b0 = a 10 in let b1 = a 11 in grind (arith, nat_tests)

tcp-header : (d : List ℕ) → IsValidIpv4 d → HeaderForm d → HeaderForm (with_tcp_zero d)
unfolding with_tcp_zero
tcp-header d v h =
    by_test ((has_ports d && eqb (proto_of d) 6) && eqb (two_bytes_at d (checksum_offset d)) 65535)
  where
    by_test : (b : Bool) → two_bytes_at (cond b (put_two d (checksum_offset d) 0) d) 10 ≤ 65534
    by_test true =
        let least = v.header_is_long_enough in
        let p = put_two-apart d (checksum_offset d) 0 10 (omega arith) (omega arith) in
        let q = put_two-apart d (checksum_offset d) 0 11 (omega arith) (omega arith) in
        omega arith
    by_test false = h

tcp-zero-form : (d : List ℕ) → AreBytes d → has_ports d ≡ true → proto_of d ≡ 6 → two_bytes_at (with_tcp_zero d) (checksum_offset d) ≤ 65534
unfolding with_tcp_zero
tcp-zero-form d a ports tcp =
    by_test (has_ports d) (eqb (proto_of d) 6) (eqb (two_bytes_at d (checksum_offset d)) 65535) ports (grind (arith, nat_tests)) refl
  where
    by_test : (h p b : Bool) → h ≡ true → p ≡ true → eqb (two_bytes_at d (checksum_offset d)) 65535 ≡ b
        → two_bytes_at (cond ((h && p) && b) (put_two d (checksum_offset d) 0) d) (checksum_offset d) ≤ 65534
    by_test true true true x y e =
        let l = (checksum_within d ports).1 in
        let t = two-put d (checksum_offset d) 0 l in
        omega arith
    by_test true true false x y e =
        let b0 = a (checksum_offset d) in
        let b1 = a (checksum_offset d + 1) in
        grind (arith, nat_tests)
    by_test true false b x y e = cc
    by_test false p b x y e = cc

tcp-zeroed : (d : List ℕ) → IsValidIpv4 d → AreBytes d → TransportForm (with_tcp_zero d)
tcp-zeroed d v a h p =
    let s = tcp_zero-shape d v.header_is_long_enough in
    let ports : has_ports d ≡ true = sym (same-ports d (with_tcp_zero d) s) ∙ h in
    let tcp : proto_of d ≡ 6 = sym (same-proto d (with_tcp_zero d) s) ∙ p in
    let o = same-offset d (with_tcp_zero d) s in
    rw o (tcp-zero-form d a ports tcp)

formed-checked : (d : List ℕ) → IsValidIpv4 d → AreBytes d → Formed (checked_datagram d)
unfolding checked_datagram
formed-checked d v a =
    let c = valid-cut d v in
    let z = valid-header_zero (take (total_length d) d) c in
    let b = take-bytes (total_length d) d a in
    let bz = header-zero-bytes (take (total_length d) d) b in
    record {
      valid = valid-tcp_zero (with_header_zero (take (total_length d) d)) z;
      header_form = tcp-header (with_header_zero (take (total_length d) d)) z (header-zeroed (take (total_length d) d) c b);
      transport_form = tcp-zeroed (with_header_zero (take (total_length d) d)) z bz;
    }

pub check-settles : CheckSettles
check-settles p a v =
    sums-of (checked p) (checked_datagram (datagram_of p)) (datagram_of-checked p v)
    (formed-checked (datagram_of p) v (datagram-bytes p a))
    (with-bytes p (checked_datagram (datagram_of p)) a (checked-bytes (datagram_of p) (datagram-bytes p a)))

-- the packet that a call leaves
pub written-written : (p q : PacketState) (field : Field) (v : ℕ) → CanWrite p field v → q ≡ with_field p field v
    → HasWrittenSums p → HasWrittenSums q
written-written p q field v c e h =
    let P : PacketState → Type 0 = λ r. HasWrittenSums r in subst P (sym e) (write-settles p field v c h)

pub judged-written : (p q : PacketState) (b : Bool) → AreBytes p.bytes → (b ≡ true → IsChecked p) → q ≡ (if b then checked p else p)
    → OnTrue b (HasWrittenSums q)
judged-written p q true a v e =
    let P : PacketState → Type 0 = λ r. HasWrittenSums r in subst P (sym e) (check-settles p a (v refl))
judged-written p q false a v e = tt

-- the bytes that are seen of those that are kept
pub seen-bytes : (p : PacketState) (layer : Layer) (items : List ℕ) (paint annotation stamp device number : ℕ)
    → seen items layer paint annotation stamp device number ≡ p → AreBytes items → AreBytes p.bytes
seen-bytes p layer items paint annotation stamp device number is a =
    let P : PacketState → Type 0 = λ r. AreBytes r.bytes in
    subst P is (by_layer (has_ethernet layer))
  where
    by_layer : (b : Bool) → AreBytes (if b then items else drop 14 items)
    by_layer true = a
    by_layer false = AreBytes-drop items 14 a
