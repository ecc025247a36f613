-- Two writes of fields of IPv4: of one field, of two fields, and of the value that is there.
use Rattle.std.proofs.Common.{◌≡◌, ◌≢◌, ◌∙◌, sym, ap, subst, refl, ℕ, ◌+◌, ◌*◌, ◌/◌, ◌%◌, ◌≤◌, List, [], ◌∷◌, length, get_or, set, true, false, eqb, ◌&&◌, arith}
use Rattle.std.proofs.lemmas.List.{length-set}
use Rattle.mt_packet.proofs.Forms.{Part, source, destination, code_point, life, source_port, destination_port, context, same-context, written, change, form, by_distance, change-clear, within-ports}
use Rattle.mt_packet.proofs.Mends.{Change, Over, perform, sum_bytes, far_bytes, perform-at, perform-exchanged, perform-over}
use Rattle.mt_packet.proofs.Puts.{two-put, put_two-apart}
use Rattle.mt_packet.proofs.Reading.{address-inner, port-value, dscp-low, offset-beyond}
use Rattle.mt_packet.proofs.Shape.{SameShape}
use Rattle.mt_packet.proofs.Spots.{Spot, low, high, offset_of, clear, disjoint, beyond, left, right}
use Rattle.mt_packet.proofs.Valid.{valid-address, valid-port, valid-ttl, valid-dscp, shape-address, shape-port, shape-ttl, shape-dscp}
use Rattle.mt_packet.specs.Field.{two_bytes_at}
use Rattle.mt_packet.specs.Ipv4.{IsValidIpv4, header_length, has_ports, proto_of}
use Rattle.mt_packet.specs.Write.{put_two, put_four, with_address, with_port}

-- the bytes that a write of a field reads are the same
abbrev Reads : ℕ → List ℕ → List ℕ → Part → Type 0
Reads h d e source = (get_or e 12 0 ≡ get_or d 12 0) × (get_or e 13 0 ≡ get_or d 13 0) × (get_or e 14 0 ≡ get_or d 14 0) × (get_or e 15 0 ≡ get_or d 15 0)
Reads h d e destination = (get_or e 16 0 ≡ get_or d 16 0) × (get_or e 17 0 ≡ get_or d 17 0) × (get_or e 18 0 ≡ get_or d 18 0) × (get_or e 19 0 ≡ get_or d 19 0)
Reads h d e code_point = (get_or e 1 0 ≡ get_or d 1 0)
Reads h d e life = Unit {0}
Reads h d e source_port = (get_or e (h + 0) 0 ≡ get_or d (h + 0) 0) × (get_or e (h + 1) 0 ≡ get_or d (h + 1) 0)
Reads h d e destination_port = (get_or e (h + 2) 0 ≡ get_or d (h + 2) 0) × (get_or e (h + 3) 0 ≡ get_or d (h + 3) 0)

change-reads : (h : ℕ) (d e : List ℕ) (part : Part) (v : ℕ) → Reads h d e part → change h e part v ≡ change h d part v
change-reads h d e source v r = let r0 = r.0 in let r1 = r.1 in let r2 = r.2 in let r3 = r.3 in cc
change-reads h d e destination v r = let r0 = r.0 in let r1 = r.1 in let r2 = r.2 in let r3 = r.3 in cc
change-reads h d e code_point v r = cc
change-reads h d e life v r = refl
change-reads h d e source_port v r = let r0 = r.0 in let r1 = r.1 in cc
change-reads h d e destination_port v r = let r0 = r.0 in let r1 = r.1 in cc

-- a write of other bytes leaves them
spot-left : (d : List ℕ) (w : Change) (s : Spot) → 20 ≤ header_length d → clear w.bytes s ≡ true
    → ((v : ℕ) → clear (sum_bytes v) s ≡ true) → ((v : ℕ) → clear (far_bytes 6 v) s ≡ true) → ((v : ℕ) → clear (far_bytes 16 v) s ≡ true)
    → get_or (perform (context d) w d) (offset_of (header_length d) s) 0 ≡ get_or d (offset_of (header_length d) s) 0
spot-left d w s least c near udp tcp =
    perform-at (context d) w s d least c near
    (λ v. by_distance (λ k. clear (far_bytes k v) s ≡ true) (eqb (proto_of d) 17) (udp v) (tcp v))

reads-left : (d : List ℕ) (w : Change) (part : Part) (v : ℕ) → 20 ≤ header_length d
    → disjoint w.bytes (change (header_length d) d part v).bytes ≡ true → Reads (header_length d) d (perform (context d) w d) part
reads-left d w source v least apart =
    let a0 = left (clear w.bytes (low 12)) (clear w.bytes (low 13) && (clear w.bytes (low 14) && (clear w.bytes (low 15) && true))) apart in
    let t0 = right (clear w.bytes (low 12)) (clear w.bytes (low 13) && (clear w.bytes (low 14) && (clear w.bytes (low 15) && true))) apart in
    let a1 = left (clear w.bytes (low 13)) (clear w.bytes (low 14) && (clear w.bytes (low 15) && true)) t0 in
    let t1 = right (clear w.bytes (low 13)) (clear w.bytes (low 14) && (clear w.bytes (low 15) && true)) t0 in
    let a2 = left (clear w.bytes (low 14)) (clear w.bytes (low 15) && true) t1 in
    let t2 = right (clear w.bytes (low 14)) (clear w.bytes (low 15) && true) t1 in
    let a3 = left (clear w.bytes (low 15)) true t2 in
    (spot-left d w (low 12) least a0 (λ _. refl) (λ _. refl) (λ _. refl), spot-left d w (low 13) least a1 (λ _. refl) (λ _. refl) (λ _. refl), spot-left d w (low 14) least a2 (λ _. refl) (λ _. refl) (λ _. refl), spot-left d w (low 15) least a3 (λ _. refl) (λ _. refl) (λ _. refl))
reads-left d w destination v least apart =
    let a0 = left (clear w.bytes (low 16)) (clear w.bytes (low 17) && (clear w.bytes (low 18) && (clear w.bytes (low 19) && true))) apart in
    let t0 = right (clear w.bytes (low 16)) (clear w.bytes (low 17) && (clear w.bytes (low 18) && (clear w.bytes (low 19) && true))) apart in
    let a1 = left (clear w.bytes (low 17)) (clear w.bytes (low 18) && (clear w.bytes (low 19) && true)) t0 in
    let t1 = right (clear w.bytes (low 17)) (clear w.bytes (low 18) && (clear w.bytes (low 19) && true)) t0 in
    let a2 = left (clear w.bytes (low 18)) (clear w.bytes (low 19) && true) t1 in
    let t2 = right (clear w.bytes (low 18)) (clear w.bytes (low 19) && true) t1 in
    let a3 = left (clear w.bytes (low 19)) true t2 in
    (spot-left d w (low 16) least a0 (λ _. refl) (λ _. refl) (λ _. refl), spot-left d w (low 17) least a1 (λ _. refl) (λ _. refl) (λ _. refl), spot-left d w (low 18) least a2 (λ _. refl) (λ _. refl) (λ _. refl), spot-left d w (low 19) least a3 (λ _. refl) (λ _. refl) (λ _. refl))
reads-left d w code_point v least apart =
    let a0 = left (clear w.bytes (low 1)) true apart in
    spot-left d w (low 1) least a0 (λ _. refl) (λ _. refl) (λ _. refl)
reads-left d w life v least apart = tt
reads-left d w source_port v least apart =
    let a0 = left (clear w.bytes (high 0)) (clear w.bytes (high 1) && true) apart in
    let t0 = right (clear w.bytes (high 0)) (clear w.bytes (high 1) && true) apart in
    let a1 = left (clear w.bytes (high 1)) true t0 in
    (spot-left d w (high 0) least a0 (λ _. refl) (λ _. refl) (λ _. refl), spot-left d w (high 1) least a1 (λ _. refl) (λ _. refl) (λ _. refl))
reads-left d w destination_port v least apart =
    let a0 = left (clear w.bytes (high 2)) (clear w.bytes (high 3) && true) apart in
    let t0 = right (clear w.bytes (high 2)) (clear w.bytes (high 3) && true) apart in
    let a1 = left (clear w.bytes (high 3)) true t0 in
    (spot-left d w (high 2) least a0 (λ _. refl) (λ _. refl) (λ _. refl), spot-left d w (high 3) least a1 (λ _. refl) (λ _. refl) (λ _. refl))

-- two fields have no byte in common
parts-apart : (h : ℕ) (d e : List ℕ) (one other : Part) (v w : ℕ) → one ≢ other
    → disjoint (change h d one v).bytes (change h e other w).bytes ≡ true
parts-apart h d e source source v w apart = absurd (apart refl)
parts-apart h d e source destination v w apart = refl
parts-apart h d e source code_point v w apart = refl
parts-apart h d e source life v w apart = refl
parts-apart h d e source source_port v w apart = refl
parts-apart h d e source destination_port v w apart = refl
parts-apart h d e destination source v w apart = refl
parts-apart h d e destination destination v w apart = absurd (apart refl)
parts-apart h d e destination code_point v w apart = refl
parts-apart h d e destination life v w apart = refl
parts-apart h d e destination source_port v w apart = refl
parts-apart h d e destination destination_port v w apart = refl
parts-apart h d e code_point source v w apart = refl
parts-apart h d e code_point destination v w apart = refl
parts-apart h d e code_point code_point v w apart = absurd (apart refl)
parts-apart h d e code_point life v w apart = refl
parts-apart h d e code_point source_port v w apart = refl
parts-apart h d e code_point destination_port v w apart = refl
parts-apart h d e life source v w apart = refl
parts-apart h d e life destination v w apart = refl
parts-apart h d e life code_point v w apart = refl
parts-apart h d e life life v w apart = absurd (apart refl)
parts-apart h d e life source_port v w apart = refl
parts-apart h d e life destination_port v w apart = refl
parts-apart h d e source_port source v w apart = refl
parts-apart h d e source_port destination v w apart = refl
parts-apart h d e source_port code_point v w apart = refl
parts-apart h d e source_port life v w apart = refl
parts-apart h d e source_port source_port v w apart = absurd (apart refl)
parts-apart h d e source_port destination_port v w apart = refl
parts-apart h d e destination_port source v w apart = refl
parts-apart h d e destination_port destination v w apart = refl
parts-apart h d e destination_port code_point v w apart = refl
parts-apart h d e destination_port life v w apart = refl
parts-apart h d e destination_port source_port v w apart = refl
parts-apart h d e destination_port destination_port v w apart = absurd (apart refl)

-- ports stand behind the header
ports-beyond : (h : ℕ) (d : List ℕ) (part : Part) (v : ℕ) → (change h d part v).in_header ≡ false → beyond (change h d part v).bytes ≡ true
ports-beyond h d source v n = cc
ports-beyond h d destination v n = cc
ports-beyond h d code_point v n = cc
ports-beyond h d life v n = cc
ports-beyond h d source_port v n = refl
ports-beyond h d destination_port v n = refl

-- what a write keeps
pub written-valid : (d : List ℕ) (part : Part) (v : ℕ) → IsValidIpv4 d → IsValidIpv4 (written d part v)
written-valid d source v w = valid-address d 12 v (omega arith) w
written-valid d destination v w = valid-address d 16 v (omega arith) w
written-valid d code_point v w = valid-dscp d v w
written-valid d life v w = valid-ttl d v w
written-valid d source_port v w = valid-port d (header_length d) v (omega arith) w
written-valid d destination_port v w = valid-port d (header_length d + 2) v (omega arith) w

pub written-shape : (d : List ℕ) (part : Part) (v : ℕ) → IsValidIpv4 d → SameShape d (written d part v)
written-shape d source v w = shape-address d 12 v (omega arith) w.header_is_long_enough
written-shape d destination v w = shape-address d 16 v (omega arith) w.header_is_long_enough
written-shape d code_point v w = shape-dscp d v
written-shape d life v w = shape-ttl d v
written-shape d source_port v w = shape-port d (header_length d) v (omega arith) w.header_is_long_enough
written-shape d destination_port v w = shape-port d (header_length d + 2) v (omega arith) w.header_is_long_enough

-- a second write, with what the first told
second : (d : List ℕ) (one other : Part) (v w : ℕ) → IsValidIpv4 d → one ≢ other
    → written (written d one v) other w
    ≡ perform (context d) (change (header_length d) d other w) (perform (context d) (change (header_length d) d one v) d)
second d one other v w valid apart =
    let h = header_length d in
    let e = written d one v in
    let f = form d one v valid in
    let R : List ℕ → Type 0 = λ l. Reads (header_length d) d l other in
    let left_there : Reads (header_length d) d (perform (context d) (change (header_length d) d one v) d) other
    = reads-left d (change (header_length d) d one v) other w valid.header_is_long_enough (parts-apart (header_length d) d d one other v w apart) in
    form (written d one v) other w (written-valid d one v valid)
    ∙ ap (λ y. perform y (change y.header (written d one v) other w) (written d one v)) (same-context d (written d one v) (written-shape d one v valid))
    ∙ ap (λ u. perform (context d) u (written d one v)) (change-reads (header_length d) d (written d one v) other w (subst R (sym f) left_there))
    ∙ ap (perform (context d) (change (header_length d) d other w)) f

-- writes of two fields, in either order
pub written-exchanged : (d : List ℕ) (one other : Part) (v w : ℕ) → IsValidIpv4 d → one ≢ other
    → written (written d one v) other w ≡ written (written d other w) one v
written-exchanged d one other v w valid apart =
    let h = header_length d in
    second d one other v w valid apart
    ∙ perform-exchanged (context d) (change h d one v) (change h d other w) d valid.header_is_long_enough
    (change-clear d d one v) (change-clear d d other w) (ports-beyond h d one v) (ports-beyond h d other w)
    (parts-apart h d d other one w v (λ e. apart (sym e))) (within-ports d)
    ∙ sym (second d other one w v valid (λ e. apart (sym e)))

-- the values that a field may be written with, in a datagram that has it
abbrev pub Allowed : List ℕ → Part → ℕ → Type 0
Allowed d source v = v ≤ 4294967295
Allowed d destination v = v ≤ 4294967295
Allowed d code_point v = v ≤ 63
Allowed d life v = v ≤ 255
Allowed d source_port v = (has_ports d ≡ true) × (v ≤ 65535)
Allowed d destination_port v = (has_ports d ≡ true) × (v ≤ 65535)

-- the words of an address that was written
address-words : (d : List ℕ) (p v : ℕ) → IsValidIpv4 d → 12 ≤ p → p ≤ 16 → v ≤ 4294967295
    → (two_bytes_at (with_address d p v) p ≡ v / 65536) × (two_bytes_at (with_address d p v) (p + 2) ≡ v % 65536)
address-words d p v w least_p most_p small =
    let least = w.header_is_long_enough in
    let long = w.has_fixed_part in
    let far = offset-beyond d in
    let b0 = address-inner d p v p (omega arith) (omega arith) (omega arith) (omega arith) (omega arith) in
    let b1 = address-inner d p v (p + 1) (omega arith) (omega arith) (omega arith) (omega arith) (omega arith) in
    let b2 = address-inner d p v (p + 2) (omega arith) (omega arith) (omega arith) (omega arith) (omega arith) in
    let b3 = address-inner d p v (p + 2 + 1) (omega arith) (omega arith) (omega arith) (omega arith) (omega arith) in
    let first = two-put d p (v / 65536) (omega arith) in
    let c0 = put_two-apart (put_two d p (v / 65536)) (p + 2) v p (omega arith) (omega arith) in
    let c1 = put_two-apart (put_two d p (v / 65536)) (p + 2) v (p + 1) (omega arith) (omega arith) in
    let n = two-length d p (v / 65536) in
    let last : two_bytes_at (put_four d p v) (p + 2) ≡ v % 65536 = two-put (put_two d p (v / 65536)) (p + 2) v (omega arith) in
    (omega arith, omega arith)
  where
    two-length : (d : List ℕ) (p v : ℕ) → length (put_two d p v) ≡ length d
    two-length d p v = length-set (set d p (v / 256 % 256)) (p + 1) (v % 256) ∙ length-set d p (v / 256 % 256)

over-change : (d : List ℕ) (part : Part) (v w : ℕ) → IsValidIpv4 d → Allowed d part v
    → Over (change (header_length d) d part v) (change (header_length d) (written d part v) part w) (change (header_length d) d part w)
over-change d source v w valid a =
    let r = address-words d 12 v valid (omega arith) (omega arith) a in
    let r0 = r.0 in
    let r1 = r.1 in
    record { same_bytes = refl; renewed = refl; header_u = refl; header_w = refl; transport_u = refl; transport_w = refl; same_new = refl; same_old = refl; replaced = cc }
over-change d destination v w valid a =
    let r = address-words d 16 v valid (omega arith) (omega arith) a in
    let r0 = r.0 in
    let r1 = r.1 in
    record { same_bytes = refl; renewed = refl; header_u = refl; header_w = refl; transport_u = refl; transport_w = refl; same_new = refl; same_old = refl; replaced = cc }
over-change d code_point v w valid a =
    record {
      same_bytes = ap (λ n. (low 1, w * 4 + n) ∷ []) (dscp-low d v valid);
      renewed = refl;
      header_u = refl;
      header_w = refl;
      transport_u = refl;
      transport_w = refl;
      same_new = refl;
      same_old = refl;
      replaced = refl;
    }
over-change d life v w valid a =
    record { same_bytes = refl; renewed = refl; header_u = refl; header_w = refl; transport_u = refl; transport_w = refl; same_new = refl; same_old = refl; replaced = refl }
over-change d source_port v w valid a =
    let r = port-value d 0 v valid a.0 (omega arith) a.1 in
    let z : header_length d + 0 ≡ header_length d = omega arith in
    let s : with_port d (header_length d) v ≡ with_port d (header_length d + 0) v = ap (λ n. with_port d n v) (sym z) in
    let o : header_length d + 0 + 1 ≡ header_length d + 1 = omega arith in
    record { same_bytes = refl; renewed = refl; header_u = refl; header_w = refl; transport_u = refl; transport_w = refl; same_new = refl; same_old = refl; replaced = cc }
over-change d destination_port v w valid a =
    let r = port-value d 2 v valid a.0 (omega arith) a.1 in
    let o : header_length d + 2 + 1 ≡ header_length d + 3 = omega arith in
    record { same_bytes = refl; renewed = refl; header_u = refl; header_w = refl; transport_u = refl; transport_w = refl; same_new = refl; same_old = refl; replaced = cc }

-- the last write of a field wins
pub written-over : (d : List ℕ) (part : Part) (v w : ℕ) → IsValidIpv4 d → Allowed d part v
    → written (written d part v) part w ≡ written d part w
written-over d part v w valid a =
    let h = header_length d in
    let e = written d part v in
    form (written d part v) part w (written-valid d part v valid)
    ∙ ap (λ y. perform y (change y.header (written d part v) part w) (written d part v)) (same-context d (written d part v) (written-shape d part v valid))
    ∙ ap (perform (context d) (change h (written d part v) part w)) (form d part v valid)
    ∙ perform-over (context d) (change h d part v) (change h (written d part v) part w) (change h d part w) d valid.header_is_long_enough
    (change-clear d d part v) (change-clear d (written d part v) part w) (ports-beyond h (written d part v) part w) (over-change d part v w valid a) (within-ports d)
    ∙ sym (form d part w valid)
