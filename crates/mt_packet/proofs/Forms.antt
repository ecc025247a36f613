-- Each write of a field of IPv4 as bytes that are set with the checksums mended.
use Rattle.std.proofs.Common.{◌≡◌, ◌∙◌, ap, refl, ℕ, ◌+◌, ◌*◌, ◌/◌, ◌%◌, ◌<◌, ◌≤◌, List, [], ◌∷◌, length, get_or, set, take, sum, Bool, true, false, cond, eqb, arith}
use Rattle.mt_packet.proofs.Mends.{Context, Change, Clear, mend_header, mend_transport, perform}
use Rattle.mt_packet.proofs.Puts.{checksum_within}
use Rattle.mt_packet.proofs.Shape.{SameShape, SameShape-set, SameShape-put_two, SameShape-put_four, SameShape-trans, SameShape-header_checksum, same-header_length, same-ports, same-proto, same-offset}
use Rattle.mt_packet.proofs.Spots.{low, high, clear}
use Rattle.mt_packet.specs.Checksum.{words_of, negative_of}
use Rattle.mt_packet.specs.Field.{two_bytes_at}
use Rattle.mt_packet.specs.Ipv4.{IsValidIpv4, header_length, has_ports, proto_of}
use Rattle.mt_packet.specs.Write.{put_two, put_four, with_header_checksum, with_transport_checksum, with_address, with_port, with_dscp, with_ttl}

-- what a write looks up in a datagram
abbrev pub context : List ℕ → Context
context d =
    record {
      header = header_length d;
      distance = cond (eqb (proto_of d) 17) 6 16;
      protocol = proto_of d;
      ports = has_ports d;
    }

pub same-context : (d e : List ℕ) → SameShape d e → context e ≡ context d
same-context d e s =
    let h = same-header_length d e s in
    let p = same-proto d e s in
    let q = same-ports d e s in
    cc

-- the fields of IPv4 that can be written
pub data Part : Type 0 where
  source : Part
  destination : Part
  code_point : Part
  life : Part
  source_port : Part
  destination_port : Part

abbrev pub written : List ℕ → Part → ℕ → List ℕ
written d source v = with_address d 12 v
written d destination v = with_address d 16 v
written d code_point v = with_dscp d v
written d life v = with_ttl d v
written d source_port v = with_port d (header_length d) v
written d destination_port v = with_port d (header_length d + 2) v

-- what a write of a field does: it is told the length of the header and the bytes that stand there
abbrev pub change : ℕ → List ℕ → Part → ℕ → Change
change h d source v =
    record {
      bytes = (low 12, v / 65536 / 256 % 256) ∷ (low 13, v / 65536 % 256) ∷ (low 14, v / 256 % 256) ∷ (low 15, v % 256) ∷ [];
      in_header = true;
      in_transport = true;
      old = two_bytes_at d 12 ∷ two_bytes_at d 14 ∷ [];
      new = v / 65536 ∷ v % 65536 ∷ [];
    }
change h d destination v =
    record {
      bytes = (low 16, v / 65536 / 256 % 256) ∷ (low 17, v / 65536 % 256) ∷ (low 18, v / 256 % 256) ∷ (low 19, v % 256) ∷ [];
      in_header = true;
      in_transport = true;
      old = two_bytes_at d 16 ∷ two_bytes_at d 18 ∷ [];
      new = v / 65536 ∷ v % 65536 ∷ [];
    }
change h d code_point v =
    record {
      bytes = (low 1, v * 4 + get_or d 1 0 % 4) ∷ [];
      in_header = true;
      in_transport = false;
      old = [];
      new = [];
    }
change h d life v =
    record { bytes = (low 8, v) ∷ []; in_header = true; in_transport = false; old = []; new = [] }
change h d source_port v =
    record {
      bytes = (high 0, v / 256 % 256) ∷ (high 1, v % 256) ∷ [];
      in_header = false;
      in_transport = true;
      old = (get_or d (h + 0) 0 * 256 + get_or d (h + 1) 0) ∷ [];
      new = v ∷ [];
    }
change h d destination_port v =
    record {
      bytes = (high 2, v / 256 % 256) ∷ (high 3, v % 256) ∷ [];
      in_header = false;
      in_transport = true;
      old = (get_or d (h + 2) 0 * 256 + get_or d (h + 3) 0) ∷ [];
      new = v ∷ [];
    }

-- the checksums of a datagram of the same shape, in these words
header-form : (d e : List ℕ) → SameShape d e → with_header_checksum e ≡ mend_header (header_length d) true e
unfolding with_header_checksum
header-form d e s =
    ap (λ h. put_two e 10 (negative_of (sum (words_of (take h (put_two e 10 0)))))) (same-header_length d e s)

transport-form : (d e old new : List ℕ) → SameShape d e
    → with_transport_checksum e old new ≡ mend_transport (context d) (has_ports d) old new e
unfolding with_transport_checksum
transport-form d e old new s =
    let p = same-ports d e s in
    let o = same-offset d e s in
    let q = same-proto d e s in
    cc

address-form : (d : List ℕ) (p v : ℕ) → 10 ≤ p
    → with_address d p v
    ≡ mend_transport (context d) (has_ports d) (two_bytes_at d p ∷ two_bytes_at d (p + 2) ∷ []) (v / 65536 ∷ v % 65536 ∷ [])
    (mend_header (header_length d) true (put_four d p v))
unfolding with_address
address-form d p v far =
    let s = SameShape-put_four d p v far in
    let old = two_bytes_at d p ∷ two_bytes_at d (p + 2) ∷ [] in
    let new = v / 65536 ∷ v % 65536 ∷ [] in
    transport-form d (with_header_checksum (put_four d p v)) old new (SameShape-trans d (put_four d p v) _ s (SameShape-header_checksum (put_four d p v)))
    ∙ ap (mend_transport (context d) (has_ports d) old new) (header-form d (put_four d p v) s)

port-form : (d : List ℕ) (p v : ℕ) → 10 ≤ p
    → with_port d p v ≡ mend_transport (context d) (has_ports d) (two_bytes_at d p ∷ []) (v ∷ []) (put_two d p v)
unfolding with_port
port-form d p v far = transport-form d (put_two d p v) _ _ (SameShape-put_two d p v far)

port-bytes : (d : List ℕ) (h k j p v : ℕ) → p ≡ h + k → p + 1 ≡ h + j
    → mend_transport (context d) (has_ports d) (two_bytes_at d p ∷ []) (v ∷ []) (put_two d p v)
    ≡ mend_transport (context d) (has_ports d) ((get_or d (h + k) 0 * 256 + get_or d (h + j) 0) ∷ []) (v ∷ []) (set (set d (h + k) (v / 256 % 256)) (h + j) (v % 256))
port-bytes d h k j p v e f =
    ap (λ m. mend_transport (context d) (has_ports d) ((get_or d m 0 * 256 + get_or d (p + 1) 0) ∷ []) (v ∷ []) (set (set d m (v / 256 % 256)) (p + 1) (v % 256))) e
    ∙ ap (λ m. mend_transport (context d) (has_ports d) ((get_or d (h + k) 0 * 256 + get_or d m 0) ∷ []) (v ∷ []) (set (set d (h + k) (v / 256 % 256)) m (v % 256))) f

pub form : (d : List ℕ) (part : Part) (v : ℕ) → IsValidIpv4 d
    → written d part v ≡ perform (context d) (change (header_length d) d part v) d
unfolding with_dscp with_ttl
form d source v w = address-form d 12 v (omega arith)
form d destination v w = address-form d 16 v (omega arith)
form d code_point v w =
    header-form d _ (SameShape-set d 1 _ (omega arith) (omega arith) (omega arith) (omega arith) (omega arith) (omega arith))
form d life v w =
    header-form d _ (SameShape-set d 8 v (omega arith) (omega arith) (omega arith) (omega arith) (omega arith) (omega arith))
form d source_port v w =
    let least = w.header_is_long_enough in
    port-form d (header_length d) v (omega arith)
    ∙ port-bytes d (header_length d) 0 1 (header_length d) v (omega arith) (omega arith)
form d destination_port v w =
    let least = w.header_is_long_enough in
    port-form d (header_length d + 2) v (omega arith)
    ∙ port-bytes d (header_length d) 2 3 (header_length d + 2) v (omega arith) (omega arith)

-- a distance is 6 or 16
pub by_distance : (P : ℕ → Type 0) (b : Bool) → P 6 → P 16 → P (cond b 6 16)
by_distance P true p q = p
by_distance P false p q = q

-- the bytes of a field stand apart from both checksums
pub change-clear : (d e : List ℕ) (part : Part) (v : ℕ) → Clear (context d) (change (header_length d) e part v).bytes
change-clear d e source v = record { c10 = refl; c11 = refl; c_first = refl; c_second = refl }
change-clear d e destination v = record { c10 = refl; c11 = refl; c_first = refl; c_second = refl }
change-clear d e code_point v = record { c10 = refl; c11 = refl; c_first = refl; c_second = refl }
change-clear d e life v = record { c10 = refl; c11 = refl; c_first = refl; c_second = refl }
change-clear d e source_port v =
    record {
      c10 = refl;
      c11 = refl;
      c_first = by_distance (λ k. clear ((high 0, v / 256 % 256) ∷ (high 1, v % 256) ∷ []) (high k) ≡ true) (eqb (proto_of d) 17) refl refl;
      c_second = by_distance (λ k. clear ((high 0, v / 256 % 256) ∷ (high 1, v % 256) ∷ []) (high (k + 1)) ≡ true) (eqb (proto_of d) 17) refl refl;
    }
change-clear d e destination_port v =
    record {
      c10 = refl;
      c11 = refl;
      c_first = by_distance (λ k. clear ((high 2, v / 256 % 256) ∷ (high 3, v % 256) ∷ []) (high k) ≡ true) (eqb (proto_of d) 17) refl refl;
      c_second = by_distance (λ k. clear ((high 2, v / 256 % 256) ∷ (high 3, v % 256) ∷ []) (high (k + 1)) ≡ true) (eqb (proto_of d) 17) refl refl;
    }

-- the transport checksum lies within a datagram with visible ports
pub within-ports : (d : List ℕ) → has_ports d ≡ true → (context d).header + (context d).distance + 1 < length d
within-ports d h = (checksum_within d h).1
