-- A valid packet stays valid through every write and through the check.
use Rattle.std.proofs.Common.{◌≡◌, ◌∙◌, ap, refl, ℕ, ◌*◌, ◌/◌, ◌%◌, ◌<◌, ◌≤◌, List, length, get_or, set, take, sum, Bool, true, false, cond, eqb, arith}
use Rattle.std.proofs.lemmas.Bool.Decides.{nat_tests}
use Rattle.std.proofs.lemmas.List.{get_or-take, length-take, take-take}
use Rattle.mt_packet.proofs.Right.{header_sum, ones_complement-right, ones_complement-whole, take-put_two-beyond, header_sum-put, header_sum-held, header_sum-some, mended-right}
use Rattle.mt_packet.proofs.Shape.{SameShape, SameShape-refl, SameShape-trans, SameShape-set, SameShape-put_two, SameShape-put_four, SameShape-header_checksum, same-header_length, same-total_length}
use Rattle.mt_packet.specs.Checksum.{words_of, ones_complement}
use Rattle.mt_packet.specs.Field.{two_bytes_at}
use Rattle.mt_packet.specs.Ipv4.{IsValidIpv4, header_length, total_length, has_ports}
use Rattle.mt_packet.specs.Packet.{checked_datagram}
use Rattle.mt_packet.specs.Write.{put_two, put_four, checksum_offset, with_header_checksum, with_transport_checksum, with_address, with_port, with_dscp, with_ttl, with_header_zero, with_tcp_zero}

-- what holds of both of two lists holds of the one chosen
pub choose : (b : Bool) (P : List ℕ → Type 0) (x y : List ℕ) → (b ≡ true → P x) → (b ≡ false → P y) → P (cond b x y)
choose true P x y p q = p refl
choose false P x y p q = q refl

-- the first byte of a valid packet is not 0
valid-first : (d : List ℕ) → IsValidIpv4 d → 0 < get_or d 0 0
valid-first d v = let four = v.is_version_4 in omega arith

-- a datagram of the same shape whose sum is right
pub valid-along : (d e : List ℕ) → IsValidIpv4 d → SameShape d e → ones_complement (header_sum e) ≡ 65535 → IsValidIpv4 e
valid-along d e v s right =
    let n = s.same_length in
    let h = same-header_length d e s in
    let t = same-total_length d e s in
    record {
      has_fixed_part = let a = v.has_fixed_part in omega arith;
      is_version_4 = ap (λ b. b / 16) s.byte_0 ∙ v.is_version_4;
      header_is_long_enough = let a = v.header_is_long_enough in rw h a;
      header_is_within = let a = v.header_is_within in rw (h, t) a;
      packet_is_within = let a = v.packet_is_within in rw (t, n) a;
      sum_is_right = right;
    }

-- a checksum that is written into a datagram of a valid shape makes it valid
pub valid-mended : (d e : List ℕ) → IsValidIpv4 d → SameShape d e → IsValidIpv4 (with_header_checksum e)
valid-mended d e v s =
    let n = s.same_length in
    let h = same-header_length d e s in
    let t = same-total_length d e s in
    let z = s.byte_0 in
    let first = valid-first d v in
    let least : 20 ≤ header_length e = rw h v.header_is_long_enough in
    let inner : header_length d ≤ length d = (let a = v.header_is_within in let b = v.packet_is_within in omega arith) in
    let within : header_length e ≤ length e = rw (h, n) inner in
    let some : 0 < get_or e 0 0 = omega arith in
    valid-along d (with_header_checksum e) v (SameShape-trans d e _ s (SameShape-header_checksum e))
    (mended-right e least within some)

-- a write behind the header leaves its sum
header_sum-beyond : (d : List ℕ) (p v : ℕ) → header_length d ≤ p → 10 ≤ p → header_sum (put_two d p v) ≡ header_sum d
header_sum-beyond d p v far ten =
    ap (λ n. sum (words_of (take n (put_two d p v)))) (same-header_length d _ (SameShape-put_two d p v ten))
    ∙ ap (λ b. sum (words_of b)) (take-put_two-beyond (header_length d) d p v far)

pub valid-beyond : (d : List ℕ) (p v : ℕ) → header_length d ≤ p → IsValidIpv4 d → IsValidIpv4 (put_two d p v)
valid-beyond d p v far w =
    let least = w.header_is_long_enough in
    let ten : 10 ≤ p = omega arith in
    valid-along d _ w (SameShape-put_two d p v ten)
    (ap ones_complement (header_sum-beyond d p v far ten) ∙ w.sum_is_right)

-- the transport checksum stands behind the header
offset-far : (d : List ℕ) → header_length d ≤ checksum_offset d
offset-far d = omega arith

pub valid-transport : (d : List ℕ) (old new : List ℕ) → IsValidIpv4 d → IsValidIpv4 (with_transport_checksum d old new)
unfolding with_transport_checksum
valid-transport d old new v =
    choose (has_ports d) (λ e. IsValidIpv4 e) _ _ (λ _. valid-beyond d (checksum_offset d) _ (offset-far d) v) (λ _. v)

pub shape-transport : (d : List ℕ) (old new : List ℕ) → 20 ≤ header_length d → SameShape d (with_transport_checksum d old new)
unfolding with_transport_checksum
shape-transport d old new least =
    let far = offset-far d in
    choose (has_ports d) (λ e. SameShape d e) _ _ (λ _. SameShape-put_two d (checksum_offset d) _ (omega arith)) (λ _. SameShape-refl d)

pub valid-address : (d : List ℕ) (p v : ℕ) → 10 ≤ p → IsValidIpv4 d → IsValidIpv4 (with_address d p v)
unfolding with_address
valid-address d p v far w =
    valid-transport _ _ _ (valid-mended d (put_four d p v) w (SameShape-put_four d p v far))

pub shape-address : (d : List ℕ) (p v : ℕ) → 10 ≤ p → 20 ≤ header_length d → SameShape d (with_address d p v)
unfolding with_address
shape-address d p v far least =
    let s = SameShape-trans d _ _ (SameShape-put_four d p v far) (SameShape-header_checksum (put_four d p v)) in
    let h = same-header_length d _ s in
    SameShape-trans d _ _ s (shape-transport _ _ _ (rw h least))

pub valid-port : (d : List ℕ) (p v : ℕ) → header_length d ≤ p → IsValidIpv4 d → IsValidIpv4 (with_port d p v)
unfolding with_port
valid-port d p v far w = valid-transport _ _ _ (valid-beyond d p v far w)

pub shape-port : (d : List ℕ) (p v : ℕ) → header_length d ≤ p → 20 ≤ header_length d → SameShape d (with_port d p v)
unfolding with_port
shape-port d p v far least =
    let s = SameShape-put_two d p v (omega arith) in
    let h = same-header_length d _ s in
    SameShape-trans d _ _ s (shape-transport _ _ _ (rw h least))

shape-8 : (d : List ℕ) (v : ℕ) → SameShape d (set d 8 v)
shape-8 d v = SameShape-set d 8 v (omega arith) (omega arith) (omega arith) (omega arith) (omega arith) (omega arith)

shape-1 : (d : List ℕ) (v : ℕ) → SameShape d (set d 1 v)
shape-1 d v = SameShape-set d 1 v (omega arith) (omega arith) (omega arith) (omega arith) (omega arith) (omega arith)

pub valid-ttl : (d : List ℕ) (v : ℕ) → IsValidIpv4 d → IsValidIpv4 (with_ttl d v)
unfolding with_ttl
valid-ttl d v w = valid-mended d _ w (shape-8 d v)

pub shape-ttl : (d : List ℕ) (v : ℕ) → SameShape d (with_ttl d v)
unfolding with_ttl
shape-ttl d v = SameShape-trans d _ _ (shape-8 d v) (SameShape-header_checksum _)

pub valid-dscp : (d : List ℕ) (v : ℕ) → IsValidIpv4 d → IsValidIpv4 (with_dscp d v)
unfolding with_dscp
valid-dscp d v w = valid-mended d _ w (shape-1 d _)

pub shape-dscp : (d : List ℕ) (v : ℕ) → SameShape d (with_dscp d v)
unfolding with_dscp
shape-dscp d v = SameShape-trans d _ _ (shape-1 d _) (SameShape-header_checksum _)

-- a valid packet that is cut to its total length
pub valid-cut : (d : List ℕ) → IsValidIpv4 d → IsValidIpv4 (take (total_length d) d)
valid-cut d v =
    let least = v.header_is_long_enough in
    let inside = v.header_is_within in
    let within = v.packet_is_within in
    let n = length-take (total_length d) d in
    let m : length (take (total_length d) d) ≡ total_length d = omega arith in
    let b0 : get_or (take (total_length d) d) 0 0 ≡ get_or d 0 0 = get_or-take (total_length d) d 0 0 (omega arith) in
    let b2 : get_or (take (total_length d) d) 2 0 ≡ get_or d 2 0 = get_or-take (total_length d) d 2 0 (omega arith) in
    let b3 : get_or (take (total_length d) d) 3 0 ≡ get_or d 3 0 = get_or-take (total_length d) d 3 0 (omega arith) in
    let h : header_length (take (total_length d) d) ≡ header_length d = ap (λ b. b % 16 * 4) b0 in
    let t : total_length (take (total_length d) d) ≡ total_length d = cc in
    record {
      has_fixed_part = omega arith;
      is_version_4 = ap (λ b. b / 16) b0 ∙ v.is_version_4;
      header_is_long_enough = rw h least;
      header_is_within = rw (h, t) inside;
      packet_is_within = omega arith;
      sum_is_right =
          ap (λ k. ones_complement (sum (words_of (take k (take (total_length d) d))))) h
          ∙ ap (λ b. ones_complement (sum (words_of b))) (take-take (header_length d) (total_length d) d inside)
          ∙ v.sum_is_right;
    }

-- a checksum of 65535 is the same number as 0
valid-zeroed : (d : List ℕ) → eqb (two_bytes_at d 10) 65535 ≡ true → IsValidIpv4 d → IsValidIpv4 (put_two d 10 0)
valid-zeroed d full v =
    let least = v.header_is_long_enough in
    let inside = v.header_is_within in
    let within : header_length d ≤ length d = (let b = v.packet_is_within in omega arith) in
    let right = ones_complement-right (header_sum d) v.sum_is_right in
    let held = header_sum-held d least within in
    let put = header_sum-put d 0 least within (omega arith) in
    let some = header_sum-some d least within (valid-first d v) in
    let at : two_bytes_at d 10 ≡ 65535 = grind (arith, nat_tests) in
    let whole : header_sum (put_two d 10 0) % 65535 ≡ 0 = omega arith in
    let positive : 0 < header_sum (put_two d 10 0) = omega arith in
    valid-along d _ v (SameShape-put_two d 10 0 (omega arith)) (ones_complement-whole _ positive whole)

pub valid-header_zero : (d : List ℕ) → IsValidIpv4 d → IsValidIpv4 (with_header_zero d)
unfolding with_header_zero
valid-header_zero d v =
    choose (eqb (two_bytes_at d 10) 65535) (λ e. IsValidIpv4 e) _ _ (λ full. valid-zeroed d full v) (λ _. v)

pub valid-tcp_zero : (d : List ℕ) → IsValidIpv4 d → IsValidIpv4 (with_tcp_zero d)
unfolding with_tcp_zero
valid-tcp_zero d v =
    choose _ (λ e. IsValidIpv4 e) _ _ (λ _. valid-beyond d (checksum_offset d) 0 (offset-far d) v) (λ _. v)

-- a checked packet is valid
pub valid-checked : (d : List ℕ) → IsValidIpv4 d → IsValidIpv4 (checked_datagram d)
unfolding checked_datagram
valid-checked d v = valid-tcp_zero _ (valid-header_zero _ (valid-cut d v))
