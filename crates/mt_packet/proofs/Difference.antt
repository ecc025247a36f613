-- The header checksum after a write, by the difference of the words that the write replaced.
use Rattle.std.proofs.Common.{◌≡◌, ◌≢◌, ◌∙◌, ap, refl, ℕ, ◌+◌, ◌/◌, ◌%◌, ◌≤◌, List, length, get_or, set, take, drop, sum, inl, inr, ◌⊎◌, arith}
use Rattle.std.proofs.lemmas.List.{get_or-set_other, length-set}
use Rattle.mt_packet.proofs.Puts.{put_four-apart, two-put, put_two-apart}
use Rattle.mt_packet.proofs.Right.{by-difference}
use Rattle.mt_packet.proofs.Shape.{SameShape, SameShape-set, SameShape-put_four, same-header_length}
use Rattle.mt_packet.proofs.Words.{fixed_sum, options_sum, options-set, options-put_four}
use Rattle.mt_packet.specs.Checksum.{words_of, negative_of}
use Rattle.mt_packet.specs.Field.{two_bytes_at}
use Rattle.mt_packet.specs.Ipv4.{header_length, IsValidIpv4}
use Rattle.mt_packet.specs.Write.{put_two, put_four, with_header_checksum}

shape-set : (d : List ℕ) (i v : ℕ) → (i ≡ 1) ⊎ (i ≡ 8) → SameShape d (set d i v)
shape-set d i v (inl e) =
    SameShape-set d i v (omega arith) (omega arith) (omega arith) (omega arith) (omega arith) (omega arith)
shape-set d i v (inr e) =
    SameShape-set d i v (omega arith) (omega arith) (omega arith) (omega arith) (omega arith) (omega arith)

same-options : (d e : List ℕ) → SameShape d e → drop 20 (take (header_length d) e) ≡ drop 20 (take (header_length d) d)
    → options_sum e ≡ options_sum d
same-options d e s h =
    ap (λ n. sum (words_of (drop 20 (take n e)))) (same-header_length d e s) ∙ ap (λ b. sum (words_of b)) h

-- the word at 8
pub byte_8-mended : (d : List ℕ) (v : ℕ) → IsValidIpv4 d
    → put_two (set d 8 v) 10 ((two_bytes_at (set d 8 v) 10 + two_bytes_at d 8 + negative_of (two_bytes_at (set d 8 v) 8)) % 65535)
    ≡ with_header_checksum (set d 8 v)
byte_8-mended d v w =
    let at : (i : ℕ) → i ≢ 8 → get_or (set d 8 v) i 0 ≡ get_or d i 0 = λ i a. get_or-set_other d 8 i v 0 a in
    let b0 = at 0 (omega arith) in
    let b1 = at 1 (omega arith) in
    let b2 = at 2 (omega arith) in
    let b3 = at 3 (omega arith) in
    let b4 = at 4 (omega arith) in
    let b5 = at 5 (omega arith) in
    let b6 = at 6 (omega arith) in
    let b7 = at 7 (omega arith) in
    let b9 = at 9 (omega arith) in
    let b10 = at 10 (omega arith) in
    let b11 = at 11 (omega arith) in
    let b12 = at 12 (omega arith) in
    let b13 = at 13 (omega arith) in
    let b14 = at 14 (omega arith) in
    let b15 = at 15 (omega arith) in
    let b16 = at 16 (omega arith) in
    let b17 = at 17 (omega arith) in
    let b18 = at 18 (omega arith) in
    let b19 = at 19 (omega arith) in
    let fixed : fixed_sum (set d 8 v) + two_bytes_at d 8 ≡ fixed_sum d + two_bytes_at (set d 8 v) 8 = omega arith in
    let sum_held : two_bytes_at (set d 8 v) 10 ≡ two_bytes_at d 10 = omega arith in
    let s = shape-set d 8 v (inr refl) in
    by-difference d (set d 8 v) (two_bytes_at d 8) (two_bytes_at (set d 8 v) 8) w s sum_held
    (same-options d _ s (options-set (header_length d) d 8 v w.header_is_long_enough (omega arith))) fixed

-- the word at 0
pub byte_1-mended : (d : List ℕ) (v : ℕ) → IsValidIpv4 d
    → put_two (set d 1 v) 10 ((two_bytes_at (set d 1 v) 10 + two_bytes_at d 0 + negative_of (two_bytes_at (set d 1 v) 0)) % 65535)
    ≡ with_header_checksum (set d 1 v)
byte_1-mended d v w =
    let at : (i : ℕ) → i ≢ 1 → get_or (set d 1 v) i 0 ≡ get_or d i 0 = λ i a. get_or-set_other d 1 i v 0 a in
    let b0 = at 0 (omega arith) in
    let b2 = at 2 (omega arith) in
    let b3 = at 3 (omega arith) in
    let b4 = at 4 (omega arith) in
    let b5 = at 5 (omega arith) in
    let b6 = at 6 (omega arith) in
    let b7 = at 7 (omega arith) in
    let b8 = at 8 (omega arith) in
    let b9 = at 9 (omega arith) in
    let b10 = at 10 (omega arith) in
    let b11 = at 11 (omega arith) in
    let b12 = at 12 (omega arith) in
    let b13 = at 13 (omega arith) in
    let b14 = at 14 (omega arith) in
    let b15 = at 15 (omega arith) in
    let b16 = at 16 (omega arith) in
    let b17 = at 17 (omega arith) in
    let b18 = at 18 (omega arith) in
    let b19 = at 19 (omega arith) in
    let fixed : fixed_sum (set d 1 v) + two_bytes_at d 0 ≡ fixed_sum d + two_bytes_at (set d 1 v) 0 = omega arith in
    let sum_held : two_bytes_at (set d 1 v) 10 ≡ two_bytes_at d 10 = omega arith in
    let s = shape-set d 1 v (inl refl) in
    by-difference d (set d 1 v) (two_bytes_at d 0) (two_bytes_at (set d 1 v) 0) w s sum_held
    (same-options d _ s (options-set (header_length d) d 1 v w.header_is_long_enough (omega arith))) fixed

length-two : (d : List ℕ) (p v : ℕ) → length (put_two d p v) ≡ length d
length-two d p v = length-set (set d p (v / 256 % 256)) (p + 1) (v % 256) ∙ length-set d p (v / 256 % 256)

-- the words at 12 and 14
four_12-mended : (d : List ℕ) (v : ℕ) → IsValidIpv4 d → v ≤ 4294967295
    → put_two (put_four d 12 v) 10 ((two_bytes_at (put_four d 12 v) 10 + (two_bytes_at d 12 + two_bytes_at d 14) + negative_of (v / 65536 + v % 65536)) % 65535)
    ≡ with_header_checksum (put_four d 12 v)
four_12-mended d v w small =
    let long = w.has_fixed_part in
    let at : (i : ℕ) → i ≢ 12 → i ≢ 13 → i ≢ 14 → i ≢ 15 → get_or (put_four d 12 v) i 0 ≡ get_or d i 0 = λ i a b c e. put_four-apart d 12 v i a b c e in
    let b0 = at 0 (omega arith) (omega arith) (omega arith) (omega arith) in
    let b1 = at 1 (omega arith) (omega arith) (omega arith) (omega arith) in
    let b2 = at 2 (omega arith) (omega arith) (omega arith) (omega arith) in
    let b3 = at 3 (omega arith) (omega arith) (omega arith) (omega arith) in
    let b4 = at 4 (omega arith) (omega arith) (omega arith) (omega arith) in
    let b5 = at 5 (omega arith) (omega arith) (omega arith) (omega arith) in
    let b6 = at 6 (omega arith) (omega arith) (omega arith) (omega arith) in
    let b7 = at 7 (omega arith) (omega arith) (omega arith) (omega arith) in
    let b8 = at 8 (omega arith) (omega arith) (omega arith) (omega arith) in
    let b9 = at 9 (omega arith) (omega arith) (omega arith) (omega arith) in
    let b10 = at 10 (omega arith) (omega arith) (omega arith) (omega arith) in
    let b11 = at 11 (omega arith) (omega arith) (omega arith) (omega arith) in
    let b16 = at 16 (omega arith) (omega arith) (omega arith) (omega arith) in
    let b17 = at 17 (omega arith) (omega arith) (omega arith) (omega arith) in
    let b18 = at 18 (omega arith) (omega arith) (omega arith) (omega arith) in
    let b19 = at 19 (omega arith) (omega arith) (omega arith) (omega arith) in
    let l = (SameShape-put_four d 12 v (omega arith)).same_length in
    let high = two-put d 12 (v / 65536) (omega arith) in
    let c0 : get_or (put_four d 12 v) 12 0 ≡ get_or (put_two d 12 (v / 65536)) 12 0 = put_two-apart (put_two d 12 (v / 65536)) 14 v 12 (omega arith) (omega arith) in
    let c1 : get_or (put_four d 12 v) 13 0 ≡ get_or (put_two d 12 (v / 65536)) 13 0 = put_two-apart (put_two d 12 (v / 65536)) 14 v 13 (omega arith) (omega arith) in
    let n = length-two d 12 (v / 65536) in
    let low : two_bytes_at (put_four d 12 v) 14 ≡ v % 65536 = two-put (put_two d 12 (v / 65536)) 14 v (omega arith) in
    let new : two_bytes_at (put_four d 12 v) 12 ≡ v / 65536 = omega arith in
    let fixed : fixed_sum (put_four d 12 v) + (two_bytes_at d 12 + two_bytes_at d 14) ≡ fixed_sum d + (v / 65536 + v % 65536) = omega arith in
    let sum_held : two_bytes_at (put_four d 12 v) 10 ≡ two_bytes_at d 10 = omega arith in
    let s = SameShape-put_four d 12 v (omega arith) in
    by-difference d (put_four d 12 v) (two_bytes_at d 12 + two_bytes_at d 14) (v / 65536 + v % 65536) w s sum_held
    (same-options d _ s (options-put_four (header_length d) d 12 v w.header_is_long_enough (omega arith))) fixed

-- the words at 16 and 18
four_16-mended : (d : List ℕ) (v : ℕ) → IsValidIpv4 d → v ≤ 4294967295
    → put_two (put_four d 16 v) 10 ((two_bytes_at (put_four d 16 v) 10 + (two_bytes_at d 16 + two_bytes_at d 18) + negative_of (v / 65536 + v % 65536)) % 65535)
    ≡ with_header_checksum (put_four d 16 v)
four_16-mended d v w small =
    let long = w.has_fixed_part in
    let at : (i : ℕ) → i ≢ 16 → i ≢ 17 → i ≢ 18 → i ≢ 19 → get_or (put_four d 16 v) i 0 ≡ get_or d i 0 = λ i a b c e. put_four-apart d 16 v i a b c e in
    let b0 = at 0 (omega arith) (omega arith) (omega arith) (omega arith) in
    let b1 = at 1 (omega arith) (omega arith) (omega arith) (omega arith) in
    let b2 = at 2 (omega arith) (omega arith) (omega arith) (omega arith) in
    let b3 = at 3 (omega arith) (omega arith) (omega arith) (omega arith) in
    let b4 = at 4 (omega arith) (omega arith) (omega arith) (omega arith) in
    let b5 = at 5 (omega arith) (omega arith) (omega arith) (omega arith) in
    let b6 = at 6 (omega arith) (omega arith) (omega arith) (omega arith) in
    let b7 = at 7 (omega arith) (omega arith) (omega arith) (omega arith) in
    let b8 = at 8 (omega arith) (omega arith) (omega arith) (omega arith) in
    let b9 = at 9 (omega arith) (omega arith) (omega arith) (omega arith) in
    let b10 = at 10 (omega arith) (omega arith) (omega arith) (omega arith) in
    let b11 = at 11 (omega arith) (omega arith) (omega arith) (omega arith) in
    let b12 = at 12 (omega arith) (omega arith) (omega arith) (omega arith) in
    let b13 = at 13 (omega arith) (omega arith) (omega arith) (omega arith) in
    let b14 = at 14 (omega arith) (omega arith) (omega arith) (omega arith) in
    let b15 = at 15 (omega arith) (omega arith) (omega arith) (omega arith) in
    let l = (SameShape-put_four d 16 v (omega arith)).same_length in
    let high = two-put d 16 (v / 65536) (omega arith) in
    let c0 : get_or (put_four d 16 v) 16 0 ≡ get_or (put_two d 16 (v / 65536)) 16 0 = put_two-apart (put_two d 16 (v / 65536)) 18 v 16 (omega arith) (omega arith) in
    let c1 : get_or (put_four d 16 v) 17 0 ≡ get_or (put_two d 16 (v / 65536)) 17 0 = put_two-apart (put_two d 16 (v / 65536)) 18 v 17 (omega arith) (omega arith) in
    let n = length-two d 16 (v / 65536) in
    let low : two_bytes_at (put_four d 16 v) 18 ≡ v % 65536 = two-put (put_two d 16 (v / 65536)) 18 v (omega arith) in
    let new : two_bytes_at (put_four d 16 v) 16 ≡ v / 65536 = omega arith in
    let fixed : fixed_sum (put_four d 16 v) + (two_bytes_at d 16 + two_bytes_at d 18) ≡ fixed_sum d + (v / 65536 + v % 65536) = omega arith in
    let sum_held : two_bytes_at (put_four d 16 v) 10 ≡ two_bytes_at d 10 = omega arith in
    let s = SameShape-put_four d 16 v (omega arith) in
    by-difference d (put_four d 16 v) (two_bytes_at d 16 + two_bytes_at d 18) (v / 65536 + v % 65536) w s sum_held
    (same-options d _ s (options-put_four (header_length d) d 16 v w.header_is_long_enough (omega arith))) fixed

-- an address
pub address-mended : (d : List ℕ) (p v : ℕ) → (p ≡ 12) ⊎ (p ≡ 16) → IsValidIpv4 d → v ≤ 4294967295
    → put_two (put_four d p v) 10 ((two_bytes_at (put_four d p v) 10 + (two_bytes_at d p + two_bytes_at d (p + 2)) + negative_of (v / 65536 + v % 65536)) % 65535)
    ≡ with_header_checksum (put_four d p v)
address-mended d p v (inl e) w small = rw e (four_12-mended d v w small)
address-mended d p v (inr e) w small = rw e (four_16-mended d v w small)
