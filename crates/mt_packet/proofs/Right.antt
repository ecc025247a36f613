-- The header checksum: what makes it right, and that the difference of a write gives it.
use Rattle.std.proofs.Common.{◌≡◌, ◌≢◌, ◌∙◌, ap, ℕ, ◌+◌, ◌/◌, ◌%◌, ◌<◌, ◌≤◌, List, length, get_or, set, take, drop, sum, arith}
use Rattle.std.proofs.lemmas.Bool.Decides.{nat_tests}
use Rattle.std.proofs.lemmas.List.{take-set-le}
use Rattle.mt_packet.proofs.Puts.{put_two-apart, two-put}
use Rattle.mt_packet.proofs.Words.{fixed_sum, options_sum, header-words, options-put_two}
use Rattle.mt_packet.proofs.Shape.{SameShape, SameShape-put_two, same-header_length}
use Rattle.mt_packet.specs.Checksum.{words_of, ones_complement, negative_of}
use Rattle.mt_packet.specs.Field.{two_bytes_at}
use Rattle.mt_packet.specs.Ipv4.{header_length, IsValidIpv4}
use Rattle.mt_packet.specs.Write.{put_two, with_header_checksum}

-- the sum of the words of a datagram's header
abbrev pub header_sum : List ℕ → ℕ
header_sum datagram = sum (words_of (take (header_length datagram) datagram))

pub ones_complement-whole : (plain : ℕ) → 0 < plain → plain % 65535 ≡ 0 → ones_complement plain ≡ 65535
ones_complement-whole plain some whole = grind (arith, nat_tests)

pub ones_complement-right : (plain : ℕ) → ones_complement plain ≡ 65535 → (0 < plain) × (plain % 65535 ≡ 0)
ones_complement-right plain right = (grind (arith, nat_tests), grind (arith, nat_tests))

-- a write behind the header
pub take-put_two-beyond : (n : ℕ) (bytes : List ℕ) (p v : ℕ) → n ≤ p → take n (put_two bytes p v) ≡ take n bytes
take-put_two-beyond n bytes p v far =
    let next : n ≤ p + 1 = omega arith in
    take-set-le n (set bytes p (v / 256 % 256)) (p + 1) (v % 256) next
    ∙ take-set-le n bytes p (v / 256 % 256) far

-- the words of the fixed part with some checksum
fixed-put : (d : List ℕ) (v : ℕ) → fixed_sum (put_two d 10 v) ≡ fixed_sum d
fixed-put d v =
    let at : (i : ℕ) → i ≢ 10 → i ≢ 11 → get_or (put_two d 10 v) i 0 ≡ get_or d i 0 = λ i a b. put_two-apart d 10 v i a b in
    let b0 = at 0 (omega arith) (omega arith) in
    let b1 = at 1 (omega arith) (omega arith) in
    let b2 = at 2 (omega arith) (omega arith) in
    let b3 = at 3 (omega arith) (omega arith) in
    let b4 = at 4 (omega arith) (omega arith) in
    let b5 = at 5 (omega arith) (omega arith) in
    let b6 = at 6 (omega arith) (omega arith) in
    let b7 = at 7 (omega arith) (omega arith) in
    let b8 = at 8 (omega arith) (omega arith) in
    let b9 = at 9 (omega arith) (omega arith) in
    let b12 = at 12 (omega arith) (omega arith) in
    let b13 = at 13 (omega arith) (omega arith) in
    let b14 = at 14 (omega arith) (omega arith) in
    let b15 = at 15 (omega arith) (omega arith) in
    let b16 = at 16 (omega arith) (omega arith) in
    let b17 = at 17 (omega arith) (omega arith) in
    let b18 = at 18 (omega arith) (omega arith) in
    let b19 = at 19 (omega arith) (omega arith) in
    omega arith

-- the sum of a header with some checksum
header_sum-words : (datagram : List ℕ) (v : ℕ) → 20 ≤ header_length datagram → header_length datagram ≤ length datagram
    → v ≤ 65535
    → sum (words_of (take (header_length datagram) (put_two datagram 10 v))) ≡ fixed_sum datagram + options_sum datagram + v
header_sum-words datagram v least within small =
    let s = SameShape-put_two datagram 10 v (omega arith) in
    let h = same-header_length datagram _ s in
    let l = s.same_length in
    let w = header-words (put_two datagram 10 v) (omega arith) (omega arith) in
    let f = fixed-put datagram v in
    let o : options_sum (put_two datagram 10 v) ≡ options_sum datagram
    = ap (λ n. sum (words_of (drop 20 (take n (put_two datagram 10 v))))) h
    ∙ ap (λ b. sum (words_of b)) (options-put_two (header_length datagram) datagram 10 v least (omega arith)) in
    let t = two-put datagram 10 v (omega arith) in
    let e = ap (λ n. sum (words_of (take n (put_two datagram 10 v)))) h in
    omega arith

pub header_sum-put : (datagram : List ℕ) (v : ℕ) → 20 ≤ header_length datagram → header_length datagram ≤ length datagram
    → v ≤ 65535
    → header_sum (put_two datagram 10 v)
    ≡ sum (words_of (take (header_length datagram) (put_two datagram 10 0))) + v
header_sum-put datagram v least within small =
    let h = same-header_length datagram _ (SameShape-put_two datagram 10 v (omega arith)) in
    let e = ap (λ n. sum (words_of (take n (put_two datagram 10 v)))) h in
    let a = header_sum-words datagram v least within small in
    let b = header_sum-words datagram 0 least within (omega arith) in
    omega arith

-- the sum of a header by the checksum that it has
pub header_sum-held : (datagram : List ℕ) → 20 ≤ header_length datagram → header_length datagram ≤ length datagram
    → header_sum datagram
    ≡ sum (words_of (take (header_length datagram) (put_two datagram 10 0))) + two_bytes_at datagram 10
header_sum-held datagram least within =
    let a = header-words datagram least within in
    let b = header_sum-words datagram 0 least within (omega arith) in
    omega arith

-- a header that begins with some version has a sum
pub header_sum-some : (datagram : List ℕ) → 20 ≤ header_length datagram → header_length datagram ≤ length datagram
    → 0 < get_or datagram 0 0 → 0 < sum (words_of (take (header_length datagram) (put_two datagram 10 0)))
header_sum-some datagram least within some =
    let b = header_sum-words datagram 0 least within (omega arith) in
    omega arith

-- the difference of the words that were replaced gives the header checksum
pub by-difference : (d e : List ℕ) (old new : ℕ) → IsValidIpv4 d → SameShape d e → two_bytes_at e 10 ≡ two_bytes_at d 10
    → options_sum e ≡ options_sum d → fixed_sum e + old ≡ fixed_sum d + new
    → put_two e 10 ((two_bytes_at e 10 + old + negative_of new) % 65535) ≡ with_header_checksum e
unfolding with_header_checksum
by-difference d e old new v s same options fixed =
    let least = v.header_is_long_enough in
    let within : header_length d ≤ length d = (let a = v.header_is_within in let b = v.packet_is_within in omega arith) in
    let h = same-header_length d e s in
    let l = s.same_length in
    let before = header-words d least within in
    let after = header_sum-words e 0 (omega arith) (omega arith) (omega arith) in
    let right = ones_complement-right (header_sum d) v.sum_is_right in
    ap (λ n. put_two e 10 n) (difference (fixed_sum d) (fixed_sum e) (two_bytes_at d 10) (two_bytes_at e 10) (options_sum d) (options_sum e) old new (header_sum d) (sum (words_of (take (header_length e) (put_two e 10 0)))) before right.1 after same options fixed)
  where
    difference : (fd fe cd ce od oe old new whole rest : ℕ) → whole ≡ fd + cd + od → whole % 65535 ≡ 0 → rest ≡ fe + oe + 0
        → ce ≡ cd → oe ≡ od → fe + old ≡ fd + new → (ce + old + negative_of new) % 65535 ≡ negative_of rest
    difference fd fe cd ce od oe old new whole rest a b c e f g = omega arith

-- the header checksum makes the sum right
pub mended-right : (datagram : List ℕ) → 20 ≤ header_length datagram → header_length datagram ≤ length datagram
    → 0 < get_or datagram 0 0 → ones_complement (header_sum (with_header_checksum datagram)) ≡ 65535
unfolding with_header_checksum
mended-right datagram least within some =
    let plain = sum (words_of (take (header_length datagram) (put_two datagram 10 0))) in
    let small : negative_of plain ≤ 65535 = omega arith in
    let total = header_sum-put datagram (negative_of plain) least within small in
    let some_sum = header_sum-some datagram least within some in
    let whole : (plain + negative_of plain) % 65535 ≡ 0 = omega arith in
    let positive : 0 < plain + negative_of plain = omega arith in
    ap ones_complement total ∙ ones_complement-whole (plain + negative_of plain) positive whole
