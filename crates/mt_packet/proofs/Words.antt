-- The words of a header, one by one, in its sum.
use Rattle.std.proofs.Common.{◌≡◌, ◌∙◌, sym, ap, refl, ℕ, ◌+◌, ◌-◌, ◌*◌, ◌/◌, ◌%◌, ◌<◌, ◌≤◌, min, List, [], ◌∷◌, length, get_or, set, take, drop, sum, arith}
use Rattle.std.proofs.Math.Seq.{take-set-lt}
use Rattle.std.proofs.lemmas.List.{drop-drop, get_or-drop, get_or-take, drop-set-lt, length-take, length-drop}
use Rattle.mt_packet.proofs.Sums.{sum-cons}
use Rattle.mt_packet.specs.Checksum.{words_of}
use Rattle.mt_packet.specs.Field.{two_bytes_at}
use Rattle.mt_packet.specs.Ipv4.{header_length}
use Rattle.mt_packet.specs.Write.{put_two, put_four}

-- the sum of bytes begins with their first word
sum-word : (bytes : List ℕ) → 2 ≤ length bytes → sum (words_of bytes) ≡ two_bytes_at bytes 0 + sum (words_of (drop 2 bytes))
sum-word [] long = absurd (omega arith)
sum-word (a ∷ []) long = absurd (omega arith)
sum-word (a ∷ b ∷ rest) long = sum-cons (a * 256 + b) (words_of rest)

word-behind : (bytes : List ℕ) (n m : ℕ) → m ≡ n + 2 → 2 ≤ length (drop n bytes)
    → sum (words_of (drop n bytes)) ≡ get_or bytes (n + 0) 0 * 256 + get_or bytes (n + 1) 0 + sum (words_of (drop m bytes))
word-behind bytes n m e long =
    let a = get_or-drop n bytes 0 0 in
    let b = get_or-drop n bytes 1 0 in
    let d = ap (λ l. sum (words_of l)) (drop-drop 2 n bytes ∙ ap (λ k. drop k bytes) (sym e)) in
    let s = sum-word (drop n bytes) long in
    omega arith

-- the ten words of the fixed part of a header, and those of its options
pub ten-words : (b : List ℕ) → 20 ≤ length b
    → sum (words_of b)
    ≡ two_bytes_at b 0 + two_bytes_at b 2 + two_bytes_at b 4 + two_bytes_at b 6 + two_bytes_at b 8 + two_bytes_at b 10
    + two_bytes_at b 12 + two_bytes_at b 14 + two_bytes_at b 16 + two_bytes_at b 18 + sum (words_of (drop 20 b))
ten-words b long =
    let l = length-drop-all b in
    let w0 = sum-word b (omega arith) in
    let w2 = word-behind b 2 4 refl (omega (arith, l 2)) in
    let w4 = word-behind b 4 6 refl (omega (arith, l 4)) in
    let w6 = word-behind b 6 8 refl (omega (arith, l 6)) in
    let w8 = word-behind b 8 10 refl (omega (arith, l 8)) in
    let w10 = word-behind b 10 12 refl (omega (arith, l 10)) in
    let w12 = word-behind b 12 14 refl (omega (arith, l 12)) in
    let w14 = word-behind b 14 16 refl (omega (arith, l 14)) in
    let w16 = word-behind b 16 18 refl (omega (arith, l 16)) in
    let w18 = word-behind b 18 20 refl (omega (arith, l 18)) in
    omega arith
  where
    length-drop-all : (b : List ℕ) (n : ℕ) → length (drop n b) ≡ length b - n
    length-drop-all b n = length-drop n b

-- a write into the header, seen in the header alone
pub take-put_two : (n : ℕ) (bytes : List ℕ) (p v : ℕ) → p + 1 < n → take n (put_two bytes p v) ≡ put_two (take n bytes) p v
take-put_two n bytes p v within =
    let here : p < n = omega arith in
    take-set-lt n (set bytes p (v / 256 % 256)) (p + 1) (v % 256) within
    ∙ ap (λ b. set b (p + 1) (v % 256)) (take-set-lt n bytes p (v / 256 % 256) here)

-- the options of a header, as their sum
abbrev pub options_sum : List ℕ → ℕ
options_sum d = sum (words_of (drop 20 (take (header_length d) d)))

-- the words of the fixed part but the checksum
abbrev pub fixed_sum : List ℕ → ℕ
fixed_sum d =
    two_bytes_at d 0 + two_bytes_at d 2 + two_bytes_at d 4 + two_bytes_at d 6 + two_bytes_at d 8
    + two_bytes_at d 12 + two_bytes_at d 14 + two_bytes_at d 16 + two_bytes_at d 18

-- the sum of a header by its words
pub header-words : (d : List ℕ) → 20 ≤ header_length d → header_length d ≤ length d
    → sum (words_of (take (header_length d) d)) ≡ fixed_sum d + two_bytes_at d 10 + options_sum d
header-words d least within =
    let n = header_length d in
    let b = take n d in
    let l : length (take n d) ≡ min n (length d) = length-take n d in
    let t = ten-words (take n d) (omega arith) in
    let a0 = get_or-take n d 0 0 (omega arith) in
    let a1 = get_or-take n d 1 0 (omega arith) in
    let a2 = get_or-take n d 2 0 (omega arith) in
    let a3 = get_or-take n d 3 0 (omega arith) in
    let a4 = get_or-take n d 4 0 (omega arith) in
    let a5 = get_or-take n d 5 0 (omega arith) in
    let a6 = get_or-take n d 6 0 (omega arith) in
    let a7 = get_or-take n d 7 0 (omega arith) in
    let a8 = get_or-take n d 8 0 (omega arith) in
    let a9 = get_or-take n d 9 0 (omega arith) in
    let a10 = get_or-take n d 10 0 (omega arith) in
    let a11 = get_or-take n d 11 0 (omega arith) in
    let a12 = get_or-take n d 12 0 (omega arith) in
    let a13 = get_or-take n d 13 0 (omega arith) in
    let a14 = get_or-take n d 14 0 (omega arith) in
    let a15 = get_or-take n d 15 0 (omega arith) in
    let a16 = get_or-take n d 16 0 (omega arith) in
    let a17 = get_or-take n d 17 0 (omega arith) in
    let a18 = get_or-take n d 18 0 (omega arith) in
    let a19 = get_or-take n d 19 0 (omega arith) in
    omega arith

-- a write into the fixed part leaves the options
pub options-set : (n : ℕ) (d : List ℕ) (i v : ℕ) → 20 ≤ n → i < 20 → drop 20 (take n (set d i v)) ≡ drop 20 (take n d)
options-set n d i v least low =
    let here : i < n = omega arith in
    ap (drop 20) (take-set-lt n d i v here) ∙ drop-set-lt 20 (take n d) i v low

pub options-put_two : (n : ℕ) (d : List ℕ) (p v : ℕ) → 20 ≤ n → p + 1 < 20 → drop 20 (take n (put_two d p v)) ≡ drop 20 (take n d)
options-put_two n d p v least low =
    options-set n (set d p (v / 256 % 256)) (p + 1) (v % 256) least low ∙ options-set n d p (v / 256 % 256) least (omega arith)

pub options-put_four : (n : ℕ) (d : List ℕ) (p v : ℕ) → 20 ≤ n → p + 3 < 20 → drop 20 (take n (put_four d p v)) ≡ drop 20 (take n d)
options-put_four n d p v least low =
    options-put_two n (put_two d p (v / 65536)) (p + 2) v least (omega arith) ∙ options-put_two n d p (v / 65536) least (omega arith)
