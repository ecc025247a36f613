-- A number that is read is the one that was written, and four bytes are the number that is read of
-- them.
use Rattle.std.proofs.Common.{◌≡◌, ℕ, ◌+◌, ◌^◌, ◌<◌, ◌≤◌, inl, inr, List, ◌++◌, length, get_or, take, drop, All, refl, sym, ◌∙◌, arith}
use Rattle.std.specs.Int.{w16, from_le_bytes, from_be_bytes}
use Rattle.std.proofs.lemmas.Bool.{cases_lt}
use Rattle.std.proofs.lemmas.List.{take_at, drop_at, take-append-drop, length-append, length-take-le, get_or-drop, get_or-take, get_or_past, drop-drop}
use Rattle.std.proofs.lemmas.Nat.{be_bytes_2, le_bytes_2, be_bytes_4, le_bytes_4}
use Rattle.byteorder.specs.Numbers.{big_number-reads_back, little_number-reads_back, big_from-lt, little_from-lt, big_from-take, little_from-take}
use Rattle.mt_pcap.specs.declared.form.Order.{Order}
use Rattle.mt_pcap.specs.declared.form.Order.TheVariants.{Big, Little}
use Rattle.mt_pcap.specs.Format.{number, four, two}

-- each number is a byte
abbrev pub IsBytes : List ℕ → Type 0
IsBytes bytes = (i : ℕ) → get_or bytes i 0 < 256

pub IsBytes-from_all : (bytes : List ℕ) → All (λ b. b < 256) bytes → IsBytes bytes
IsBytes-from_all bytes all i =
    elim (cases_lt i (length bytes)) [
      | inl lt ↦ all i 0 lt
      | inr le ↦ rw (get_or_past bytes i 0 le) (omega arith)
    ]

pub IsBytes-drop : (n : ℕ) (bytes : List ℕ) → IsBytes bytes → IsBytes (drop n bytes)
IsBytes-drop n bytes h i = rw get_or-drop (h (n + i))

IsBytes-take : (n : ℕ) (bytes : List ℕ) → IsBytes bytes → IsBytes (take n bytes)
IsBytes-take n bytes h i =
    elim (cases_lt i n) [
      | inl lt ↦ rw (get_or-take n bytes i 0 lt) (h i)
      | inr le ↦ elim (cases_lt i (length (take n bytes))) [
        | inl lt ↦ absurd (omega (arith, Rattle.std.proofs.lemmas.List.length-take n bytes))
        | inr past ↦ rw (get_or_past (take n bytes) i 0 past) (omega arith)
      ]
    ]

pub length-four : (order : Order) (n : ℕ) → length (four order n) ≡ 4
unfolding four
length-four Big n = refl
length-four Little n = refl

pub length-two : (order : Order) (n : ℕ) → length (two order n) ≡ 2
unfolding two
length-two Big n = refl
length-two Little n = refl

pub number-four : (order : Order) (n : ℕ) (rest : List ℕ) → n < 2 ^ 32 → number order (four order n ++ rest) ≡ n
unfolding four number
number-four Big n rest fits = big_number-reads_back 4 n rest fits
number-four Little n rest fits = little_number-reads_back 4 n rest fits

pub number-lt : (order : Order) (bytes : List ℕ) → IsBytes bytes → number order bytes < 2 ^ 32
unfolding number
number-lt Big bytes fits = big_from-lt 0 4 bytes fits
number-lt Little bytes fits = little_from-lt 0 4 bytes fits

four-number : (order : Order) (bytes : List ℕ) → IsBytes bytes → 4 ≤ length bytes → four order (number order bytes) ≡ take 4 bytes
unfolding four number
four-number Big bytes fits long =
    be_bytes_4 (take 4 bytes) _ (length-take-le 4 bytes long) (IsBytes-take 4 bytes fits) (sym (big_from-take 0 4 4 bytes (omega arith)) ∙ omega arith)
four-number Little bytes fits long =
    le_bytes_4 (take 4 bytes) _ (length-take-le 4 bytes long) (IsBytes-take 4 bytes fits) (sym (little_from-take 0 4 4 bytes (omega arith)) ∙ omega arith)

-- the first four bytes as a number, and the others
pub four_split : (order : Order) (bytes : List ℕ) → IsBytes bytes → 4 ≤ length bytes → bytes ≡ four order (number order bytes) ++ drop 4 bytes
four_split order bytes fits long = rw (four-number order bytes fits long) (sym (take-append-drop 4 bytes))

-- the number in the first two bytes
two_of : Order → List ℕ → ℕ
two_of Big bytes = from_be_bytes w16 (take 2 bytes)
two_of Little bytes = from_le_bytes w16 (take 2 bytes)

two-number : (order : Order) (bytes : List ℕ) → IsBytes bytes → 2 ≤ length bytes → two order (two_of order bytes) ≡ take 2 bytes
unfolding two two_of
two-number Big bytes fits long = be_bytes_2 (take 2 bytes) _ (length-take-le 2 bytes long) (IsBytes-take 2 bytes fits) refl
two-number Little bytes fits long = le_bytes_2 (take 2 bytes) _ (length-take-le 2 bytes long) (IsBytes-take 2 bytes fits) refl

pub two_split : (order : Order) (bytes : List ℕ) → IsBytes bytes → 2 ≤ length bytes → (n : ℕ) × (bytes ≡ two order n ++ drop 2 bytes)
two_split order bytes fits long = (two_of order bytes, rw (two-number order bytes fits long) (sym (take-append-drop 2 bytes)))

pub drop-four : (order : Order) (n : ℕ) (rest : List ℕ) → drop 4 (four order n ++ rest) ≡ rest
drop-four order n rest = drop_at (four order n) rest 4 (length-four order n)

pub drop-two : (order : Order) (n : ℕ) (rest : List ℕ) → drop 2 (two order n ++ rest) ≡ rest
drop-two order n rest = drop_at (two order n) rest 2 (length-two order n)
