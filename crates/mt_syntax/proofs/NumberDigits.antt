-- Powers of ten, and the digits of a number.
use Rattle.std.proofs.Common.{◌≡◌, ℕ, zero, suc, ◌+◌, ◌-◌, ◌*◌, ◌^◌, ◌<◌, ◌≤◌, List, [], ◌∷◌, length, take, get_or, cond, Bool, true, false, refl, ap, ◌∙◌, arith, min}
use Rattle.std.specs.List.{prefix_len}
use Rattle.std.proofs.lemmas.List.{take_more, get_or-take}
use Rattle.std.proofs.lemmas.List.Sums.{prefix_len_passes, prefix_len-le-length, fold_push}
use Rattle.std.proofs.lemmas.Bool.Decides.{nat_tests}
use Rattle.mt_text.specs.Byte.{is_digit}
use Rattle.mt_syntax.specs.Piece.{number_of, digits_len}
use Rattle.std.proofs.Math.Nat.{pow-le-pow_right, pow-suc}

pub nine_digits : (i : ℕ) → i ≤ 8 → 10 ^ i ≤ 100000000
nine_digits i h = pow-le-pow_right {n = 10} (omega arith) {i = i} {j = 8} h

pub next_power : (i : ℕ) → 10 ^ (i + 1) ≡ 10 ^ i * 10
next_power i = let e : i + 1 ≡ suc i = omega arith in rw e (pow-suc 10 i)

-- one digit more
pub number_more : (digits : List ℕ) (i : ℕ) → i < length digits → number_of (take (i + 1) digits) ≡ number_of (take i digits) * 10 + (get_or digits i 0 - 48)
number_more digits i lt = ap number_of (take_more digits i 0 lt) ∙ fold_push (λ n d. n * 10 + (d - 48)) 0 (take i digits) (get_or digits i 0)

digit_small : (b : ℕ) → is_digit b ≡ true → b < 58
digit_small b h = grind (arith, nat_tests)

-- each digit at the front is one
pub front_digits : (bytes : List ℕ) (n k : ℕ) → n ≤ digits_len bytes → k < n → get_or (take n bytes) k 0 < 58
front_digits bytes n k le lt =
    let e : get_or (take n bytes) k 0 ≡ get_or bytes k 0 = get_or-take n bytes k 0 lt in
    let p = prefix_len_passes is_digit bytes k 0 (omega arith) in
    rw e (digit_small (get_or bytes k 0) p)

-- of the digits in the first bytes
front_test : (t : Bool) (m n k : ℕ) → m ≡ min n k → cond t (1 + m) 0 ≡ min (cond t (1 + n) 0) (suc k)
front_test true m n k e = omega arith
front_test false m n k e = omega arith

front_len : (p : ℕ → Bool) (xs : List ℕ) (k : ℕ) → prefix_len p (take k xs) ≡ min (prefix_len p xs) k
front_len p [] zero = refl
front_len p [] (suc k) = omega arith
front_len p (x ∷ xs) zero = omega arith
front_len p (x ∷ xs) (suc k) = front_test (p x) (prefix_len p (take k xs)) (prefix_len p xs) k (front_len p xs k)

pub first_nine : (bytes : List ℕ) → digits_len (take (min (length bytes) 9) bytes) ≡ min (digits_len bytes) 9
first_nine bytes =
    let e = front_len is_digit bytes (min (length bytes) 9) in
    let w = prefix_len-le-length is_digit bytes in
    omega arith
