-- Powers of 16, which bound what digits stand for, and one digit more.
use Rattle.std.proofs.Common.{◌≡◌, ℕ, suc, ◌+◌, ◌*◌, ◌^◌, ◌<◌, ◌≤◌, List, length, take, get_or, ap, ◌∙◌, arith}
use Rattle.std.proofs.lemmas.List.{take_more}
use Rattle.std.proofs.lemmas.List.Sums.{fold_push}
use Rattle.std.proofs.Math.Nat.{pow-le-pow_right, pow-suc}
use Rattle.mt_text.specs.Number.{digit_of, decimal_value, hexadecimal_value}

pub twelve_digits : (i : ℕ) → i ≤ 12 → 16 ^ i ≤ 281474976710656
twelve_digits i h = pow-le-pow_right {n = 16} (omega arith) {i = i} {j = 12} h

pub next_power : (i : ℕ) → 16 ^ (i + 1) ≡ 16 ^ i * 16
next_power i = let e : i + 1 ≡ suc i = omega arith in rw e (pow-suc 16 i)

pub decimal_more : (word : List ℕ) (i : ℕ) → i < length word → decimal_value (take (i + 1) word) ≡ decimal_value (take i word) * 10 + digit_of (get_or word i 0)
unfolding decimal_value
decimal_more word i lt = ap decimal_value (take_more word i 0 lt) ∙ fold_push (λ n byte. n * 10 + digit_of byte) 0 (take i word) (get_or word i 0)

pub hexadecimal_more : (word : List ℕ) (i : ℕ) → i < length word → hexadecimal_value (take (i + 1) word) ≡ hexadecimal_value (take i word) * 16 + digit_of (get_or word i 0)
unfolding hexadecimal_value
hexadecimal_more word i lt = ap hexadecimal_value (take_more word i 0 lt) ∙ fold_push (λ n byte. n * 16 + digit_of byte) 0 (take i word) (get_or word i 0)
