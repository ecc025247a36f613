-- How large a number in words is.
use Rattle.std.proofs.Common.{ℕ, ◌^◌, ◌<◌, ◌≤◌, List, length, arith}
use Rattle.std.proofs.lemmas.Int.Digits.{digits_value-lt}
use Rattle.std.proofs.Math.Nat.{pow-le-pow_right}
use Rattle.mt_text.specs.Number.{IsDecimal}

pub below_limit : (word : List ℕ) (n : ℕ) → IsDecimal word n → n < 1000000000
below_limit word n h =
    let digits = digits_value-lt 10 word h.0.1 in
    let most : 10 ^ length word ≤ 10 ^ 9 = pow-le-pow_right {n = 10} (omega arith) {i = length word} {j = 9} h.1 in
    let is = h.2 in
    omega (arith, digits, most, is)
