-- An Ethernet address is read back from its pairs.
use Rattle.std.proofs.Common.{◌≡◌, ℕ, ◌+◌, ◌*◌, ◌/◌, ◌%◌, ◌<◌, ◌≤◌, true, Some, ap, arith}
use Rattle.std.proofs.lemmas.Bool.Decides.{nat_tests}
use Rattle.mt_text.specs.Number.{digit_of, is_hexadecimal, hexadecimal_value, hexadecimal_of_length}
use Rattle.mt_text.specs.Address.{hexadecimal_digit, ethernet_address_of, colon_separated}

digit_is : (d : ℕ) → d < 16 → digit_of (hexadecimal_digit d) ≡ d
digit_is d lt = grind (arith, nat_tests)

digit_there : (d : ℕ) → d < 16 → is_hexadecimal (hexadecimal_digit d) ≡ true
digit_there d lt = grind (arith, nat_tests)

joined : (a b c d e f : ℕ) → a ≤ 255 → b ≤ 255 → c ≤ 255 → d ≤ 255 → e ≤ 255 → f ≤ 255
    → (((((((((((0 * 16 + a / 16) * 16 + a % 16) * 16 + b / 16) * 16 + b % 16) * 16 + c / 16) * 16 + c % 16) * 16 + d / 16) * 16 + d % 16) * 16 + e / 16) * 16 + e % 16) * 16 + f / 16) * 16 + f % 16
    ≡ ((((a * 256 + b) * 256 + c) * 256 + d) * 256 + e) * 256 + f
joined a b c d e f ha hb hc hd he hf = omega arith

pub ethernet_printed : (a b c d e f : ℕ) → a ≤ 255 → b ≤ 255 → c ≤ 255 → d ≤ 255 → e ≤ 255 → f ≤ 255
    → ethernet_address_of (colon_separated a b c d e f) ≡ Some (((((a * 256 + b) * 256 + c) * 256 + d) * 256 + e) * 256 + f)
unfolding ethernet_address_of hexadecimal_of_length hexadecimal_value
ethernet_printed a b c d e f ha hb hc hd he hf =
    let a1 : a / 16 < 16 = omega arith in
    let a2 : a % 16 < 16 = omega arith in
    let b1 : b / 16 < 16 = omega arith in
    let b2 : b % 16 < 16 = omega arith in
    let c1 : c / 16 < 16 = omega arith in
    let c2 : c % 16 < 16 = omega arith in
    let d1 : d / 16 < 16 = omega arith in
    let d2 : d % 16 < 16 = omega arith in
    let e1 : e / 16 < 16 = omega arith in
    let e2 : e % 16 < 16 = omega arith in
    let f1 : f / 16 < 16 = omega arith in
    let f2 : f % 16 < 16 = omega arith in
    rw (
      digit_there (a / 16) a1,
      digit_there (a % 16) a2,
      digit_there (b / 16) b1,
      digit_there (b % 16) b2,
      digit_there (c / 16) c1,
      digit_there (c % 16) c2,
      digit_there (d / 16) d1,
      digit_there (d % 16) d2,
      digit_there (e / 16) e1,
      digit_there (e % 16) e2,
      digit_there (f / 16) f1,
      digit_there (f % 16) f2,
      digit_is (a / 16) a1,
      digit_is (a % 16) a2,
      digit_is (b / 16) b1,
      digit_is (b % 16) b2,
      digit_is (c / 16) c1,
      digit_is (c % 16) c2,
      digit_is (d / 16) d1,
      digit_is (d % 16) d2,
      digit_is (e / 16) e1,
      digit_is (e % 16) e2,
      digit_is (f / 16) f1,
      digit_is (f % 16) f2,
    ) (ap Some (joined a b c d e f ha hb hc hd he hf))
