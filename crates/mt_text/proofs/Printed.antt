-- What is printed in the standard form is read back.
use Rattle.std.proofs.Common.{◌≡◌, ℕ, ◌+◌, ◌*◌, ◌<◌, ◌≤◌, true, false, ◌&&◌, eqb, ltb, leb, List, [], ◌∷◌, ◌++◌, length, get_or, decimal, Some, refl, arith}
use Rattle.std.specs.Str.Parse.{AllDigits}
use Rattle.std.proofs.lemmas.Bool.Decides.{nat_tests}
use Rattle.std.proofs.lemmas.List.Elements.{All-nil, All-cons}
use Rattle.std.proofs.lemmas.Str.Parse.{digit_from_value, digit_at}
use Rattle.std.proofs.lemmas.Fmt.{decimal_is_IsNumeral}
use Rattle.mt_lists.specs.Cuts.{HasNo}
use Rattle.mt_lists.proofs.Bools.{false_behind}
use Rattle.mt_lists.proofs.Cuts.{index_in, before, behind}
use Rattle.mt_text.specs.Number.{decimal_up_to, number_of, number_up_to}
use Rattle.mt_text.specs.Address.{ipv4_address_of, dotted}
use Rattle.mt_text.proofs.Numerals.{decimal_printed}

up_to_printed : (greatest n : ℕ) → n ≤ greatest → greatest < 1000000000 → decimal_up_to greatest (decimal n) ≡ Some n
unfolding decimal_up_to
up_to_printed greatest n le small =
    let fits : leb n greatest ≡ true = grind (arith, nat_tests) in
    rw (decimal_printed n (omega arith), fits) refl

-- no byte below the digits stands in a decimal
no_dot_in : (ds : List ℕ) → AllDigits 10 ds → HasNo 46 ds
no_dot_in [] d = All-nil (λ other. (eqb other 46) ≡ false)
no_dot_in (c ∷ cs) d =
    let k = digit_from_value c d.0 in
    let here : eqb c 46 ≡ false = grind (arith, nat_tests) in
    All-cons (λ other. (eqb other 46) ≡ false) c cs here (no_dot_in cs d.1)

no_dot : (n : ℕ) → n ≤ 255 → HasNo 46 (decimal n)
no_dot n le = no_dot_in (decimal n) (decimal_is_IsNumeral n (omega arith)).0.1

pub address_printed : (a b c d : ℕ) → a ≤ 255 → b ≤ 255 → c ≤ 255 → d ≤ 255 → ipv4_address_of (dotted a b c d) ≡ Some (a * 16777216 + b * 65536 + c * 256 + d)
unfolding ipv4_address_of
address_printed a b c d ha hb hc hd =
    let one = decimal a in
    let two = decimal b in
    let three = decimal c in
    let four = decimal d in
    let after_two = three ++ 46 ∷ four in
    let after_one = two ++ 46 ∷ after_two in
    rw (
      index_in 46 one after_one (no_dot a ha),
      before 46 one after_one,
      up_to_printed 255 a ha (omega arith),
      behind 46 one after_one,
      index_in 46 two after_two (no_dot b hb),
      before 46 two after_two,
      up_to_printed 255 b hb (omega arith),
      behind 46 two after_two,
      index_in 46 three four (no_dot c hc),
      before 46 three four,
      up_to_printed 255 c hc (omega arith),
      behind 46 three four,
      up_to_printed 255 d hd (omega arith),
    ) refl

-- the second byte of a decimal is a digit, so no `x`
no_prefix : (n : ℕ) → n < 1000000000 → ((ltb 1 (length (decimal n)) && eqb (get_or (decimal n) 0 0) 48) && eqb (get_or (decimal n) 1 0) 120) ≡ false
no_prefix n small =
    let shown = decimal_is_IsNumeral n (omega arith) in
    elim (ltb 1 (length (decimal n))) as (λ t. ltb 1 (length (decimal n)) ≡ t → ((t && eqb (get_or (decimal n) 0 0) 48) && eqb (get_or (decimal n) 1 0) 120) ≡ false) [
      | true ↦ λ e.
          (let long : 1 < length (decimal n) = grind (arith, nat_tests) in
          let digit = digit_at (decimal n) 1 shown.0.1 long in
          let other : eqb (get_or (decimal n) 1 0) 120 ≡ false = grind (arith, nat_tests) in
          rw other (false_behind (eqb (get_or (decimal n) 0 0) 48)))
      | false ↦ λ e. refl
    ] refl

pub number_printed : (greatest n : ℕ) → n ≤ greatest → greatest < 1000000000 → number_up_to greatest (decimal n) ≡ Some n
unfolding number_up_to number_of
number_printed greatest n le small =
    let fits : leb n greatest ≡ true = grind (arith, nat_tests) in
    rw (no_prefix n (omega arith), decimal_printed n (omega arith), fits) refl
