-- A decimal number in words is a numeral of at most nine digits with its value.
use Rattle.std.proofs.Common.{◌≡◌, ◌↔◌, ℕ, ◌+◌, ◌-◌, ◌*◌, ◌<◌, ◌≤◌, true, false, cond, ◌||◌, eqb, ltb, List, length, fold, decimal, Some, None, refl, sym, ap, ◌∙◌, arith}
use Rattle.std.specs.List.{list_all}
use Rattle.std.specs.Str.Parse.{AllDigits, digits_value}
use Rattle.std.proofs.lemmas.Bool.Decides.{nat_tests}
use Rattle.std.proofs.lemmas.Str.Parse.{IsDigitsTest, FoldsDigits, IsNumeralModel, numerals_by_fold}
use Rattle.std.proofs.lemmas.Fmt.{decimal_is_IsNumeral, length-decimal-le}
use Rattle.std.proofs.Common.{inl, inr}
use Rattle.std.proofs.lemmas.Option.{cond_some}
use Rattle.mt_lists.proofs.Bools.{chosen, and_true, or_false}
use Rattle.mt_text.specs.Byte.{is_digit}
use Rattle.mt_text.specs.Number.{digit_of, decimal_value, decimal_of, IsDecimal}

abbrev AreDigits : List ℕ → Type 0
AreDigits ds = list_all is_digit ds ≡ true

in_range : (c : ℕ) → is_digit c ≡ true → (48 ≤ c) × (c ≤ 57)
in_range c h = (grind (arith, nat_tests), grind (arith, nat_tests))

is_test : IsDigitsTest AreDigits
is_test = record {
  empty = refl;
  parts = λ c cs d. (let both = and_true (is_digit c) (list_all is_digit cs) d in (in_range c both.0, both.1));
  more = λ c cs k d. (let first : is_digit c ≡ true = grind (arith, nat_tests) in rw (first, d) refl);
}

abbrev value_from : ℕ → List ℕ → ℕ
value_from n ds = fold (λ n byte. n * 10 + digit_of byte) n ds

folds : FoldsDigits value_from
folds = record {
  empty = λ n. refl;
  more = λ n c cs k. (let e : digit_of c ≡ c - 48 = grind (arith, nat_tests) in ap (λ d. value_from (n * 10 + d) cs) e);
}

model : IsNumeralModel AreDigits (value_from 0)
model = numerals_by_fold AreDigits is_test value_from folds

value_same : (word : List ℕ) → AllDigits 10 word → decimal_value word ≡ digits_value 10 word
unfolding decimal_value
value_same word d = model.same word d

-- what is read is a numeral
from_read : (word : List ℕ) (n : ℕ) → decimal_of word ≡ Some n → IsDecimal word n
unfolding decimal_of
from_read word n e = elim (chosen (eqb (length word) 0 || ltb 9 (length word)) None (cond (list_all is_digit word) (Some (decimal_value word)) None) (Some n) e) [
  | inl none ↦ absurd (let x : None ≡ Some n = none.1 in cc)
  | inr some ↦
      let fits = or_false (eqb (length word) 0) (ltb 9 (length word)) some.0 in
      let found = cond_some (list_all is_digit word) (decimal_value word) n some.1 in
      let digits = model.to word found.0 in
      (((grind (arith, nat_tests), digits), grind (arith, nat_tests), sym (value_same word digits) ∙ found.1))
]

-- and each such numeral is read
to_read : (word : List ℕ) (n : ℕ) → IsDecimal word n → decimal_of word ≡ Some n
unfolding decimal_of
to_read word n h =
    let filled : eqb (length word) 0 ≡ false = (let lt = h.0.0 in grind (arith, nat_tests)) in
    let short : ltb 9 (length word) ≡ false = (let le = h.1 in grind (arith, nat_tests)) in
    let digits : list_all is_digit word ≡ true = model.from word h.0.1 in
    rw (filled, short, digits) (ap Some (value_same word h.0.1 ∙ h.2))

pub decimal_read : (word : List ℕ) (n : ℕ) → (decimal_of word ≡ Some n) ↔ IsDecimal word n
decimal_read word n = (from_read word n, to_read word n)

-- what is printed is read back
pub decimal_printed : (n : ℕ) → n < 1000000000 → decimal_of (decimal n) ≡ Some n
decimal_printed n small =
    let shown = decimal_is_IsNumeral n (omega arith) in
    to_read (decimal n) n (shown.0, length-decimal-le 9 n (omega arith) small (omega arith), shown.1)
