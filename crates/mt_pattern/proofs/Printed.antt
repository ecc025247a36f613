-- Prefixes and ranges that are printed in the standard form are read back.
use Rattle.std.proofs.Common.{◌≡◌, ℕ, suc, ◌<◌, ◌≤◌, true, false, eqb, leb, List, [], ◌∷◌, ◌++◌, decimal, Some, refl, arith}
use Rattle.std.specs.Str.Parse.{AllDigits}
use Rattle.std.proofs.lemmas.Bool.Decides.{nat_tests}
use Rattle.std.proofs.lemmas.List.Elements.{All-nil, All-cons}
use Rattle.std.proofs.lemmas.Str.Parse.{digit_from_value}
use Rattle.std.proofs.lemmas.Fmt.{decimal_is_IsNumeral, length-decimal-le}
use Rattle.mt_lists.specs.Cuts.{HasNo}
use Rattle.mt_lists.proofs.Cuts.{index_in, before, behind}
use Rattle.mt_text.specs.Number.{IsDecimal, decimal_of, decimal_up_to, number_up_to}
use Rattle.mt_text.specs.Address.{ipv4_address_of, dotted}
use Rattle.mt_pattern.specs.Span.{span, prefix_span, prefix_at, prefix_of, ports_at, ports_of}

-- a byte below the digits stands in no decimal
none_in : (byte : ℕ) (ds : List ℕ) → byte < 48 → AllDigits 10 ds → HasNo byte ds
none_in byte [] below d = All-nil (λ other. (eqb other byte) ≡ false)
none_in byte (c ∷ cs) below d =
    let k = digit_from_value c d.0 in
    let here : eqb c byte ≡ false = grind (arith, nat_tests) in
    All-cons (λ other. (eqb other byte) ≡ false) c cs here (none_in byte cs below d.1)

none_in_decimal : (byte n : ℕ) → byte < 48 → n < 1000000000 → HasNo byte (decimal n)
none_in_decimal byte n below small = none_in byte (decimal n) below (decimal_is_IsNumeral n (omega arith)).0.1

none_joined : (byte other : ℕ) (xs ys : List ℕ) → eqb other byte ≡ false → HasNo byte xs → HasNo byte ys → HasNo byte (xs ++ other ∷ ys)
none_joined byte other [] ys e h k = All-cons (λ b. (eqb b byte) ≡ false) other ys e k
none_joined byte other (x ∷ xs) ys e h k =
    All-cons (λ b. (eqb b byte) ≡ false) x (xs ++ other ∷ ys) (h 0 0 (omega arith)) (none_joined byte other xs ys e (λ i d within. h (suc i) d (omega (arith, within))) k)

no_slash : (a b c d : ℕ) → a ≤ 255 → b ≤ 255 → c ≤ 255 → d ≤ 255 → HasNo 47 (dotted a b c d)
no_slash a b c d ha hb hc hd =
    let one = none_in_decimal 47 a (omega arith) (omega arith) in
    let two = none_in_decimal 47 b (omega arith) (omega arith) in
    let three = none_in_decimal 47 c (omega arith) (omega arith) in
    let four = none_in_decimal 47 d (omega arith) (omega arith) in
    none_joined 47 46 (decimal a) (decimal b ++ 46 ∷ (decimal c ++ 46 ∷ decimal d)) refl one
    (none_joined 47 46 (decimal b) (decimal c ++ 46 ∷ decimal d) refl two
    (none_joined 47 46 (decimal c) (decimal d) refl three four))

len_printed : ((word : List ℕ) (n : ℕ) → IsDecimal word n → decimal_of word ≡ Some n) → (len : ℕ) → len ≤ 32 → decimal_up_to 32 (decimal len) ≡ Some len
unfolding decimal_up_to
len_printed read len le =
    let shown = decimal_is_IsNumeral len (omega arith) in
    let found = read (decimal len) len (shown.0, length-decimal-le 9 len (omega arith) (omega arith) (omega arith), shown.1) in
    let fits : leb len 32 ≡ true = grind (arith, nat_tests) in
    rw (found, fits) refl

pub prefix_printed : ((word : List ℕ) (n : ℕ) → IsDecimal word n → decimal_of word ≡ Some n) → (a b c d address len : ℕ) → a ≤ 255 → b ≤ 255 → c ≤ 255 → d ≤ 255 → len ≤ 32
    → ipv4_address_of (dotted a b c d) ≡ Some address → prefix_of (dotted a b c d ++ 47 ∷ decimal len) ≡ Some (prefix_span address len)
unfolding prefix_at
prefix_printed read a b c d address len ha hb hc hd le is =
    let front = dotted a b c d in
    rw (index_in 47 front (decimal len) (no_slash a b c d ha hb hc hd), before 47 front (decimal len), behind 47 front (decimal len), is, len_printed read len le) refl

pub range_printed : (lo hi : ℕ) → lo ≤ hi → hi ≤ 65535 → number_up_to 65535 (decimal lo) ≡ Some lo → number_up_to 65535 (decimal hi) ≡ Some hi → ports_of (decimal lo ++ 45 ∷ decimal hi) ≡ Some (span lo hi)
unfolding ports_at
range_printed lo hi le small first last =
    let front = decimal lo in
    let fits : leb lo hi ≡ true = grind (arith, nat_tests) in
    rw (index_in 45 front (decimal hi) (none_in_decimal 45 lo (omega arith) (omega arith)), before 45 front (decimal hi), behind 45 front (decimal hi), first, last, fits) refl
