-- The words of a line in its standard form, and its end.
use Rattle.std.proofs.Common.{◌≡◌, ◌∙◌, ap, refl, ℕ, ◌-◌, ◌<◌, ◌≤◌, true, false, cond, ◌&&◌, eqb, ltb, List, [], ◌∷◌, ◌++◌, length, length-append, map, get_or, take, decimal, arith}
use Rattle.std.specs.List.{All, AllByRecursion, filter, list_all}
use Rattle.std.specs.Str.Parse.{AllDigits}
use Rattle.std.specs.Str.Lines.{strip_carriage_return}
use Rattle.std.proofs.lemmas.Bool.Decides.{nat_tests}
use Rattle.std.proofs.lemmas.Fmt.{decimal_is_IsNumeral}
use Rattle.std.proofs.lemmas.List.{append-nil}
use Rattle.std.proofs.lemmas.List.Elements.{All-nil, All-cons, All-append}
use Rattle.std.proofs.lemmas.List.Splits.{slice_split_at, slice_split_none}
use Rattle.std.proofs.lemmas.Str.Parse.{digit_from_value}
use Rattle.mt_lists.specs.Cuts.{HasNo}
use Rattle.mt_lists.proofs.Bools.{and_true}
use Rattle.mt_script.specs.Printed.{numbers_text}
use Rattle.mt_script.specs.Script.{is_blank, is_word, words_of}

-- bytes of a word in the standard form
abbrev IsVisible : ℕ → Type 0
IsVisible byte = 32 < byte

pub record IsPrintedWord (word : List ℕ) : Type 0 where
  pub some : 0 < length word
  pub visible : All IsVisible word

-- ---- words

visible_tested : (word : List ℕ) → list_all (λ byte. ltb 32 byte) word ≡ true → All IsVisible word
visible_tested [] h = All-nil IsVisible
visible_tested (byte ∷ word) h =
    let both = and_true (ltb 32 byte) (list_all (λ byte. ltb 32 byte) word) h in
    let first = both.0 in
    let here : 32 < byte = grind (arith, nat_tests) in
    All-cons IsVisible byte word here (visible_tested word both.1)

pub word_tested : (word : List ℕ) → (ltb 0 (length word) && list_all (λ byte. ltb 32 byte) word) ≡ true → IsPrintedWord word
word_tested word h =
    let both = and_true (ltb 0 (length word)) (list_all (λ byte. ltb 32 byte) word) h in
    let first = both.0 in
    record { some = grind (arith, nat_tests); visible = visible_tested word both.1 }

digits_visible : (ds : List ℕ) → AllDigits 10 ds → All IsVisible ds
digits_visible [] d = All-nil IsVisible
digits_visible (c ∷ cs) d =
    let k = digit_from_value c d.0 in
    let here : 32 < c = grind arith in
    All-cons IsVisible c cs here (digits_visible cs d.1)

decimal_word : (n : ℕ) → n < 1000000000 → IsPrintedWord (decimal n)
decimal_word n short =
    let shown = decimal_is_IsNumeral n (omega (arith, short)) in
    record { some = shown.0.0; visible = digits_visible (decimal n) shown.0.1 }

no_blank : (word : List ℕ) → All IsVisible word → All (λ byte. is_blank byte ≡ false) word
no_blank word visible = λ k d within. (let h = visible k d within in grind (arith, nat_tests))

one_word : (word : List ℕ) → IsPrintedWord word → words_of word ≡ word ∷ []
unfolding words_of
one_word word is =
    let some = is.some in
    let filled : ltb 0 (length word) ≡ true = grind (arith, nat_tests) in
    ap (filter is_word) (slice_split_none is_blank word (no_blank word is.visible)) ∙ ap (λ b. cond b (word ∷ []) []) filled

next_word : (word rest : List ℕ) → IsPrintedWord word → words_of (word ++ 32 ∷ rest) ≡ word ∷ words_of rest
unfolding words_of
next_word word rest is =
    let some = is.some in
    let filled : ltb 0 (length word) ≡ true = grind (arith, nat_tests) in
    ap (filter is_word) (slice_split_at is_blank word 32 rest (no_blank word is.visible) refl) ∙ ap (λ b. cond b (word ∷ words_of rest) (words_of rest)) filled

-- numbers of nine digits at most
abbrev pub AreShort : List ℕ → Type 0
AreShort numbers = AllByRecursion (λ n. n < 1000000000) numbers

pub words_printed : (word : List ℕ) (numbers : List ℕ) → IsPrintedWord word → AreShort numbers → words_of (word ++ numbers_text numbers) ≡ word ∷ map decimal numbers
words_printed word [] is short = ap words_of (append-nil word) ∙ one_word word is
words_printed word (n ∷ numbers) is short =
    next_word word (decimal n ++ numbers_text numbers) is ∙ ap (λ words. word ∷ words) (words_printed (decimal n) numbers (decimal_word n short.0) short.1)

-- ---- the end of a line

-- a line without a line feed, and not ended by a carriage return
pub record IsPlain (line : List ℕ) : Type 0 where
  pub no_feed : HasNo 10 line
  pub unchanged : strip_carriage_return line ≡ line

abbrev AreShown : List ℕ → Type 0
AreShown bytes = All (λ byte. 32 ≤ byte) bytes

numbers_shown : (numbers : List ℕ) → AreShort numbers → AreShown (numbers_text numbers)
numbers_shown [] short = All-nil (λ byte. 32 ≤ byte)
numbers_shown (n ∷ numbers) short =
    let word = decimal_word n short.0 in
    All-append (λ byte. 32 ≤ byte) (32 ∷ decimal n) (numbers_text numbers)
    (All-cons (λ byte. 32 ≤ byte) 32 (decimal n) (omega arith) (λ k d within. (let h = word.visible k d within in omega (arith, h))))
    (numbers_shown numbers short.1)

last_stays : (line : List ℕ) → 0 < length line → AreShown line → strip_carriage_return line ≡ line
last_stays line some shown =
    let last = shown (length line - 1) 0 (omega (arith, some)) in
    let other : eqb (get_or line (length line - 1) 0) 13 ≡ false = grind (arith, nat_tests) in
    ap (λ b. cond b (take (length line - 1) line) line) other

pub plain_line : (word : List ℕ) (numbers : List ℕ) → IsPrintedWord word → AreShort numbers → IsPlain (word ++ numbers_text numbers)
plain_line word numbers is short =
    let line : List ℕ = word ++ numbers_text numbers in
    let shown : AreShown line = All-append (λ byte. 32 ≤ byte) word (numbers_text numbers) (λ k d within. (let h = is.visible k d within in omega (arith, h))) (numbers_shown numbers short) in
    let some = is.some in
    record {
      no_feed = λ k d within. (let h = shown k d within in grind (arith, nat_tests));
      unchanged = last_stays line (omega (arith, some, length-append word (numbers_text numbers))) shown;
    }
