-- What a text has at a place is found there.
use Rattle.std.proofs.Common.{◌≡◌, ℕ, suc, ◌+◌, ◌<◌, ◌≤◌, List, [], ◌∷◌, ◌++◌, length, take, cond, eqb, ltb, Bool, true, false, refl, sym, ap, subst, ◌∙◌, inl, inr, arith, min}
use Rattle.std.specs.Prelude.{IsTrue, codes}
use Rattle.std.specs.List.{AllByRecursion, prefix_len}
use Rattle.std.specs.Str.{bytes_eq}
use Rattle.std.proofs.lemmas.Bool.Decides.{nat_tests}
use Rattle.std.proofs.lemmas.Slice.Eq.{bytes_eq-Decides}
use Rattle.std.proofs.Math.Seq.{take-append_seam}
use Rattle.mt_syntax.specs.declared.token.TokenKind.{TokenKind}
use Rattle.mt_syntax.specs.declared.token.TokenKind.TheVariants as kinds
use Rattle.mt_syntax.specs.declared.piece.Piece.TheVariants.{Blank, Taken}
use Rattle.mt_text.specs.Byte.{is_white, is_letter, is_digit, is_name_byte}
use Rattle.mt_syntax.specs.Comment.{bare}
use Rattle.mt_syntax.specs.Closing.{plain_len}
use Rattle.mt_syntax.specs.Piece.{number_of, name_len, digits_len, word_at, digits_at, parameter_at, arguments_to, arguments_at, pair_at, mark_of, mark_at, plain_at, piece_at}
use Rattle.mt_syntax.specs.Spelled.{IsBlank, IsWord, IsNumber, IsToken, IsArgumentText}
use Rattle.mt_syntax.proofs.CommentsSpelled.{prefix_stops, is_comment_at, absent_at}
use Rattle.mt_syntax.proofs.ArgumentsSpelled.{argument_there}

-- a byte that is no slash begins a piece that is no comment
by_first : (named : Bool) (b : ℕ) (bs : List ℕ) → eqb b 47 ≡ false → piece_at named (b ∷ bs) ≡ plain_at named (b ∷ bs)
unfolding piece_at
by_first named b bs f = rw (absent_at b bs f, piece_at) refl

white_first : (named : Bool) (b : ℕ) (bs : List ℕ) → is_white b ≡ true → plain_at named (b ∷ bs) ≡ Blank 1
unfolding plain_at
white_first named b bs t = rw t refl

letter_first : (named : Bool) (b : ℕ) (bs : List ℕ) → is_white b ≡ false → is_letter b ≡ true → plain_at named (b ∷ bs) ≡ word_at (b ∷ bs)
unfolding plain_at
letter_first named b bs w t = rw (w, t) refl

digit_first : (named : Bool) (b : ℕ) (bs : List ℕ) → is_white b ≡ false → is_letter b ≡ false → is_digit b ≡ true → plain_at named (b ∷ bs) ≡ digits_at (b ∷ bs)
unfolding plain_at
digit_first named b bs w l t = rw (w, l, t) refl

white_no_slash : (b : ℕ) → is_white b ≡ true → eqb b 47 ≡ false
white_no_slash b t = grind (arith, nat_tests)

letter_no_slash : (b : ℕ) → is_letter b ≡ true → eqb b 47 ≡ false
letter_no_slash b t = grind (arith, nat_tests)

letter_no_white : (b : ℕ) → is_letter b ≡ true → is_white b ≡ false
letter_no_white b t = grind (arith, nat_tests)

digit_no_slash : (b : ℕ) → is_digit b ≡ true → eqb b 47 ≡ false
digit_no_slash b t = grind (arith, nat_tests)

digit_no_white : (b : ℕ) → is_digit b ≡ true → is_white b ≡ false
digit_no_white b t = grind (arith, nat_tests)

digit_no_letter : (b : ℕ) → is_digit b ≡ true → is_letter b ≡ false
digit_no_letter b t = grind (arith, nat_tests)

pub blank_there : (named : Bool) (bytes rest : List ℕ) → IsBlank bytes rest → piece_at named (bytes ++ rest) ≡ Blank (length bytes)
unfolding piece_at
blank_there named bytes rest (inl h) = subst (λ (x : List ℕ). piece_at named (x ++ rest) ≡ Blank (length x)) (sym h.1) (by_first named h.0 rest (white_no_slash h.0 h.2) ∙ white_first named h.0 rest h.2)
blank_there named bytes rest (inr h) = rw (is_comment_at bytes rest h, piece_at) refl

-- an identifier
name_goes_on : (b : ℕ) → is_letter b ≡ true → is_name_byte b ≡ true
name_goes_on b h = rw h refl

pub word_len : (bytes rest : List ℕ) → IsWord bytes rest → name_len (bytes ++ rest) ≡ length bytes
word_len [] rest h = absurd h.0
word_len (b ∷ bs) rest h = prefix_stops is_name_byte (b ∷ bs) rest (name_goes_on b h.0.0, h.0.1) h.1

pub word_taken : (bytes rest : List ℕ) → IsWord bytes rest → take (name_len (bytes ++ rest)) (bytes ++ rest) ≡ bytes
word_taken bytes rest h = ap (λ k. take k (bytes ++ rest)) (word_len bytes rest h) ∙ take-append_seam bytes rest

word_begins : (named : Bool) (bytes rest : List ℕ) → IsWord bytes rest → piece_at named (bytes ++ rest) ≡ word_at (bytes ++ rest)
word_begins named [] rest h = absurd h.0
word_begins named (b ∷ bs) rest h = by_first named b (bs ++ rest) (letter_no_slash b h.0.0) ∙ letter_first named b (bs ++ rest) (letter_no_white b h.0.0) h.0.0

word_by : (bytes : List ℕ) (t : Bool) → bytes_eq (take (name_len bytes) bytes) (codes "elementclass") ≡ t → word_at bytes ≡ cond t (Taken kinds.Keyword (name_len bytes)) (Taken kinds.Name (name_len bytes))
unfolding word_at
word_by bytes t e = ap (λ u. cond u (Taken kinds.Keyword (name_len bytes)) (Taken kinds.Name (name_len bytes))) e

refuted : (a b : List ℕ) → (a ≡ b → ⊥) → bytes_eq a b ≡ false
refuted a b f = elim (bytes_eq a b) as (λ (t : Bool). bytes_eq a b ≡ t → t ≡ false) [ true ↦ λ e. absurd (f ((bytes_eq-Decides a b).0 e)) | false ↦ λ e. refl ] refl

name_there : (named : Bool) (bytes rest : List ℕ) → IsWord bytes rest → (bytes ≡ codes "elementclass" → ⊥) → piece_at named (bytes ++ rest) ≡ Taken kinds.Name (length bytes)
name_there named bytes rest h f =
    let g : bytes_eq (take (name_len (bytes ++ rest)) (bytes ++ rest)) (codes "elementclass") ≡ false = ap (λ (x : List ℕ). bytes_eq x (codes "elementclass")) (word_taken bytes rest h) ∙ refuted bytes (codes "elementclass") f in
    word_begins named bytes rest h ∙ word_by (bytes ++ rest) false g ∙ ap (λ k. Taken kinds.Name k) (word_len bytes rest h)

keyword_there : (named : Bool) (bytes rest : List ℕ) → IsWord bytes rest → bytes ≡ codes "elementclass" → piece_at named (bytes ++ rest) ≡ Taken kinds.Keyword (length bytes)
keyword_there named bytes rest h e =
    let g : bytes_eq (take (name_len (bytes ++ rest)) (bytes ++ rest)) (codes "elementclass") ≡ true = (bytes_eq-Decides (take (name_len (bytes ++ rest)) (bytes ++ rest)) (codes "elementclass")).1 (word_taken bytes rest h ∙ e) in
    word_begins named bytes rest h ∙ word_by (bytes ++ rest) true g ∙ ap (λ k. Taken kinds.Keyword k) (word_len bytes rest h)

-- a number
at_least_at : (p : ℕ → Bool) (x : ℕ) (m n : ℕ) → IsTrue (p x) → m ≤ n → suc m ≤ cond (p x) (1 + n) 0
at_least_at p x m n t le = let e : p x ≡ true = t in rw e (omega arith)

at_least : (p : ℕ → Bool) (xs rest : List ℕ) → AllByRecursion (λ c. IsTrue (p c)) xs → length xs ≤ prefix_len p (xs ++ rest)
at_least p [] rest all = omega arith
at_least p (x ∷ xs) rest all = at_least_at p x (length xs) (prefix_len p (xs ++ rest)) all.0 (at_least p xs rest all.1)

number_len : (bytes rest : List ℕ) → IsNumber bytes rest → min (digits_len (bytes ++ rest)) 9 ≡ length bytes
number_len bytes rest h =
    elim (ltb (length bytes) 9) as (λ (t : Bool). ltb (length bytes) 9 ≡ t → min (digits_len (bytes ++ rest)) 9 ≡ length bytes) [
      | true ↦ λ e. (let few : length bytes < 9 = grind (arith, nat_tests) in let n = prefix_stops is_digit bytes rest h.2 (h.3 few) in omega arith)
      | false ↦ λ e. (let many : 9 ≤ length bytes = grind (arith, nat_tests) in let n = at_least is_digit bytes rest h.2 in let m = h.1 in omega arith)
    ] refl

number_begins : (named : Bool) (bytes rest : List ℕ) → IsNumber bytes rest → piece_at named (bytes ++ rest) ≡ digits_at (bytes ++ rest)
number_begins named [] rest h = absurd (let n = h.0 in omega arith)
number_begins named (b ∷ bs) rest h =
    let t : is_digit b ≡ true = h.2.0 in
    by_first named b (bs ++ rest) (digit_no_slash b t) ∙ digit_first named b (bs ++ rest) (digit_no_white b t) (digit_no_letter b t) t

number_there : (named : Bool) (n : ℕ) (bytes rest : List ℕ) → IsNumber bytes rest → n ≡ number_of bytes → piece_at named (bytes ++ rest) ≡ Taken (kinds.Number n) (length bytes)
unfolding digits_at
number_there named n bytes rest h e =
    let l = number_len bytes rest h in
    let v : number_of (take (min (digits_len (bytes ++ rest)) 9) (bytes ++ rest)) ≡ n = ap (λ k. number_of (take k (bytes ++ rest))) l ∙ ap number_of (take-append_seam bytes rest) ∙ sym e in
    number_begins named bytes rest h ∙ ap (λ k. Taken (kinds.Number k) (min (digits_len (bytes ++ rest)) 9)) v ∙ ap (λ k. Taken (kinds.Number n) k) l

-- `$` and an identifier
two_long : (b c : ℕ) (bs : List ℕ) → ltb 1 (length (b ∷ c ∷ bs)) ≡ true
two_long b c bs = grind (arith, nat_tests)

dollar_first : (named : Bool) (bs : List ℕ) → piece_at named (36 ∷ bs) ≡ parameter_at (36 ∷ bs)
unfolding piece_at plain_at mark_at
dollar_first named bs = by_first named 36 bs refl

parameter_there : (named : Bool) (name rest : List ℕ) → IsWord name rest → piece_at named (36 ∷ (name ++ rest)) ≡ Taken kinds.Parameter (length (36 ∷ name))
unfolding parameter_at
parameter_there named [] rest h = absurd h.0
parameter_there named (b ∷ bs) rest h =
    let t : is_letter b ≡ true = h.0.0 in
    let n : 1 + length (b ∷ bs) ≡ length (36 ∷ b ∷ bs) = omega arith in
    let l = word_len (b ∷ bs) rest h in
    let e : parameter_at (36 ∷ b ∷ (bs ++ rest)) ≡ Taken kinds.Parameter (1 + name_len (b ∷ (bs ++ rest))) = rw (two_long 36 b (bs ++ rest), t) refl in
    dollar_first named (b ∷ (bs ++ rest)) ∙ e ∙ ap (λ k. Taken kinds.Parameter (1 + k)) l ∙ ap (λ k. Taken kinds.Parameter k) n

-- an argument text
paren_first : (bs : List ℕ) → piece_at true (40 ∷ bs) ≡ arguments_at (40 ∷ bs)
unfolding piece_at plain_at mark_at
paren_first bs = by_first true 40 bs refl

arguments_there : (inner rest : List ℕ) → IsArgumentText inner rest → piece_at true (40 ∷ (inner ++ rest)) ≡ Taken kinds.Arguments (length (40 ∷ inner))
unfolding arguments_at
arguments_there inner rest h =
    let r = argument_there inner rest h in
    let n : 1 + length inner ≡ length (40 ∷ inner) = omega arith in
    paren_first (inner ++ rest) ∙ ap (λ o. arguments_to o (plain_len (bare (inner ++ rest)))) r.1 ∙ ap (λ k. Taken kinds.Arguments (1 + k)) r.2 ∙ ap (λ k. Taken kinds.Arguments k) n

only_named : (named : Bool) (inner rest : List ℕ) → IsTrue named → IsArgumentText inner rest → piece_at named (40 ∷ (inner ++ rest)) ≡ Taken kinds.Arguments (length (40 ∷ inner))
only_named true inner rest t h = arguments_there inner rest h
only_named false inner rest t h = absurd cc

-- `::` and `->`
colons_there : (named : Bool) (rest : List ℕ) → piece_at named (58 ∷ 58 ∷ rest) ≡ Taken kinds.Colons 2
unfolding piece_at plain_at mark_at pair_at
colons_there named rest = by_first named 58 (58 ∷ rest) refl ∙ rw (two_long 58 58 rest) refl

arrow_there : (named : Bool) (rest : List ℕ) → piece_at named (45 ∷ 62 ∷ rest) ≡ Taken kinds.Arrow 2
unfolding piece_at plain_at mark_at pair_at
arrow_there named rest = by_first named 45 (62 ∷ rest) refl ∙ rw (two_long 45 62 rest) refl

-- the tokens of one byte
marked : (named : Bool) (b : ℕ) (bs : List ℕ) (k : TokenKind) → eqb b 47 ≡ false → plain_at named (b ∷ bs) ≡ Taken k 1 → piece_at named (b ∷ bs) ≡ Taken k 1
marked named b bs k f e = by_first named b bs f ∙ e

spelled_so : (named : Bool) (kind : TokenKind) (bytes told rest : List ℕ) → bytes ≡ told → piece_at named (told ++ rest) ≡ Taken kind (length told) → piece_at named (bytes ++ rest) ≡ Taken kind (length bytes)
spelled_so named kind bytes told rest e h = subst (λ (x : List ℕ). piece_at named (x ++ rest) ≡ Taken kind (length x)) (sym e) h

-- Each token is found.
pub token_there : (named : Bool) (kind : TokenKind) (bytes rest : List ℕ) → IsToken named kind bytes rest → piece_at named (bytes ++ rest) ≡ Taken kind (length bytes)
unfolding plain_at mark_at mark_of
token_there named kinds.Name bytes rest h = name_there named bytes rest h.0 h.1
token_there named kinds.Keyword bytes rest h = keyword_there named bytes rest h.0 h.1
token_there named (kinds.Number n) bytes rest h = number_there named n bytes rest h.0 h.1
token_there named kinds.Parameter bytes rest h = spelled_so named kinds.Parameter bytes (36 ∷ h.0) rest h.1 (parameter_there named h.0 rest h.2)
token_there named kinds.Arguments bytes rest h = spelled_so named kinds.Arguments bytes (40 ∷ h.0) rest h.1 (only_named named h.0 rest h.2 h.3)
token_there named kinds.Colons bytes rest h = spelled_so named kinds.Colons bytes (58 ∷ 58 ∷ []) rest h (colons_there named rest)
token_there named kinds.Arrow bytes rest h = spelled_so named kinds.Arrow bytes (45 ∷ 62 ∷ []) rest h (arrow_there named rest)
token_there named kinds.LeftBracket bytes rest h = spelled_so named kinds.LeftBracket bytes (91 ∷ []) rest h (marked named 91 rest kinds.LeftBracket refl refl)
token_there named kinds.RightBracket bytes rest h = spelled_so named kinds.RightBracket bytes (93 ∷ []) rest h (marked named 93 rest kinds.RightBracket refl refl)
token_there named kinds.LeftBrace bytes rest h = spelled_so named kinds.LeftBrace bytes (123 ∷ []) rest h (marked named 123 rest kinds.LeftBrace refl refl)
token_there named kinds.RightBrace bytes rest h = spelled_so named kinds.RightBrace bytes (125 ∷ []) rest h (marked named 125 rest kinds.RightBrace refl refl)
token_there named kinds.Bar bytes rest h = spelled_so named kinds.Bar bytes (124 ∷ []) rest h (marked named 124 rest kinds.Bar refl refl)
token_there named kinds.Semicolon bytes rest h = spelled_so named kinds.Semicolon bytes (59 ∷ []) rest h (marked named 59 rest kinds.Semicolon refl refl)
token_there named kinds.Comma bytes rest h = spelled_so named kinds.Comma bytes (44 ∷ []) rest h (marked named 44 rest kinds.Comma refl refl)
token_there named kinds.Broken bytes rest h = absurd h
token_there named kinds.Finish bytes rest h = absurd h
