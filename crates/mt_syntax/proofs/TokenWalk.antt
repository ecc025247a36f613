-- What holds of each token of a text, by the piece that it is.
use Rattle.std.proofs.Common.{◌≡◌, ℕ, zero, suc, ◌+◌, ◌-◌, ◌≤◌, List, [], ◌∷◌, length, drop, Bool, false, refl, sym, ap, subst, ◌∙◌, arith, length-drop}
use Rattle.std.specs.List.{Contains, AllByRecursion}
use Rattle.std.proofs.lemmas.List.{at_drop_more}
use Rattle.std.proofs.lemmas.List.Elements.{All-from_recursion, All-contains}
use Rattle.mt_syntax.specs.declared.token.TokenKind.{TokenKind}
use Rattle.mt_syntax.specs.declared.token.TokenKind.TheVariants as kinds
use Rattle.mt_syntax.specs.declared.token.Token.{Token}
use Rattle.mt_syntax.specs.declared.piece.Piece.{Piece}
use Rattle.mt_syntax.specs.declared.piece.Piece.TheVariants.{Blank, Taken, Wrong}
use Rattle.mt_syntax.specs.Piece.{piece_at}
use Rattle.mt_syntax.specs.Tokens.{is_name, token, tokens_from, tokens_in}

-- each token with those behind it
abbrev pub EachWithRest : (Token → List Token → Type 0) → List Token → Type 0
EachWithRest P [] = Unit {0}
EachWithRest P (t ∷ ts) = P t ts × EachWithRest P ts

-- what is known of a token that was taken
abbrev pub OfTaken : (Token → List Token → Type 0) → List ℕ → Type 0
OfTaken P text = (at : ℕ) (named : Bool) (kind : TokenKind) (n b : ℕ) (bs : List ℕ) → drop at text ≡ b ∷ bs → piece_at named (b ∷ bs) ≡ Taken kind n
    → P (token kind at (at + n)) (tokens_from (at + 1) (is_name kind) (n - 1) bs)

abbrev pub OfBroken : (Token → List Token → Type 0) → List ℕ → Type 0
OfBroken P text = (at b : ℕ) (bs : List ℕ) → drop at text ≡ b ∷ bs → P (token kinds.Broken at at) []

abbrev pub OfFinish : (Token → List Token → Type 0) → List ℕ → Type 0
OfFinish P text = P (token kinds.Finish (length text) (length text)) []

pub next_place : (text : List ℕ) (at b : ℕ) (bs : List ℕ) → drop at text ≡ b ∷ bs → drop (at + 1) text ≡ bs
next_place text at b bs e =
    let n : length (drop at text) ≡ suc (length bs) = ap length e in
    sym (at_drop_more (drop 1) text at 0 (omega (arith, n, length-drop at text))) ∙ ap (drop 1) e

by_piece : (P : Token → List Token → Type 0) (text : List ℕ) → OfTaken P text → OfBroken P text → (at : ℕ) (named : Bool) (b : ℕ) (bs : List ℕ) (p : Piece) → drop at text ≡ b ∷ bs → piece_at named (b ∷ bs) ≡ p
    → ((name : Bool) (s : ℕ) → EachWithRest P (tokens_from (at + 1) name s bs))
    → EachWithRest P (elim p [
      | Blank n ↦ tokens_from (at + 1) named (n - 1) bs
      | Taken kind n ↦ token kind at (at + n) ∷ tokens_from (at + 1) (is_name kind) (n - 1) bs
      | Wrong ↦ token kinds.Broken at at ∷ []
    ])
by_piece P text taken broken at named b bs (Blank n) e is more = more named (n - 1)
by_piece P text taken broken at named b bs (Taken kind n) e is more = (taken at named kind n b bs e is, more (is_name kind) (n - 1))
by_piece P text taken broken at named b bs Wrong e is more = (broken at b bs e, tt)

at_end : (P : Token → List Token → Type 0) (text : List ℕ) (at : ℕ) → OfFinish P text → at ≤ length text → drop at text ≡ [] → EachWithRest P (token kinds.Finish at at ∷ [])
at_end P text at finish le e =
    let n : length (drop at text) ≡ 0 = ap length e in
    let same : length text ≡ at = omega (arith, n, le, length-drop at text) in
    (subst (λ k. P (token kinds.Finish k k) []) same finish, tt)

still_within : (text : List ℕ) (at b : ℕ) (bs : List ℕ) → drop at text ≡ b ∷ bs → at + 1 ≤ length text
still_within text at b bs e = let n : length (drop at text) ≡ suc (length bs) = ap length e in omega (arith, n, length-drop at text)

walk : (P : Token → List Token → Type 0) (text : List ℕ) → OfTaken P text → OfBroken P text → OfFinish P text → (bytes : List ℕ) (at : ℕ) (named : Bool) (skip : ℕ) → at ≤ length text → drop at text ≡ bytes
    → EachWithRest P (tokens_from at named skip bytes)
unfolding tokens_from
walk P text taken broken finish [] at named zero le e = at_end P text at finish le e
walk P text taken broken finish [] at named (suc s) le e = at_end P text at finish le e
walk P text taken broken finish (b ∷ bs) at named (suc s) le e = walk P text taken broken finish bs (at + 1) named s (still_within text at b bs e) (next_place text at b bs e)
walk P text taken broken finish (b ∷ bs) at named zero le e =
    by_piece P text taken broken at named b bs (piece_at named (b ∷ bs)) e refl (λ name s. walk P text taken broken finish bs (at + 1) name s (still_within text at b bs e) (next_place text at b bs e))

pub each_with_rest : (P : Token → List Token → Type 0) (text : List ℕ) → OfTaken P text → OfBroken P text → OfFinish P text → EachWithRest P (tokens_in text)
each_with_rest P text taken broken finish = walk P text taken broken finish text 0 false 0 (omega arith) refl

without_rest : (P : Token → Type 0) (tokens : List Token) → EachWithRest (λ t ts. P t) tokens → AllByRecursion P tokens
without_rest P [] h = tt
without_rest P (t ∷ ts) h = (h.0, without_rest P ts h.1)

pub each_token : (P : Token → Type 0) (text : List ℕ) → OfTaken (λ t ts. P t) text → OfBroken (λ t ts. P t) text → OfFinish (λ t ts. P t) text → AllByRecursion P (tokens_in text)
each_token P text taken broken finish = without_rest P (tokens_in text) (each_with_rest (λ t ts. P t) text taken broken finish)

-- what holds of each holds of one
pub of_one : (P : Token → Type 0) (tokens : List Token) (t : Token) → AllByRecursion P tokens → Contains tokens t → P t
of_one P tokens t h c = All-contains P tokens t (All-from_recursion P tokens h) c
