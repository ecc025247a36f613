-- A text is no other tokens than those that are found in it.
use Rattle.std.proofs.Common.{◌≡◌, ℕ, ◌+◌, ◌-◌, List, [], ◌∷◌, ◌++◌, length, take, drop, Bool, false, refl, sym, ap, ◌∙◌, arith}
use Rattle.std.specs.Prelude.{Result, Ok, Err, IfOk}
use Rattle.std.specs.Global.{Vec}
use Rattle.std.proofs.lemmas.List.{take-append-drop}
use Rattle.mt_syntax.specs.declared.token.TokenKind.{TokenKind}
use Rattle.mt_syntax.specs.declared.token.TokenKind.TheVariants as kinds
use Rattle.mt_syntax.specs.declared.token.Token.{Token}
use Rattle.mt_syntax.specs.declared.piece.Piece.{Piece}
use Rattle.mt_syntax.specs.declared.piece.Piece.TheVariants.{Blank, Taken, Wrong}
use Rattle.mt_syntax.specs.Piece.{piece_at}
use Rattle.mt_syntax.specs.Tokens.{is_name, token, tokens_from, tokens_in}
use Rattle.mt_syntax.specs.Spelled.{IsBlank, IsToken, BeginsNothing, AreTokensBehind, AreTokens}
use Rattle.mt_syntax.specs.Spelled.AreTokensBehind.{blank, next, broken, finish}
use Rattle.mt_syntax.proofs.PiecesSpelled.{IsPiece, piece_is}
use Rattle.mt_syntax.proofs.ScanLoop.{step_blank, step_taken, step_wrong}
use Rattle.mt_syntax.proofs.PiecesFound.{blank_there, token_there}
use Rattle.mt_syntax.proofs.TokensSpelled.{blank_has_byte, token_has_byte}

-- the bytes of a piece are passed over
passed : (bytes rest : List ℕ) (at : ℕ) (named : Bool) → tokens_from at named (length bytes) (bytes ++ rest) ≡ tokens_from (at + length bytes) named 0 rest
unfolding tokens_from
passed [] rest at named = let e : at ≡ at + 0 = omega arith in ap (λ k. tokens_from k named 0 rest) e
passed (b ∷ bs) rest at named =
    let e : at + 1 + length bs ≡ at + length (b ∷ bs) = omega arith in
    passed bs rest (at + 1) named ∙ ap (λ k. tokens_from k named 0 rest) e

rest_passed : (b : ℕ) (bs rest : List ℕ) (at : ℕ) (named : Bool) → tokens_from (at + 1) named (length (b ∷ bs) - 1) (bs ++ rest) ≡ tokens_from (at + length (b ∷ bs)) named 0 rest
rest_passed b bs rest at named =
    let k : length (b ∷ bs) - 1 ≡ length bs = omega arith in
    let e : at + 1 + length bs ≡ at + length (b ∷ bs) = omega arith in
    ap (λ n. tokens_from (at + 1) named n (bs ++ rest)) k ∙ passed bs rest (at + 1) named ∙ ap (λ n. tokens_from n named 0 rest) e

blank_first : (named : Bool) (at : ℕ) (front rest : List ℕ) → IsBlank front rest → tokens_from at named 0 (front ++ rest) ≡ tokens_from (at + length front) named 0 rest
blank_first named at [] rest h = absurd (let n = blank_has_byte [] rest h in omega arith)
blank_first named at (b ∷ bs) rest h = step_blank at named (length (b ∷ bs)) b (bs ++ rest) (blank_there named (b ∷ bs) rest h) ∙ rest_passed b bs rest at named

token_first : (named : Bool) (at : ℕ) (kind : TokenKind) (body rest : List ℕ) → IsToken named kind body rest → tokens_from at named 0 (body ++ rest) ≡ token kind at (at + length body) ∷ tokens_from (at + length body) (is_name kind) 0 rest
token_first named at kind [] rest h = absurd (let n = token_has_byte named kind [] rest h in omega arith)
token_first named at kind (b ∷ bs) rest h =
    step_taken at named kind (length (b ∷ bs)) b (bs ++ rest) (token_there named kind (b ∷ bs) rest h) ∙ ap (λ (ts : List Token). token kind at (at + length (b ∷ bs)) ∷ ts) (rest_passed b bs rest at (is_name kind))

-- where nothing begins, nothing is found
by_piece : (named : Bool) (bytes : List ℕ) (p : Piece) → BeginsNothing named bytes → IsPiece named p bytes → p ≡ Wrong
by_piece named bytes (Blank n) none is = absurd (none.1 (take n bytes) (drop n bytes) (sym (take-append-drop n bytes)) is)
by_piece named bytes (Taken kind n) none is = absurd (none.2 kind (take n bytes) (drop n bytes) (sym (take-append-drop n bytes)) is)
by_piece named bytes Wrong none is = refl

nothing_first : (named : Bool) (at : ℕ) (bytes : List ℕ) → BeginsNothing named bytes → tokens_from at named 0 bytes ≡ token kinds.Broken at at ∷ []
nothing_first named at [] none = absurd (none.0 refl)
nothing_first named at (b ∷ bs) none = step_wrong at named b bs (by_piece named (b ∷ bs) (piece_at named (b ∷ bs)) none (piece_is named (b ∷ bs) (omega arith)))

none_left : (named : Bool) (at : ℕ) → tokens_from at named 0 [] ≡ token kinds.Finish at at ∷ []
unfolding tokens_from
none_left named at = refl

-- These tokens are those that are found.
pub only_found : (named : Bool) (at : ℕ) (bytes : List ℕ) (ts : List Token) → AreTokensBehind named at bytes ts → ts ≡ tokens_from at named 0 bytes
only_found _ _ _ _ (blank named at front rest ts is more) = only_found named (at + length front) rest ts more ∙ sym (blank_first named at front rest is)
only_found _ _ _ _ (next named at kind body rest ts is more) = ap (λ (us : List Token). token kind at (at + length body) ∷ us) (only_found (is_name kind) (at + length body) rest ts more) ∙ sym (token_first named at kind body rest is)
only_found _ _ _ _ (broken named at bytes none) = sym (nothing_first named at bytes none)
only_found _ _ _ _ (finish named at) = sym (none_left named at)

pub text_has_only : (text : List ℕ) (ts : List Token) → AreTokens 0 text ts → ts ≡ tokens_in text
text_has_only text ts h = only_found false 0 text ts h

pub found_only : {E : Type 0} (text : List ℕ) (r : Result (Vec Token) E) → IfOk r (λ v. v.items ≡ tokens_in text) → IfOk r (λ v. (other : List Token) → AreTokens 0 text other → other ≡ v.items)
found_only text (Ok v) h = λ other is. text_has_only text other is ∙ sym h
found_only text (Err e) h = tt
