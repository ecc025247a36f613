-- The tokens of a text end once.
use Rattle.std.proofs.Common.{◌≡◌, ℕ, zero, suc, ◌+◌, ◌-◌, List, [], ◌∷◌, cond, eqb, Bool, true, false, Option, Some, None, get_or, drop, sym, subst}
use Rattle.std.specs.Prelude.{Result, Ok, Err, IfOk}
use Rattle.std.specs.Global.{Vec}
use Rattle.mt_syntax.specs.declared.comment.Comment.{Comment}
use Rattle.mt_syntax.specs.declared.comment.Comment.TheVariants.{Absent, Closed, Open}
use Rattle.mt_syntax.specs.declared.token.TokenKind.{TokenKind}
use Rattle.mt_syntax.specs.declared.token.TokenKind.TheVariants as kinds
use Rattle.mt_syntax.specs.declared.token.Token.{Token}
use Rattle.mt_syntax.specs.declared.piece.Piece.{Piece}
use Rattle.mt_syntax.specs.declared.piece.Piece.TheVariants.{Blank, Taken, Wrong}
use Rattle.mt_text.specs.Byte.{is_white, is_letter, is_digit}
use Rattle.mt_syntax.specs.Comment.{comment_at, bare}
use Rattle.mt_syntax.specs.Closing.{closing, plain_len}
use Rattle.mt_syntax.specs.Piece.{name_len, word_at, digits_at, parameter_at, arguments_to, arguments_at, pair_at, mark_of, mark_at, plain_at, piece_at}
use Rattle.mt_syntax.specs.Tokens.{EndsText, EndOnce, is_name, token, tokens_from, tokens_in}

-- what is taken is no end
abbrev IsNoEnd : Piece → Type 0
IsNoEnd (Taken kind n) = EndsText kind → ⊥
IsNoEnd _ = Unit {0}

by_test : (test : Bool) (x y : Piece) → IsNoEnd x → IsNoEnd y → IsNoEnd (cond test x y)
by_test true x y a b = a
by_test false x y a b = b

word_no_end : (bytes : List ℕ) → IsNoEnd (word_at bytes)
unfolding word_at
word_no_end bytes = by_test _ (Taken kinds.Keyword (name_len bytes)) (Taken kinds.Name (name_len bytes)) (λ x. x) (λ x. x)

digits_no_end : (bytes : List ℕ) → IsNoEnd (digits_at bytes)
unfolding digits_at
digits_no_end bytes = λ x. x

parameter_no_end : (bytes : List ℕ) → IsNoEnd (parameter_at bytes)
unfolding parameter_at
parameter_no_end bytes = by_test _ (Taken kinds.Parameter (1 + name_len (drop 1 bytes))) Wrong (λ x. x) tt

arguments_to_no_end : (o : Option ℕ) (plain : ℕ) → IsNoEnd (arguments_to o plain)
arguments_to_no_end None plain = tt
arguments_to_no_end (Some n) plain = λ x. x

arguments_no_end : (bytes : List ℕ) → IsNoEnd (arguments_at bytes)
unfolding arguments_at
arguments_no_end bytes = arguments_to_no_end (closing 0 (bare (drop 1 bytes))) (plain_len (bare (drop 1 bytes)))

pair_no_end : (second : ℕ) (kind : TokenKind) (bytes : List ℕ) → (EndsText kind → ⊥) → IsNoEnd (pair_at second kind bytes)
unfolding pair_at
pair_no_end second kind bytes h = by_test _ (Taken kind 2) Wrong h tt

mark_of_no_end : (b : ℕ) → IsNoEnd (mark_of b)
unfolding mark_of
mark_of_no_end b =
    by_test (eqb b 91) (Taken kinds.LeftBracket 1) _ (λ x. x)
    (by_test (eqb b 93) (Taken kinds.RightBracket 1) _ (λ x. x)
    (by_test (eqb b 123) (Taken kinds.LeftBrace 1) _ (λ x. x)
    (by_test (eqb b 125) (Taken kinds.RightBrace 1) _ (λ x. x)
    (by_test (eqb b 124) (Taken kinds.Bar 1) _ (λ x. x)
    (by_test (eqb b 59) (Taken kinds.Semicolon 1) _ (λ x. x)
    (by_test (eqb b 44) (Taken kinds.Comma 1) Wrong (λ x. x) tt))))))

mark_at_no_end : (named : Bool) (bytes : List ℕ) → IsNoEnd (mark_at named bytes)
unfolding mark_at
mark_at_no_end named bytes =
    let b = get_or bytes 0 0 in
    by_test (eqb b 40) (cond named (arguments_at bytes) Wrong) _ (by_test named (arguments_at bytes) Wrong (arguments_no_end bytes) tt)
    (by_test (eqb b 36) (parameter_at bytes) _ (parameter_no_end bytes)
    (by_test (eqb b 58) (pair_at 58 kinds.Colons bytes) _ (pair_no_end 58 kinds.Colons bytes (λ x. x))
    (by_test (eqb b 45) (pair_at 62 kinds.Arrow bytes) (mark_of b) (pair_no_end 62 kinds.Arrow bytes (λ x. x)) (mark_of_no_end b))))

plain_no_end : (named : Bool) (bytes : List ℕ) → IsNoEnd (plain_at named bytes)
unfolding plain_at
plain_no_end named bytes =
    let b = get_or bytes 0 0 in
    by_test (is_white b) (Blank 1) _ tt (by_test (is_letter b) (word_at bytes) _ (word_no_end bytes) (by_test (is_digit b) (digits_at bytes) (mark_at named bytes) (digits_no_end bytes) (mark_at_no_end named bytes)))

by_comment : (c : Comment) (plain : Piece) → IsNoEnd plain → IsNoEnd (elim c [ Absent ↦ plain | Closed n ↦ Blank n | Open ↦ Wrong ])
by_comment Absent plain h = h
by_comment (Closed n) plain h = tt
by_comment Open plain h = tt

piece_no_end : (named : Bool) (bytes : List ℕ) → IsNoEnd (piece_at named bytes)
unfolding piece_at
piece_no_end named bytes = by_comment (comment_at bytes) (plain_at named bytes) (plain_no_end named bytes)

once_more : (t : Token) (ts : List Token) → (EndsText t.kind → ⊥) → EndOnce ts → EndOnce (t ∷ ts)
once_more t [] other once = absurd once
once_more t (u ∷ ts) other once = (other, once)

by_piece : (at : ℕ) (named : Bool) (bs : List ℕ) (p : Piece) → IsNoEnd p → ((next : Bool) (skip : ℕ) → EndOnce (tokens_from (at + 1) next skip bs))
    → EndOnce (elim p as (λ _. List Token) [
      | Blank n ↦ tokens_from (at + 1) named (n - 1) bs
      | Taken kind n ↦ token kind at (at + n) ∷ tokens_from (at + 1) (is_name kind) (n - 1) bs
      | Wrong ↦ token kinds.Broken at at ∷ []
    ])
by_piece at named bs (Blank n) h ih = ih named (n - 1)
by_piece at named bs (Taken kind n) h ih = once_more (token kind at (at + n)) (tokens_from (at + 1) (is_name kind) (n - 1) bs) h (ih (is_name kind) (n - 1))
by_piece at named bs Wrong h ih = tt

end_once_from : (bytes : List ℕ) (at : ℕ) (named : Bool) (skip : ℕ) → EndOnce (tokens_from at named skip bytes)
unfolding tokens_from
end_once_from [] at named zero = tt
end_once_from [] at named (suc skip) = tt
end_once_from (b ∷ bs) at named (suc skip) = end_once_from bs (at + 1) named skip
end_once_from (b ∷ bs) at named zero = by_piece at named bs (piece_at named (b ∷ bs)) (piece_no_end named (b ∷ bs)) (λ next skip. end_once_from bs (at + 1) next skip)

-- Only the last token of a text is an end.
pub tokens_end_once : (text : List ℕ) → EndOnce (tokens_in text)
tokens_end_once text = end_once_from text 0 false 0

pub found_end_once : {E : Type 0} (text : List ℕ) (r : Result (Vec Token) E) → IfOk r (λ v. v.items ≡ tokens_in text) → IfOk r (λ v. EndOnce v.items)
found_end_once text (Ok v) h = subst EndOnce (sym h) (tokens_end_once text)
found_end_once text (Err e) h = tt
