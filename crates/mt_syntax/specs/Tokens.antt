-- The tokens of a text, in order.
use Rattle.std.specs.Prelude.{ℕ, zero, suc, ◌+◌, ◌-◌, List, [], ◌∷◌, Bool, true, false}
use Rattle.mt_syntax.specs.declared.token.TokenKind.{TokenKind}
use Rattle.mt_syntax.specs.declared.token.TokenKind.TheVariants as kinds
use Rattle.mt_syntax.specs.declared.token.Token.{Token}
use Rattle.mt_syntax.specs.declared.piece.Piece.TheVariants.{Blank, Taken, Wrong}
use Rattle.mt_syntax.specs.Piece.{piece_at}

abbrev pub is_name : TokenKind → Bool
is_name kinds.Name = true
is_name _ = false

-- a token of a kind, from a place to a place
abbrev pub token : TokenKind → ℕ → ℕ → Token
token kind from to = record { kind = kind; from = from; to = to }

-- The tokens from a place on. At a place where a piece begins, that piece is told, and its other bytes
-- are passed over: `skip` of them are still ahead. `named` says that the last token is an identifier.
unfoldable pub tokens_from : ℕ → Bool → ℕ → List ℕ → List Token
tokens_from at named skip [] = token kinds.Finish at at ∷ []
tokens_from at named (suc skip) (b ∷ bs) = tokens_from (at + 1) named skip bs
tokens_from at named zero (b ∷ bs) =
    elim (piece_at named (b ∷ bs)) [
      | Blank n ↦ tokens_from (at + 1) named (n - 1) bs
      | Taken kind n ↦ token kind at (at + n) ∷ tokens_from (at + 1) (is_name kind) (n - 1) bs
      | Wrong ↦ token kinds.Broken at at ∷ []
    ]

abbrev pub tokens_in : List ℕ → List Token
tokens_in text = tokens_from 0 false 0 text

-- a token that ends the text
abbrev pub EndsText : TokenKind → Type 0
EndsText kinds.Finish = Unit {0}
EndsText kinds.Broken = Unit {0}
EndsText _ = ⊥

-- The last token ends the text, and no other does.
abbrev pub EndOnce : List Token → Type 0
EndOnce [] = ⊥
EndOnce (t ∷ []) = EndsText t.kind
EndOnce (t ∷ u ∷ ts) = (EndsText t.kind → ⊥) × EndOnce (u ∷ ts)
