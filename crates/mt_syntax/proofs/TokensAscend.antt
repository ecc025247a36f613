-- The tokens of a text stand one behind the other, within it.
use Rattle.std.proofs.Common.{◌≡◌, ℕ, zero, suc, ◌+◌, ◌-◌, ◌<◌, ◌≤◌, List, [], ◌∷◌, length, drop, Bool, false, ap, subst, arith, length-drop}
use Rattle.std.specs.List.{AllByRecursion}
use Rattle.std.proofs.lemmas.List.Elements.{All-nil, All-from_recursion}
use Rattle.std.proofs.lemmas.List.Kept.{AllPairs-cons}
use Rattle.mt_syntax.specs.declared.token.TokenKind.{TokenKind}
use Rattle.mt_syntax.specs.declared.token.TokenKind.TheVariants as kinds
use Rattle.mt_syntax.specs.declared.token.Token.{Token}
use Rattle.mt_syntax.specs.declared.piece.Piece.{Piece}
use Rattle.mt_syntax.specs.declared.piece.Piece.TheVariants.{Blank, Taken, Wrong}
use Rattle.mt_syntax.specs.Piece.{piece_at, PieceWithin}
use Rattle.mt_syntax.specs.Tokens.{is_name, token, tokens_from, tokens_in}
use Rattle.mt_syntax.specs.Ascends.{Ascends, AreInside}
use Rattle.mt_syntax.proofs.TokensSpelled.{piece_within}
use Rattle.mt_syntax.proofs.TokenWalk.{each_token}

-- tokens from a place on that ascend
abbrev pub AscendFrom : ℕ → List Token → Type 0
AscendFrom at tokens = AllByRecursion (λ t. at ≤ t.from) tokens × Ascends tokens

later : (at next : ℕ) (tokens : List Token) → at ≤ next → AllByRecursion (λ t. next ≤ t.from) tokens → AllByRecursion (λ t. at ≤ t.from) tokens
later at next [] le h = tt
later at next (t ∷ ts) le h = (omega (arith, h.0), later at next ts le h.1)

none_before : Ascends []
none_before i j d lt within = absurd (omega arith)

one : (kind : TokenKind) (at : ℕ) → AscendFrom at (token kind at at ∷ [])
one kind at = ((omega arith, tt), AllPairs-cons (λ (a b : Token). a.from < b.from) (token kind at at) [] (All-nil (λ (b : Token). at < b.from)) none_before)

put : (kind : TokenKind) (at to : ℕ) (ts : List Token) → AscendFrom (at + 1) ts → AscendFrom at (token kind at to ∷ ts)
put kind at to ts h =
    let above : AllByRecursion (λ (b : Token). at < b.from) ts = later (suc at) (at + 1) ts (omega arith) h.0 in
    ((omega arith, later at (at + 1) ts (omega arith) h.0), AllPairs-cons (λ (a b : Token). a.from < b.from) (token kind at to) ts (All-from_recursion (λ (b : Token). at < b.from) ts above) h.1)

by_piece : (at : ℕ) (named : Bool) (bs : List ℕ) (p : Piece) → ((name : Bool) (s : ℕ) → AscendFrom (at + 1) (tokens_from (at + 1) name s bs))
    → AscendFrom at (elim p [
      | Blank n ↦ tokens_from (at + 1) named (n - 1) bs
      | Taken kind n ↦ token kind at (at + n) ∷ tokens_from (at + 1) (is_name kind) (n - 1) bs
      | Wrong ↦ token kinds.Broken at at ∷ []
    ])
by_piece at named bs (Blank n) more = let h = more named (n - 1) in (later at (at + 1) _ (omega arith) h.0, h.1)
by_piece at named bs (Taken kind n) more = put kind at (at + n) _ (more (is_name kind) (n - 1))
by_piece at named bs Wrong more = one kinds.Broken at

ascend : (bytes : List ℕ) (at : ℕ) (named : Bool) (skip : ℕ) → AscendFrom at (tokens_from at named skip bytes)
unfolding tokens_from
ascend [] at named zero = one kinds.Finish at
ascend [] at named (suc s) = one kinds.Finish at
ascend (b ∷ bs) at named (suc s) = let h = ascend bs (at + 1) named s in (later at (at + 1) _ (omega arith) h.0, h.1)
ascend (b ∷ bs) at named zero = by_piece at named bs (piece_at named (b ∷ bs)) (λ name s. ascend bs (at + 1) name s)

pub ascending : (text : List ℕ) → Ascends (tokens_in text)
ascending text = (ascend text 0 false 0).1

-- a place at which bytes are left
place_inside : (text : List ℕ) (at : ℕ) (rest : List ℕ) → drop at text ≡ rest → 0 < length rest → at + length rest ≡ length text
place_inside text at rest e some = let n : length (drop at text) ≡ length rest = ap length e in omega (arith, n, some, length-drop at text)

taken_inside : (text : List ℕ) (at : ℕ) (named : Bool) (kind : TokenKind) (n b : ℕ) (bs : List ℕ) → drop at text ≡ b ∷ bs → piece_at named (b ∷ bs) ≡ Taken kind n → (at ≤ at + n) × (at + n ≤ length text)
taken_inside text at named kind n b bs e is =
    let within : n ≤ length (b ∷ bs) = subst (PieceWithin (length (b ∷ bs))) is (piece_within named (b ∷ bs) (omega arith)) in
    (omega arith, omega (arith, within, place_inside text at (b ∷ bs) e (omega arith)))

pub inside : (text : List ℕ) → AreInside text (tokens_in text)
inside text =
    each_token (λ t. (t.from ≤ t.to) × (t.to ≤ length text)) text
    (λ at named kind n b bs e is. taken_inside text at named kind n b bs e is)
    (λ at b bs e. (omega arith, omega (arith, place_inside text at (b ∷ bs) e (omega arith))))
    (omega arith, omega arith)
