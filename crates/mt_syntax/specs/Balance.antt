-- Parentheses and commas of argument texts.
use Rattle.std.specs.Prelude.{◌≡◌, ℕ, ◌+◌, ◌-◌, ◌≤◌, List, [], ◌∷◌, length, drop, Option, Some, None, ◌&&◌, ◌==◌, slice_index, if◌then◌else◌}
use Rattle.std.specs.List.{AllByRecursion}
use Rattle.mt_syntax.specs.declared.token.TokenKind.TheVariants as kinds
use Rattle.mt_syntax.specs.declared.token.Token.{Token}
use Rattle.mt_syntax.specs.declared.replacing.Binding.{Binding}
use Rattle.mt_syntax.specs.Comment.{bare}
use Rattle.mt_syntax.specs.Closing.{closing, depth_after}
use Rattle.mt_syntax.specs.Words.{bytes_of}
use Rattle.mt_syntax.specs.Arguments.{tidy}
use Rattle.mt_syntax.specs.Reading.{word}

-- How many parentheses are open behind a text, with so many open before it; nothing where one closes
-- that is not open.
unfoldable pub depth_behind : ℕ → List ℕ → Option ℕ
depth_behind depth [] = Some depth
depth_behind depth (b ∷ bs) = if b == 41 && depth == 0 then None else depth_behind (depth_after depth b) bs

-- how many commas stand outside parentheses, with so many open before the text
unfoldable pub commas : ℕ → List ℕ → ℕ
commas depth [] = 0
commas depth (b ∷ bs) = (if b == 44 && depth == 0 then 1 else 0) + commas (depth_after depth b) bs

-- as many parentheses close as open, and none closes before it opens
abbrev pub IsBalanced : List ℕ → Type 0
IsBalanced text = depth_behind 0 text ≡ Some 0

-- no comma stands outside parentheses
abbrev pub IsOne : List ℕ → Type 0
IsOne text = commas 0 text ≡ 0

-- a text that stays one argument wherever it stands
abbrev pub IsWhole : List ℕ → Type 0
IsWhole text = IsBalanced text × IsOne text

-- an argument as it is kept: whole, no white space at its ends, one space for each run of it within
abbrev pub IsTidy : List ℕ → Type 0
IsTidy text = IsWhole text × (tidy text ≡ text)

abbrev pub AreWhole : List (List ℕ) → Type 0
AreWhole texts = AllByRecursion IsWhole texts

abbrev pub AreWholeBindings : List Binding → Type 0
AreWholeBindings bindings = AllByRecursion (λ b. IsWhole b.argument) bindings

-- the bytes of an argument text from its `(` to the `)` that matches it
abbrev pub IsClosed : List ℕ → Type 0
IsClosed bytes = (slice_index bytes 0 ≡ 40) × (2 ≤ length bytes) × (closing 0 (bare (drop 1 bytes)) ≡ Some (length bytes - 1))

-- no place of the text has no token
abbrev pub NoBroken : List Token → Type 0
NoBroken tokens = AllByRecursion (λ t. t.kind ≡ kinds.Broken → ⊥) tokens

-- each argument text ends at its `)`
abbrev pub AreClosed : List ℕ → List Token → Type 0
AreClosed text tokens = AllByRecursion (λ t. t.kind ≡ kinds.Arguments → IsClosed (bytes_of text (word t))) tokens
