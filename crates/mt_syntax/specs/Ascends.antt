-- Where the tokens of a text stand.
use Rattle.std.specs.Prelude.{ℕ, ◌<◌, ◌≤◌, List, length}
use Rattle.std.specs.List.{AllPairs, AllByRecursion}
use Rattle.mt_syntax.specs.declared.token.Token.{Token}

-- each token begins before all later ones
abbrev pub Ascends : List Token → Type 0
Ascends tokens = AllPairs (λ a b. a.from < b.from) tokens

-- each token ends where it begins or later, and within the text
abbrev pub AreInside : List ℕ → List Token → Type 0
AreInside text tokens = AllByRecursion (λ t. (t.from ≤ t.to) × (t.to ≤ length text)) tokens
