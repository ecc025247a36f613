-- The order of headers: field by field.
use Rattle.std.specs.Prelude.{ℕ, ◌≡◌, ◌<◌, ◌⊎◌, List, [], ◌∷◌}

-- the first field in which two headers differ decides
abbrev pub IsAtMost : List ℕ → List ℕ → Type 0
IsAtMost [] others = Unit {0}
IsAtMost (value ∷ values) [] = ⊥
IsAtMost (value ∷ values) (other ∷ others) = (value < other) ⊎ ((value ≡ other) × IsAtMost values others)
