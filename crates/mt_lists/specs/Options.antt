-- Readings that may find nothing, one after the other.
use Rattle.std.specs.Prelude.{List, [], ◌∷◌, Option, Some, option_map, option_and_then}

-- what is found is read on with
infixl 10 ◌>>=◌
abbrev pub ◌>>=◌ : {A B : Type 0} → Option A → (A → Option B) → Option B
found >>= use_it = option_and_then use_it found

-- what is read of each element, where each can be read
unfoldable pub each : {A B : Type 0} → (A → Option B) → List A → Option (List B)
each read [] = Some []
each read (x ∷ xs) = option_and_then (λ y. option_map (λ more. y ∷ more) (each read xs)) (read x)
