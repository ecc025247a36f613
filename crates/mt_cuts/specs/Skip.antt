-- A walk over parts that passes some of them unseen.
use Rattle.std.specs.Prelude.{ℕ, nat_le, nat_lt, Bool, ◌&&◌, if◌then◌else◌, List, [], ◌∷◌, length, slice_index}

-- the first part ends by a value, and others follow
abbrev pub ends_by : {A : Type 0} → ℕ → List ℕ → List A → Bool
ends_by value ends parts = nat_lt 1 (length parts) && nat_le (slice_index ends 0) value

-- the ends and parts behind a value; one part is always left
abbrev pub past : {A : Type 0} → ℕ → List ℕ → List A → List ℕ × List A
past value ends [] = (ends, [])
past value ends (part ∷ []) = (ends, part ∷ [])
past value [] (part ∷ next ∷ parts) = ([], part ∷ next ∷ parts)
past value (end ∷ ends) (part ∷ next ∷ parts) =
    if nat_le end value then past value ends (next ∷ parts) else (end ∷ ends, part ∷ next ∷ parts)
