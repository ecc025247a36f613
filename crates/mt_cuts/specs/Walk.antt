-- A walk over the parts of several nodes at once.
use Rattle.std.specs.Prelude.{ℕ, ◌≢◌, ◌⊎◌, ◌++◌, ◌≡◌, ◌<◌, ◌≤◌, ◌+◌, Bool, ◌==◌, nat_lt, nat_le, ◌&&◌, if◌then◌else◌, List, [], ◌∷◌, length, slice_index, Option, Some, None}
use Rattle.mt_packet.specs.Header.{number_of}
use Rattle.mt_packet.specs.declared.field.Field.{Field}
use Rattle.mt_cuts.specs.declared.cut.Cut.{Cut}
use Rattle.mt_cuts.specs.Tree.{Tree, class, cut, broken}
use Rattle.mt_cuts.specs.View.{tree_of}

-- the field that a tree cuts first
abbrev pub top : Tree → Option Field
top (class value) = None
top (cut field end low high) = Some field
top broken = None

-- the field of the lower number
abbrev pub earlier : Option Field → Option Field → Option Field
earlier None other = other
earlier (Some field) None = Some field
earlier (Some field) (Some other) = if nat_le (number_of field) (number_of other) then Some field else Some other

-- there is a part, and an end for each part but the last
abbrev pub IsPlace : {A : Type 0} → List ℕ → List A → Type 0
IsPlace ends parts = (0 < length parts) × (length parts ≤ length ends + 1)

-- the end of the first part: its field's last value where it is the only one
abbrev pub first_end : {A : Type 0} → ℕ → List ℕ → List A → ℕ
first_end last ends parts = if nat_lt 1 (length parts) then slice_index ends 0 else last

-- the first part ends here, and others follow
abbrev pub ends_at : {A : Type 0} → ℕ → List ℕ → List A → Bool
ends_at end ends parts = nat_lt 1 (length parts) && slice_index ends 0 == end

-- cuts of a field in front of a tree
abbrev pub put : Field → List ℕ → List Tree → Tree → Tree
put field [] parts tree = tree
put field (end ∷ ends) [] tree = tree
put field (end ∷ ends) (part ∷ parts) tree = cut field end part (put field ends parts tree)

-- a part that is equal to the one before goes on with it; another one begins behind it
abbrev pub Joined : List ℕ → List Cut → List ℕ → List Cut → Cut → ℕ → Cut → Cut → Type 0
Joined old_ends old_parts new_ends new_parts here end part result =
    ((tree_of here ≡ tree_of part) × (new_ends ≡ old_ends) × (new_parts ≡ old_parts) × (result ≡ here))
    ⊎ ((tree_of here ≢ tree_of part) × (new_ends ≡ old_ends ++ end ∷ []) × (new_parts ≡ old_parts ++ here ∷ []) × (result ≡ part))
