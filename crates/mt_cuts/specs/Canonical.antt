-- The canonical form of a tree of cuts, and the headers of a chain.
use Rattle.std.specs.Prelude.{ℕ, suc, nat_le, Bool, true, false, ◌==◌, ◌&&◌, List, [], ◌∷◌, length, ◌≡◌, ◌≢◌, ◌<◌, ◌≤◌}
use Rattle.mt_packet.specs.Header.{number_of, greatest_of}
use Rattle.mt_packet.specs.declared.field.Field.{Field}
use Rattle.mt_packet.specs.declared.span.Span.{Span}
use Rattle.mt_packet.specs.declared.field.Field.TheVariants.{Device}
use Rattle.mt_cuts.specs.declared.cut.Cut.{Cut, fold-Cut}
use Rattle.mt_cuts.specs.declared.cut.Cut.TheOpen.{Cut-F}
use Rattle.mt_cuts.specs.Tree.{Tree, class, cut, broken, value_of, piece}

-- the least value of a field: devices are numbered from 1
abbrev pub least_of : Field → ℕ
least_of Device = 1
least_of _ = 0

-- the last value of a field, where frames arrive on so many devices
abbrev pub last_of : ℕ → Field → ℕ
last_of devices Device = devices
last_of devices field = greatest_of field

-- a header whose values lie in the ranges of their fields
pub record InDomain (devices : ℕ) (header : Field → ℕ) : Type 0 where
  pub from_least : (field : Field) → least_of field ≤ header field
  pub to_last : (field : Field) → header field ≤ last_of devices field

-- one cut of a canonical tree: its field is none of the first `settled` ones, and has values from
-- `from` on where it is the next one. Its end is a value of the field, and not the last. The part up to
-- the end cuts later fields only, the rest goes on behind the end, and the two differ there.
pub record IsCut (devices settled from : ℕ) (field : Field) (end : ℕ) (low high : Tree) (LowRest HighRest : Type 0) : Type 0 where
  pub rises : settled ≤ number_of field
  pub from_least : least_of field ≤ end
  pub goes_on : number_of field ≡ settled → from ≤ end
  pub before_last : end < last_of devices field
  pub low_rest : LowRest
  pub high_rest : HighRest
  pub apart : low ≢ piece field (suc end) high

-- the rest of a canonical tree, where the first `settled` fields are settled and the next one is at least `from`
abbrev pub IsRest : ℕ → ℕ → ℕ → Tree → Type 0
IsRest devices settled from (class value) = Unit {0}
IsRest devices settled from (cut field end low high) =
    IsCut devices settled from field end low high
    (IsRest devices (suc (number_of field)) 0 low) (IsRest devices (number_of field) (suc end) high)
IsRest devices settled from broken = ⊥

-- the fields rise on each way, the ends of a node rise, and no two neighbours are equal
abbrev pub IsCanonical : ℕ → Tree → Type 0
IsCanonical devices tree = IsRest devices 0 0 tree

-- a canonical tree, or a part of one, for some number of devices
pub record IsOrdered (tree : Tree) : Type 0 where
  pub devices : ℕ
  pub settled : ℕ
  pub rest : IsRest devices settled 0 tree

-- each header of the domain has one value in both
abbrev pub SameValues : ℕ → Tree → Tree → Type 0
SameValues devices t u = (header : Field → ℕ) → InDomain devices header → value_of t header ≡ value_of u header

-- the ends of a node: as many as parts, and the last of them is the last value of the field
abbrev pub ends_well : ℕ → List ℕ → Bool
ends_well last [] = false
ends_well last (end ∷ []) = end == last
ends_well last (end ∷ next ∷ ends) = ends_well last (next ∷ ends)

-- all of these
abbrev pub all_true : List Bool → Bool
all_true [] = true
all_true (b ∷ bs) = b && all_true bs

-- one layer of a `Cut`, given which of its parts finish well
abbrev pub layer_finishes : ℕ → Cut-F Bool → Bool
layer_finishes devices (Cut-F.Class value) = true
layer_finishes devices (Cut-F.Cuts field ends next) =
    (length ends.items == length next.items && ends_well (last_of devices field) ends.items) && all_true next.items

-- each node has an end for each part, and its last end is the last value of its field
abbrev pub finishes : ℕ → Cut → Bool
finishes devices whole = fold-Cut Bool (layer_finishes devices) whole

-- the number lies in the span, whose ends are in it
abbrev pub is_within : Span → ℕ → Bool
is_within span number = nat_le span.lo number && nat_le number span.hi
