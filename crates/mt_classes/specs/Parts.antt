-- What the trees of some boxes and of some regions give the headers of a chain. A number that no class has stands
-- for the headers that are in none of them.
use Rattle.std.specs.Prelude.{ℕ, ◌≡◌, ◌+◌, ◌⊎◌, max, List, [], ◌∷◌}
use Rattle.mt_packet.specs.Header.{field_of}
use Rattle.mt_packet.specs.declared.span.Span.{Span}
use Rattle.mt_boxes.specs.Boxes.{InBox, IsIn, span_at}
use Rattle.mt_cuts.specs.Headers.{IsHeaderOf}
use Rattle.mt_cuts.specs.Tree.{Tree, value_of}
use Rattle.mt_classes.specs.Partition.{HasClass}

-- one value where something holds, and another where it does not
abbrev pub Tells : Type 0 → ℕ → ℕ → ℕ → Type 0
Tells Holds number none value = (Holds × (value ≡ number)) ⊎ ((Holds → ⊥) × (value ≡ none))

-- the tree tells the headers of a box from others
abbrev pub TellsBox : ℕ → ℕ → ℕ → List Span → Tree → Type 0
TellsBox devices number none box tree =
    (header : List ℕ) → IsHeaderOf devices header → Tells (InBox box header) number none (value_of tree (field_of header))

-- the tree tells the headers of boxes from others
abbrev pub TellsBoxes : ℕ → ℕ → ℕ → List (List Span) → Tree → Type 0
TellsBoxes devices number none boxes tree =
    (header : List ℕ) → IsHeaderOf devices header → Tells (IsIn boxes header) number none (value_of tree (field_of header))

-- a value is the number of a region that has the header, numbers being counted from a first one, or no region has it
abbrev pub TellsClass : ℕ → ℕ → List (List (List Span)) → List ℕ → ℕ → Type 0
TellsClass first none regions header value =
    ((number : ℕ) × (HasClass regions number header × (value ≡ first + number)))
    ⊎ (((number : ℕ) → HasClass regions number header → ⊥) × (value ≡ none))

abbrev pub TellsClasses : ℕ → ℕ → ℕ → List (List (List Span)) → Tree → Type 0
TellsClasses devices first none regions tree =
    (header : List ℕ) → IsHeaderOf devices header → TellsClass first none regions header (value_of tree (field_of header))

-- the greatest device of boxes, and of regions; 0 where there is no box
abbrev pub last_device : List (List Span) → ℕ
last_device [] = 0
last_device (box ∷ boxes) = max (span_at box 0).hi (last_device boxes)

abbrev pub last_of_all : List (List (List Span)) → ℕ
last_of_all [] = 0
last_of_all (region ∷ regions) = max (last_device region) (last_of_all regions)
