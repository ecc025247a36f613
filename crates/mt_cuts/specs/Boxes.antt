-- The canonical boxes of a function of headers, field by field: the range of the first field is cut into the
-- longest spans of values that leave the same function of the other fields, and each such function is cut in
-- the same way by the next field. The boxes stand in ascending order.
use Rattle.std.specs.Prelude.{ℕ, suc, ◌≡◌, ◌<◌, ◌≤◌, ◌==◌, if◌then◌else◌, List, [], ◌∷◌, ◌++◌}
use Rattle.mt_packet.specs.Header.{number_of}
use Rattle.mt_packet.specs.declared.field.Field.{Field}
use Rattle.mt_packet.specs.declared.span.Span.{Span}
use Rattle.mt_cuts.specs.declared.leaves.Leaf.{Leaf}
use Rattle.mt_cuts.specs.Leaves.{fields}
use Rattle.mt_cuts.specs.Canonical.{least_of, last_of, InDomain}

-- a header with another value of a field
abbrev pub with_value : Field → ℕ → (Field → ℕ) → Field → ℕ
with_value field at header other = if number_of other == number_of field then at else header other

-- what a function leaves of the other fields where a field has a value
abbrev pub left_at : Field → ℕ → ((Field → ℕ) → ℕ) → (Field → ℕ) → ℕ
left_at field at function header = function (with_value field at header)

-- the same function is left at two values of a field
abbrev pub IsSameAt : ℕ → Field → ((Field → ℕ) → ℕ) → ℕ → ℕ → Type 0
IsSameAt devices field function at other =
    (header : Field → ℕ) → InDomain devices header → left_at field at function header ≡ left_at field other function header

-- the boxes behind the spans of the fields before: from a value of the next field on, the longest spans that
-- leave one function, each with the boxes of that function by the fields behind (`Behind`)
pub data AreSpans (devices : ℕ) (field : Field) (Behind : List Span → ((Field → ℕ) → ℕ) → List Leaf → Type 0) (spans : List Span) (function : (Field → ℕ) → ℕ) : ℕ → List Leaf → Type 0 where
  last_span : (from : ℕ) (boxes : List Leaf) → from ≤ last_of devices field
      → ((at : ℕ) → from ≤ at → at ≤ last_of devices field → IsSameAt devices field function at from)
      → Behind (spans ++ record { lo = from; hi = last_of devices field } ∷ []) (left_at field from function) boxes
      → AreSpans devices field Behind spans function from boxes
  more_spans : (from end : ℕ) (boxes others : List Leaf) → from ≤ end → end < last_of devices field
      → ((at : ℕ) → from ≤ at → at ≤ end → IsSameAt devices field function at from)
      → Behind (spans ++ record { lo = from; hi = end } ∷ []) (left_at field from function) boxes
      → (IsSameAt devices field function end (suc end) → ⊥)
      → AreSpans devices field Behind spans function (suc end) others
      → AreSpans devices field Behind spans function from (boxes ++ others)

-- the boxes of a function by the fields that are left, behind the spans of the fields before; with no field
-- left the function is one value
abbrev pub AreBoxes : ℕ → List Field → List Span → ((Field → ℕ) → ℕ) → List Leaf → Type 0
AreBoxes devices [] spans function boxes =
    (value : ℕ) × (boxes ≡ record { spans = spans; value = value } ∷ []) × ((header : Field → ℕ) → InDomain devices header → function header ≡ value)
AreBoxes devices (field ∷ fields) spans function boxes =
    AreSpans devices field (AreBoxes devices fields) spans function (least_of field) boxes

-- the canonical boxes of a function by all fields, each with its value
unfoldable pub AreCanonicalBoxes : ℕ → ((Field → ℕ) → ℕ) → List Leaf → Type 0
AreCanonicalBoxes devices function boxes = AreBoxes devices fields [] function boxes
