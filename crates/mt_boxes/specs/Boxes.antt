-- Sets of headers. A header is a number for each field, by field number, and a box is a span for each field;
-- visible headers and their boxes go by the visible fields in the same way. A region is a list of boxes of
-- which no two have a header in common.
use Rattle.std.specs.Prelude.{ℕ, ◌≡◌, ◌≤◌, ◌⊎◌, List, [], ◌∷◌, map, length, slice_index_or}
use Rattle.mt_packet.specs.Header.{fields, visible_fields, greatest_of, InRanges}
use Rattle.mt_packet.specs.declared.field.Field.{Field}
use Rattle.mt_packet.specs.declared.span.Span.{Span}

-- the number lies in the span, whose ends are in it
abbrev pub IsWithin : Span → ℕ → Type 0
IsWithin span number = (span.lo ≤ number) × (number ≤ span.hi)

-- each value of the header lies in its span
abbrev pub InBox : List Span → List ℕ → Type 0
InBox [] [] = Unit {0}
InBox [] (value ∷ values) = ⊥
InBox (span ∷ spans) [] = ⊥
InBox (span ∷ spans) (value ∷ values) = IsWithin span value × InBox spans values

-- the span of the field at a place
abbrev pub span_at : List Span → ℕ → Span
span_at spans at = slice_index_or spans at (record { lo = 0; hi = 0 })

-- the header of the least values
abbrev pub corner : List Span → List ℕ
corner spans = map (λ span. span.lo) spans

-- the header is in one of the boxes
abbrev pub IsIn : List (List Span) → List ℕ → Type 0
IsIn [] header = ⊥
IsIn (box ∷ boxes) header = InBox box header ⊎ IsIn boxes header

-- each span has a number, and none above the last value of its field
abbrev pub IsBox : List ℕ → List Span → Type 0
IsBox [] [] = Unit {0}
IsBox [] (span ∷ spans) = ⊥
IsBox (last ∷ ranges) [] = ⊥
IsBox (last ∷ ranges) (span ∷ spans) = ((span.lo ≤ span.hi) × (span.hi ≤ last)) × IsBox ranges spans

-- the last values of the fields: the values of each are the numbers from 0 to it
unfoldable pub header_ranges : List ℕ
header_ranges = map greatest_of fields

unfoldable pub visible_ranges : List ℕ
visible_ranges = map greatest_of visible_fields

-- all values of a field
abbrev pub full : Field → Span
full field = record { lo = 0; hi = greatest_of field }

-- a value for each field, in the field's range
pub record IsHeader (header : List ℕ) : Type 0 where
  pub whole : length header ≡ length fields
  pub in_ranges : InRanges header

-- all of them are boxes
abbrev pub AreBoxes : List ℕ → List (List Span) → Type 0
AreBoxes ranges [] = Unit {0}
AreBoxes ranges (box ∷ boxes) = IsBox ranges box × AreBoxes ranges boxes

-- no header is in two of the boxes
abbrev pub AreApart : List (List Span) → Type 0
AreApart [] = Unit {0}
AreApart (box ∷ boxes) = ((header : List ℕ) → InBox box header → IsIn boxes header → ⊥) × AreApart boxes

-- boxes that are apart
pub record IsRegion (ranges : List ℕ) (boxes : List (List Span)) : Type 0 where
  pub formed : AreBoxes ranges boxes
  pub apart : AreApart boxes
