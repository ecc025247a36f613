-- The meets of regions, each a list of boxes.
use Rattle.std.specs.Prelude.{ℕ, ◌↔◌, Bool, true, false, List, [], ◌∷◌, map}
use Rattle.std.specs.List.{flat_map, filter_map, filter}
use Rattle.mt_packet.specs.declared.span.Span.{Span}
use Rattle.mt_boxes.specs.Boxes.{IsIn}
use Rattle.mt_boxes.specs.Parts.{met}

-- a region has the headers of both
abbrev pub IsMeet : List (List Span) → List (List Span) → List (List Span) → Type 0
IsMeet a b region = (header : List ℕ) → IsIn region header ↔ (IsIn a header × IsIn b header)

-- a region with each of others, and each of regions with each of others
abbrev pub with_each : List (List Span) → List (List (List Span)) → List (List (List Span) × List (List Span))
with_each region others = map (λ other. (region, other)) others

abbrev pub pairs : List (List (List Span)) → List (List (List Span)) → List (List (List Span) × List (List Span))
pairs regions others = flat_map (λ region. with_each region others) regions

-- the regions are the meets of the pairs, in their order, without those that have no header
pub data AreMeets : List (List (List Span) × List (List Span)) → List (List (List Span)) → Type 0 where
  no_pairs : AreMeets [] []
  no_meet : (a b : List (List Span)) (pairs : List (List (List Span) × List (List Span))) (regions : List (List (List Span)))
      → ((header : List ℕ) → IsIn a header → IsIn b header → ⊥) → AreMeets pairs regions → AreMeets ((a, b) ∷ pairs) regions
  one_meet : (a b region : List (List Span)) (pairs : List (List (List Span) × List (List Span))) (regions : List (List (List Span))) (header : List ℕ)
      → IsIn region header → IsMeet a b region → AreMeets pairs regions → AreMeets ((a, b) ∷ pairs) (region ∷ regions)

-- the boxes of a meet: those of the boxes of the first region, in their order, with each of the second
abbrev pub meet_of : List (List Span) → List (List Span) → List (List Span)
meet_of boxes others = flat_map (λ box. filter_map (met box) others) boxes

-- there is a box
abbrev pub has_box : List (List Span) → Bool
has_box [] = false
has_box (box ∷ boxes) = true

abbrev pub meets_with : List (List Span) → List (List (List Span)) → List (List (List Span))
meets_with region others = filter has_box (map (meet_of region) others)

abbrev pub refined : List (List (List Span)) → List (List (List Span)) → List (List (List Span))
refined regions others = flat_map (λ region. meets_with region others) regions
