-- What is common to two boxes, and what a box leaves of another.
use Rattle.std.specs.Prelude.{ℕ, ◌+◌, ◌-◌, min, max, nat_le, nat_lt, Bool, true, ◌&&◌, if◌then◌else◌, List, [], ◌∷◌, ◌++◌, map, slice_set, Option, Some, None}
use Rattle.std.specs.List.{flat_map}
use Rattle.mt_packet.specs.declared.span.Span.{Span}
use Rattle.mt_boxes.specs.Boxes.{span_at}

-- the numbers of both spans
abbrev pub common : Span → Span → Span
common span other = record { lo = max span.lo other.lo; hi = min span.hi other.hi }

-- each two spans have a number in common
abbrev pub do_meet : List Span → List Span → Bool
do_meet [] others = true
do_meet (span ∷ spans) [] = true
do_meet (span ∷ spans) (other ∷ others) = nat_le (max span.lo other.lo) (min span.hi other.hi) && do_meet spans others

-- the spans of the headers of both boxes
abbrev pub commons : List Span → List Span → List Span
commons [] others = []
commons (span ∷ spans) [] = []
commons (span ∷ spans) (other ∷ others) = common span other ∷ commons spans others

-- what two boxes have in common, where they meet
abbrev pub met : List Span → List Span → Option (List Span)
met spans others = if do_meet spans others then Some (commons spans others) else None

-- a box below and above a span of its first field
abbrev pub below : Span → Span → List Span → List (List Span)
below span cut spans = if nat_lt span.lo cut.lo then (record { lo = span.lo; hi = cut.lo - 1 } ∷ spans) ∷ [] else []

abbrev pub above : Span → Span → List Span → List (List Span)
above span cut spans = if nat_lt cut.hi span.hi then (record { lo = cut.hi + 1; hi = span.hi } ∷ spans) ∷ [] else []

-- what is left of a box that meets another: below and above it in the first field, and where the two have
-- the first field in common what is left in the others
abbrev pub outside : List Span → List Span → List (List Span)
outside [] cuts = []
outside (span ∷ spans) [] = []
outside (span ∷ spans) (cut ∷ cuts) =
    (below span cut spans ++ above span cut spans) ++ map (λ rest. common span cut ∷ rest) (outside spans cuts)

-- what is left of a box without another
abbrev pub left_of : List Span → List Span → List (List Span)
left_of cuts spans = if do_meet spans cuts then outside spans cuts else spans ∷ []

-- what is left of boxes without one box
abbrev pub minus_box : List Span → List (List Span) → List (List Span)
minus_box cuts boxes = flat_map (left_of cuts) boxes

-- what is left of boxes without each of others, one after the other
abbrev pub minus_boxes : List (List Span) → List (List Span) → List (List Span)
minus_boxes boxes [] = boxes
minus_boxes boxes (cuts ∷ others) = minus_boxes (minus_box cuts boxes) others

-- a box below and above a span of the field at a place
abbrev pub below_at : List Span → ℕ → Span → List (List Span)
below_at spans at cut =
    if nat_lt (span_at spans at).lo cut.lo then slice_set spans at (record { lo = (span_at spans at).lo; hi = cut.lo - 1 }) ∷ [] else []

abbrev pub above_at : List Span → ℕ → Span → List (List Span)
above_at spans at cut =
    if nat_lt cut.hi (span_at spans at).hi then slice_set spans at (record { lo = cut.hi + 1; hi = (span_at spans at).hi }) ∷ [] else []
