-- Two boxes that have a header in common.
use Rattle.std.proofs.Common.{◌≡◌, ◌≤◌, ℕ, List, [], ◌∷◌, length, min, max, nat_le, true, refl, arith}
use Rattle.std.proofs.lemmas.Bool.{and_parts, and_from, leb-true, le-leb}
use Rattle.mt_packet.specs.declared.span.Span.{Span}
use Rattle.mt_boxes.specs.Boxes.{InBox, IsBox, corner}
use Rattle.mt_boxes.specs.Parts.{commons, do_meet}

-- a box has as many spans as there are fields
pub box_length : (ranges : List ℕ) (spans : List Span) → IsBox ranges spans → length spans ≡ length ranges
box_length [] [] f = refl
box_length [] (span ∷ spans) f = absurd f
box_length (last ∷ ranges) [] f = absurd f
box_length (last ∷ ranges) (span ∷ spans) f = let rest = box_length ranges spans f.1 in omega (arith, rest)

-- and a header as many values
pub header_length : (spans : List Span) (header : List ℕ) → InBox spans header → length header ≡ length spans
header_length [] [] i = refl
header_length [] (value ∷ values) i = absurd i
header_length (span ∷ spans) [] i = absurd i
header_length (span ∷ spans) (value ∷ values) i = let rest = header_length spans values i.1 in omega (arith, rest)

-- the first spans and the others of boxes that meet
pub first_meets : (span other : Span) (spans others : List Span) → do_meet (span ∷ spans) (other ∷ others) ≡ true → max span.lo other.lo ≤ min span.hi other.hi
first_meets span other spans others m = leb-true (max span.lo other.lo) (min span.hi other.hi) (and_parts (nat_le (max span.lo other.lo) (min span.hi other.hi)) (do_meet spans others) m).0

pub rest_meets : (span other : Span) (spans others : List Span) → do_meet (span ∷ spans) (other ∷ others) ≡ true → do_meet spans others ≡ true
rest_meets span other spans others m = (and_parts (nat_le (max span.lo other.lo) (min span.hi other.hi)) (do_meet spans others) m).1

-- what is in both is in what is common to them
pub in_commons : (spans others : List Span) (header : List ℕ) → InBox spans header → InBox others header → InBox (commons spans others) header
in_commons [] others [] i j = tt
in_commons [] others (value ∷ values) i j = absurd i
in_commons (span ∷ spans) [] [] i j = absurd i
in_commons (span ∷ spans) [] (value ∷ values) i j = absurd j
in_commons (span ∷ spans) (other ∷ others) [] i j = absurd i
in_commons (span ∷ spans) (other ∷ others) (value ∷ values) i j = ((omega arith, omega arith), in_commons spans others values i.1 j.1)

-- and nothing else
pub commons_in : (spans others : List Span) (header : List ℕ) → length spans ≡ length others → InBox (commons spans others) header → InBox spans header × InBox others header
commons_in [] [] [] n i = (tt, tt)
commons_in [] [] (value ∷ values) n i = absurd i
commons_in [] (other ∷ others) header n i = absurd (omega arith)
commons_in (span ∷ spans) [] header n i = absurd (omega arith)
commons_in (span ∷ spans) (other ∷ others) [] n i = absurd i
commons_in (span ∷ spans) (other ∷ others) (value ∷ values) n i =
    let rest = commons_in spans others values (omega arith) i.1 in
    (((omega arith, omega arith), rest.0), ((omega arith, omega arith), rest.1))

-- boxes with a header in common meet
pub meet_from : (spans others : List Span) (header : List ℕ) → InBox spans header → InBox others header → do_meet spans others ≡ true
meet_from [] others header i j = refl
meet_from (span ∷ spans) [] header i j = refl
meet_from (span ∷ spans) (other ∷ others) [] i j = absurd i
meet_from (span ∷ spans) (other ∷ others) (value ∷ values) i j =
    and_from (nat_le (max span.lo other.lo) (min span.hi other.hi)) (do_meet spans others) (le-leb (max span.lo other.lo) (min span.hi other.hi) (omega arith)) (meet_from spans others values i.1 j.1)

-- what is common to a box and to spans that it meets is a box
pub commons_box : (ranges : List ℕ) (spans others : List Span) → length spans ≡ length others → IsBox ranges spans → do_meet spans others ≡ true → IsBox ranges (commons spans others)
commons_box [] [] others n f m = tt
commons_box [] (span ∷ spans) others n f m = absurd f
commons_box (last ∷ ranges) [] others n f m = absurd f
commons_box (last ∷ ranges) (span ∷ spans) [] n f m = absurd (omega arith)
commons_box (last ∷ ranges) (span ∷ spans) (other ∷ others) n f m =
    let here = first_meets span other spans others m in
    ((here, omega arith), commons_box ranges spans others (omega arith) f.1 (rest_meets span other spans others m))

pub corner_in : (ranges : List ℕ) (spans : List Span) → IsBox ranges spans → InBox spans (corner spans)
corner_in [] [] f = tt
corner_in [] (span ∷ spans) f = absurd f
corner_in (last ∷ ranges) [] f = absurd f
corner_in (last ∷ ranges) (span ∷ spans) f = ((omega arith, f.0.0), corner_in ranges spans f.1)

-- boxes that meet have a header in common
pub common_header : (spans others : List Span) → length spans ≡ length others → do_meet spans others ≡ true → InBox spans (corner (commons spans others)) × InBox others (corner (commons spans others))
common_header [] [] n m = (tt, tt)
common_header [] (other ∷ others) n m = absurd (omega arith)
common_header (span ∷ spans) [] n m = absurd (omega arith)
common_header (span ∷ spans) (other ∷ others) n m =
    let here = first_meets span other spans others m in
    let rest = common_header spans others (omega arith) (rest_meets span other spans others m) in
    (((omega arith, omega arith), rest.0), ((omega arith, omega arith), rest.1))
