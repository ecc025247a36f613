-- What is left of a box without another.
use Rattle.std.proofs.Common.{◌≡◌, ◌⊎◌, ◌↔◌, ◌∙◌, ◌+◌, ◌-◌, ◌≤◌, ◌<◌, ℕ, List, [], ◌∷◌, ◌++◌, length, min, max, nat_lt, Bool, true, false, cond, inl, inr, refl, sym, ap, subst, arith}
use Rattle.std.proofs.lemmas.Bool.{ltb-true, lt-ltb, cases_lt}
use Rattle.mt_packet.specs.declared.span.Span.{Span}
use Rattle.mt_boxes.specs.Boxes.{InBox, IsIn, IsBox, AreBoxes, AreApart, IsRegion}
use Rattle.mt_boxes.specs.Parts.{common, do_meet, below, above, outside, left_of, minus_box, minus_boxes}
use Rattle.mt_boxes.proofs.Sets.{in_left, in_right, in_either, in_one, one_in, region_one, region_joined, no_region, one_region, Disjoint, under, in_under, under_in, none_under, region_under}
use Rattle.mt_boxes.proofs.Meets.{first_meets, rest_meets, meet_from, box_length}

-- ---- one field

in_below : (span cut : Span) (spans : List Span) (value : ℕ) (values : List ℕ) → IsIn (below span cut spans) (value ∷ values) → ((span.lo ≤ value) × (value < cut.lo)) × InBox spans values
in_below span cut spans value values i =
    let j = in_one (nat_lt span.lo cut.lo) (record { lo = span.lo; hi = cut.lo - 1 } ∷ spans) (value ∷ values) i in
    let first = ltb-true span.lo cut.lo j.0 in
    ((j.1.0.0, omega arith), j.1.1)

below_in : (span cut : Span) (spans : List Span) (value : ℕ) (values : List ℕ) → span.lo ≤ value → value < cut.lo → InBox spans values → IsIn (below span cut spans) (value ∷ values)
below_in span cut spans value values from upto i =
    one_in (nat_lt span.lo cut.lo) (record { lo = span.lo; hi = cut.lo - 1 } ∷ spans) (value ∷ values) (lt-ltb span.lo cut.lo (omega arith)) ((from, omega arith), i)

in_above : (span cut : Span) (spans : List Span) (value : ℕ) (values : List ℕ) → IsIn (above span cut spans) (value ∷ values) → ((cut.hi < value) × (value ≤ span.hi)) × InBox spans values
in_above span cut spans value values i =
    let j = in_one (nat_lt cut.hi span.hi) (record { lo = cut.hi + 1; hi = span.hi } ∷ spans) (value ∷ values) i in
    ((omega arith, j.1.0.1), j.1.1)

above_in : (span cut : Span) (spans : List Span) (value : ℕ) (values : List ℕ) → cut.hi < value → value ≤ span.hi → InBox spans values → IsIn (above span cut spans) (value ∷ values)
above_in span cut spans value values from upto i =
    one_in (nat_lt cut.hi span.hi) (record { lo = cut.hi + 1; hi = span.hi } ∷ spans) (value ∷ values) (lt-ltb cut.hi span.hi (omega arith)) ((omega arith, upto), i)

no_below : (span cut : Span) (spans : List Span) → IsIn (below span cut spans) [] → ⊥
no_below span cut spans i = (in_one (nat_lt span.lo cut.lo) (record { lo = span.lo; hi = cut.lo - 1 } ∷ spans) [] i).1

no_above : (span cut : Span) (spans : List Span) → IsIn (above span cut spans) [] → ⊥
no_above span cut spans i = (in_one (nat_lt cut.hi span.hi) (record { lo = cut.hi + 1; hi = span.hi } ∷ spans) [] i).1

-- ---- a box that the other one meets: what is outside

outside_in : (spans cuts : List Span) (header : List ℕ) → length spans ≡ length cuts → do_meet spans cuts ≡ true → IsIn (outside spans cuts) header → InBox spans header × (InBox cuts header → ⊥)
outside_in [] cuts header n m i = absurd i
outside_in (span ∷ spans) [] header n m i = absurd i
outside_in (span ∷ spans) (cut ∷ cuts) [] n m i =
    elim (in_either (below span cut spans ++ above span cut spans) (under (common span cut) (outside spans cuts)) [] i) [
      | inl j ↦ absurd (elim (in_either (below span cut spans) (above span cut spans) [] j) [ inl k ↦ no_below span cut spans k | inr k ↦ no_above span cut spans k ])
      | inr j ↦ absurd (none_under (common span cut) (outside spans cuts) j)
    ]
outside_in (span ∷ spans) (cut ∷ cuts) (value ∷ values) n m i =
    by_part (in_either (below span cut spans ++ above span cut spans) (under (common span cut) (outside spans cuts)) (value ∷ values) i)
    (λ rest. outside_in spans cuts values (omega arith) (rest_meets span cut spans cuts m) rest)
  where
    first : max span.lo cut.lo ≤ min span.hi cut.hi
    first = first_meets span cut spans cuts m

    by_part : IsIn (below span cut spans ++ above span cut spans) (value ∷ values) ⊎ IsIn (under (common span cut) (outside spans cuts)) (value ∷ values)
        → (IsIn (outside spans cuts) values → InBox spans values × (InBox cuts values → ⊥)) → InBox (span ∷ spans) (value ∷ values) × (InBox (cut ∷ cuts) (value ∷ values) → ⊥)
    by_part (inl j) rest =
        elim (in_either (below span cut spans) (above span cut spans) (value ∷ values) j) [
          | inl k ↦ (let l = in_below span cut spans value values k in let f = first in (((l.0.0, omega arith), l.1), λ w. omega arith))
          | inr k ↦ (let l = in_above span cut spans value values k in let f = first in (((omega arith, l.0.1), l.1), λ w. omega arith))
        ]
    by_part (inr j) rest =
        let k = in_under (common span cut) (outside spans cuts) value values j in
        let l = rest k.1 in
        (((omega arith, omega arith), l.0), λ w. l.1 w.1)

in_outside : (spans cuts : List Span) (header : List ℕ) → length spans ≡ length cuts → do_meet spans cuts ≡ true → InBox spans header → (InBox cuts header → ⊥) → IsIn (outside spans cuts) header
in_outside [] [] [] n m i o = absurd (o tt)
in_outside [] [] (value ∷ values) n m i o = absurd i
in_outside [] (cut ∷ cuts) header n m i o = absurd (omega arith)
in_outside (span ∷ spans) [] header n m i o = absurd (omega arith)
in_outside (span ∷ spans) (cut ∷ cuts) [] n m i o = absurd i
in_outside (span ∷ spans) (cut ∷ cuts) (value ∷ values) n m i o =
    by_place (cases_lt value cut.lo) (cases_lt cut.hi value)
    (λ none. in_outside spans cuts values (omega arith) (rest_meets span cut spans cuts m) i.1 none)
  where
    by_place : (value < cut.lo) ⊎ (cut.lo ≤ value) → (cut.hi < value) ⊎ (value ≤ cut.hi)
        → ((InBox cuts values → ⊥) → IsIn (outside spans cuts) values)
        → IsIn ((below span cut spans ++ above span cut spans) ++ under (common span cut) (outside spans cuts)) (value ∷ values)
    by_place (inl less) upper rest =
        in_left (below span cut spans ++ above span cut spans) (under (common span cut) (outside spans cuts)) (value ∷ values)
        (in_left (below span cut spans) (above span cut spans) (value ∷ values) (below_in span cut spans value values i.0.0 less i.1))
    by_place (inr from) (inl more) rest =
        in_left (below span cut spans ++ above span cut spans) (under (common span cut) (outside spans cuts)) (value ∷ values)
        (in_right (below span cut spans) (above span cut spans) (value ∷ values) (above_in span cut spans value values more i.0.1 i.1))
    by_place (inr from) (inr upto) rest =
        in_right (below span cut spans ++ above span cut spans) (under (common span cut) (outside spans cuts)) (value ∷ values)
        (under_in (common span cut) (outside spans cuts) value values (omega arith, omega arith) (rest (λ k. o ((from, upto), k))))

region_outside : (ranges : List ℕ) (spans cuts : List Span) → length spans ≡ length cuts → IsBox ranges spans → do_meet spans cuts ≡ true → IsRegion ranges (outside spans cuts)
region_outside [] [] cuts n f m = no_region []
region_outside [] (span ∷ spans) cuts n f m = absurd f
region_outside (last ∷ ranges) [] cuts n f m = absurd f
region_outside (last ∷ ranges) (span ∷ spans) [] n f m = absurd (omega arith)
region_outside (last ∷ ranges) (span ∷ spans) (cut ∷ cuts) n f m =
    region_joined (last ∷ ranges) (below span cut spans ++ above span cut spans) (under (common span cut) (outside spans cuts))
    (region_joined (last ∷ ranges) (below span cut spans) (above span cut spans)
    (region_one (last ∷ ranges) (nat_lt span.lo cut.lo) (record { lo = span.lo; hi = cut.lo - 1 } ∷ spans) lower)
    (region_one (last ∷ ranges) (nat_lt cut.hi span.hi) (record { lo = cut.hi + 1; hi = span.hi } ∷ spans) higher)
    sides_apart)
    (region_under last ranges (common span cut) (outside spans cuts) ((first_meets span cut spans cuts m, omega arith), tt)
    (region_outside ranges spans cuts (omega arith) f.1 (rest_meets span cut spans cuts m)))
    rest_apart
  where
    first : max span.lo cut.lo ≤ min span.hi cut.hi
    first = first_meets span cut spans cuts m

    lower : nat_lt span.lo cut.lo ≡ true → IsBox (last ∷ ranges) (record { lo = span.lo; hi = cut.lo - 1 } ∷ spans)
    lower e = let less = ltb-true span.lo cut.lo e in let f' = first in ((omega arith, omega arith), f.1)

    higher : nat_lt cut.hi span.hi ≡ true → IsBox (last ∷ ranges) (record { lo = cut.hi + 1; hi = span.hi } ∷ spans)
    higher e = let more = ltb-true cut.hi span.hi e in ((omega arith, f.0.1), f.1)

    sides_apart : Disjoint (below span cut spans) (above span cut spans)
    sides_apart [] i j = no_below span cut spans i
    sides_apart (value ∷ values) i j =
        let k = in_below span cut spans value values i in
        let l = in_above span cut spans value values j in
        let f' = first in
        omega arith

    rest_apart : Disjoint (below span cut spans ++ above span cut spans) (under (common span cut) (outside spans cuts))
    rest_apart [] i j = none_under (common span cut) (outside spans cuts) j
    rest_apart (value ∷ values) i j =
        let w = in_under (common span cut) (outside spans cuts) value values j in
        elim (in_either (below span cut spans) (above span cut spans) (value ∷ values) i) [
          | inl k ↦ (let l = in_below span cut spans value values k in omega arith)
          | inr k ↦ (let l = in_above span cut spans value values k in omega arith)
        ]

-- ---- any two boxes

pub left_in : (cuts spans : List Span) (header : List ℕ) → length spans ≡ length cuts → IsIn (left_of cuts spans) header → InBox spans header × (InBox cuts header → ⊥)
left_in cuts spans header n = by_test (do_meet spans cuts) refl
  where
    by_test : (b : Bool) → do_meet spans cuts ≡ b → IsIn (cond b (outside spans cuts) (spans ∷ [])) header → InBox spans header × (InBox cuts header → ⊥)
    by_test true e i = outside_in spans cuts header n e i
    by_test false e (inl i) = (i, λ j. let m = meet_from spans cuts header i j in absurd cc)
    by_test false e (inr i) = absurd i

pub in_left_of : (cuts spans : List Span) (header : List ℕ) → length spans ≡ length cuts → InBox spans header → (InBox cuts header → ⊥) → IsIn (left_of cuts spans) header
in_left_of cuts spans header n i o = by_test (do_meet spans cuts) refl
  where
    by_test : (b : Bool) → do_meet spans cuts ≡ b → IsIn (cond b (outside spans cuts) (spans ∷ [])) header
    by_test true e = in_outside spans cuts header n e i o
    by_test false e = inl i

region_left : (ranges : List ℕ) (cuts spans : List Span) → length spans ≡ length cuts → IsBox ranges spans → IsRegion ranges (left_of cuts spans)
region_left ranges cuts spans n f = by_test (do_meet spans cuts) refl
  where
    by_test : (b : Bool) → do_meet spans cuts ≡ b → IsRegion ranges (cond b (outside spans cuts) (spans ∷ []))
    by_test true e = region_outside ranges spans cuts n f e
    by_test false e = one_region ranges spans f

-- ---- boxes without one box

module _ (ranges : List ℕ) (cuts : List Span) (whole : length cuts ≡ length ranges) where
  as_many : (spans : List Span) → IsBox ranges spans → length spans ≡ length cuts
  as_many spans f = box_length ranges spans f ∙ sym whole

  one_in_less : (boxes : List (List Span)) (header : List ℕ) → AreBoxes ranges boxes → IsIn (minus_box cuts boxes) header → IsIn boxes header × (InBox cuts header → ⊥)
  one_in_less [] header f i = absurd i
  one_in_less (box ∷ boxes) header f i =
      elim (in_either (left_of cuts box) (minus_box cuts boxes) header i) [
        | inl j ↦ (let k = left_in cuts box header (as_many box f.0) j in (inl k.0, k.1))
        | inr j ↦ (let k = one_in_less boxes header f.1 j in (inr k.0, k.1))
      ]

  in_one_less : (boxes : List (List Span)) (header : List ℕ) → AreBoxes ranges boxes → IsIn boxes header → (InBox cuts header → ⊥) → IsIn (minus_box cuts boxes) header
  in_one_less [] header f i o = absurd i
  in_one_less (box ∷ boxes) header f (inl i) o = in_left (left_of cuts box) (minus_box cuts boxes) header (in_left_of cuts box header (as_many box f.0) i o)
  in_one_less (box ∷ boxes) header f (inr i) o = in_right (left_of cuts box) (minus_box cuts boxes) header (in_one_less boxes header f.1 i o)

  region_one_less : (boxes : List (List Span)) → AreBoxes ranges boxes → AreApart boxes → IsRegion ranges (minus_box cuts boxes)
  region_one_less [] f a = no_region ranges
  region_one_less (box ∷ boxes) f a =
      region_joined ranges (left_of cuts box) (minus_box cuts boxes) (region_left ranges cuts box (as_many box f.0) f.0) (region_one_less boxes f.1 a.1)
      (λ header i j. a.0 header (left_in cuts box header (as_many box f.0) i).0 (one_in_less boxes header f.1 j).0)

-- ---- boxes without others

pub less_in : (ranges : List ℕ) (boxes others : List (List Span)) (header : List ℕ) → IsRegion ranges boxes → AreBoxes ranges others → IsIn (minus_boxes boxes others) header → IsIn boxes header × (IsIn others header → ⊥)
less_in ranges boxes [] header r g i = (i, λ j. j)
less_in ranges boxes (cuts ∷ others) header r g i =
    let whole = box_length ranges cuts g.0 in
    let j = less_in ranges (minus_box cuts boxes) others header (region_one_less ranges cuts whole boxes r.formed r.apart) g.1 i in
    let k = one_in_less ranges cuts whole boxes header r.formed j.0 in
    (k.0, elim [ inl l ↦ k.1 l | inr l ↦ j.1 l ])

pub in_less : (ranges : List ℕ) (boxes others : List (List Span)) (header : List ℕ) → IsRegion ranges boxes → AreBoxes ranges others → IsIn boxes header → (IsIn others header → ⊥) → IsIn (minus_boxes boxes others) header
in_less ranges boxes [] header r g i o = i
in_less ranges boxes (cuts ∷ others) header r g i o =
    let whole = box_length ranges cuts g.0 in
    in_less ranges (minus_box cuts boxes) others header (region_one_less ranges cuts whole boxes r.formed r.apart) g.1
    (in_one_less ranges cuts whole boxes header r.formed i (λ j. o (inl j))) (λ j. o (inr j))

pub region_less : (ranges : List ℕ) (boxes others : List (List Span)) → IsRegion ranges boxes → AreBoxes ranges others → IsRegion ranges (minus_boxes boxes others)
region_less ranges boxes [] r g = r
region_less ranges boxes (cuts ∷ others) r g =
    region_less ranges (minus_box cuts boxes) others (region_one_less ranges cuts (box_length ranges cuts g.0) boxes r.formed r.apart) g.1

-- ---- a region without another, each with its boxes as a list

pub region_difference : (ranges : List ℕ) (boxes others a b made : List (List Span)) → boxes ≡ a → others ≡ b → made ≡ minus_boxes boxes others → IsRegion ranges a → IsRegion ranges b → IsRegion ranges made
region_difference ranges boxes others a b made same same_others is r s =
    let P : List (List Span) → Type 0 = λ boxes. IsRegion ranges boxes in
    subst P (sym (is ∙ ap (λ (l : List (List Span)). minus_boxes l others) same ∙ ap (minus_boxes a) same_others)) (region_less ranges a b r s.formed)

pub difference_is : (ranges : List ℕ) (boxes others a b made : List (List Span)) → boxes ≡ a → others ≡ b → made ≡ minus_boxes boxes others → IsRegion ranges a → IsRegion ranges b
    → (header : List ℕ) → IsIn made header ↔ (IsIn a header × (IsIn b header → ⊥))
difference_is ranges boxes others a b made same same_others is r s header =
    let P : List (List Span) → Type 0 = λ boxes. IsIn boxes header ↔ (IsIn a header × (IsIn b header → ⊥)) in
    subst P (sym (is ∙ ap (λ (l : List (List Span)). minus_boxes l others) same ∙ ap (minus_boxes a) same_others))
    (λ i. less_in ranges a b header r s.formed i, λ i. in_less ranges a b header r s.formed i.0 i.1)
