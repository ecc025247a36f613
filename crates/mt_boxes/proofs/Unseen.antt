-- Boxes one after the other, each without those before.
use Rattle.std.proofs.Common.{◌≡◌, ◌⊎◌, ◌↔◌, ◌∙◌, ◌+◌, ◌≤◌, ◌<◌, ℕ, List, [], ◌∷◌, ◌++◌, length, map, drop, get_or, inl, inr, sym, ap, subst, arith}
use Rattle.std.proofs.lemmas.List.{at_drop_more, at_drop_all}
use Rattle.std.proofs.lemmas.Bool.{cases_lt}
use Rattle.mt_packet.specs.declared.span.Span.{Span}
use Rattle.mt_boxes.specs.Boxes.{InBox, IsIn, IsBox, AreBoxes, IsRegion, header_ranges, visible_ranges}
use Rattle.mt_boxes.specs.Visible.{visible_spans}
use Rattle.mt_boxes.specs.declared.boxes.HeaderBox.{HeaderBox}
use Rattle.mt_packet.specs.Header.{visible_of}
use Rattle.mt_boxes.specs.Parts.{minus_boxes}
use Rattle.mt_boxes.proofs.Sets.{in_left, in_right, in_either, region_joined, one_region, no_region}
use Rattle.mt_boxes.proofs.Left.{less_in, in_less, region_less}
use Rattle.mt_boxes.proofs.Shown.{visible_boxes, visible_in, in_visible}

-- what is seen after boxes
abbrev pub seen_behind : List (List Span) → List (List Span) → List (List Span)
seen_behind [] seen = seen
seen_behind (box ∷ boxes) seen = seen_behind boxes (seen ++ minus_boxes (box ∷ []) seen)

-- a header is in a box or not
cases_box : (spans : List Span) (header : List ℕ) → InBox spans header ⊎ (InBox spans header → ⊥)
cases_box [] [] = inl tt
cases_box [] (value ∷ values) = inr (λ i. i)
cases_box (span ∷ spans) [] = inr (λ i. i)
cases_box (span ∷ spans) (value ∷ values) = by_place (cases_lt value span.lo) (cases_lt span.hi value) (cases_box spans values)
  where
    by_place : (value < span.lo) ⊎ (span.lo ≤ value) → (span.hi < value) ⊎ (value ≤ span.hi) → InBox spans values ⊎ (InBox spans values → ⊥)
        → InBox (span ∷ spans) (value ∷ values) ⊎ (InBox (span ∷ spans) (value ∷ values) → ⊥)
    by_place (inl less) upper rest = inr (λ i. let from = i.0.0 in omega (arith, from))
    by_place (inr from) (inl more) rest = inr (λ i. let upto = i.0.1 in omega (arith, upto))
    by_place (inr from) (inr upto) (inl rest) = inl ((from, upto), rest)
    by_place (inr from) (inr upto) (inr out) = inr (λ i. out i.1)

pub cases_in : (boxes : List (List Span)) (header : List ℕ) → IsIn boxes header ⊎ (IsIn boxes header → ⊥)
cases_in [] header = inr (λ i. i)
cases_in (box ∷ boxes) header = by_box (cases_box box header) (cases_in boxes header)
  where
    by_box : InBox box header ⊎ (InBox box header → ⊥) → IsIn boxes header ⊎ (IsIn boxes header → ⊥) → IsIn (box ∷ boxes) header ⊎ (IsIn (box ∷ boxes) header → ⊥)
    by_box (inl i) rest = inl (inl i)
    by_box (inr o) (inl i) = inl (inr i)
    by_box (inr o) (inr p) = inr (elim [ inl i ↦ o i | inr i ↦ p i ])

-- one box more
region_seen : (ranges : List ℕ) (box : List Span) (seen : List (List Span)) → IsBox ranges box → IsRegion ranges seen → IsRegion ranges (seen ++ minus_boxes (box ∷ []) seen)
region_seen ranges box seen f r =
    region_joined ranges seen (minus_boxes (box ∷ []) seen) r (region_less ranges (box ∷ []) seen (one_region ranges box f) r.formed)
    (λ header i j. (less_in ranges (box ∷ []) seen header (one_region ranges box f) r.formed j).1 i)

seen_in : (ranges : List ℕ) (box : List Span) (seen : List (List Span)) (header : List ℕ) → IsBox ranges box → IsRegion ranges seen → IsIn (seen ++ minus_boxes (box ∷ []) seen) header → IsIn seen header ⊎ InBox box header
seen_in ranges box seen header f r i =
    elim (in_either seen (minus_boxes (box ∷ []) seen) header i) [
      | inl j ↦ inl j
      | inr j ↦ (elim (less_in ranges (box ∷ []) seen header (one_region ranges box f) r.formed j).0 [ inl k ↦ inr k | inr k ↦ absurd k ])
    ]

in_seen : (ranges : List ℕ) (box : List Span) (seen : List (List Span)) (header : List ℕ) → IsBox ranges box → IsRegion ranges seen → InBox box header → IsIn (seen ++ minus_boxes (box ∷ []) seen) header
in_seen ranges box seen header f r i =
    elim (cases_in seen header) [
      | inl j ↦ in_left seen (minus_boxes (box ∷ []) seen) header j
      | inr o ↦ in_right seen (minus_boxes (box ∷ []) seen) header (in_less ranges (box ∷ []) seen header (one_region ranges box f) r.formed (inl i) o)
    ]

-- all boxes
pub region_behind : (ranges : List ℕ) (boxes seen : List (List Span)) → AreBoxes ranges boxes → IsRegion ranges seen → IsRegion ranges (seen_behind boxes seen)
region_behind ranges [] seen f r = r
region_behind ranges (box ∷ boxes) seen f r = region_behind ranges boxes (seen ++ minus_boxes (box ∷ []) seen) f.1 (region_seen ranges box seen f.0 r)

pub behind_in : (ranges : List ℕ) (boxes seen : List (List Span)) (header : List ℕ) → AreBoxes ranges boxes → IsRegion ranges seen → IsIn (seen_behind boxes seen) header → IsIn seen header ⊎ IsIn boxes header
behind_in ranges [] seen header f r i = inl i
behind_in ranges (box ∷ boxes) seen header f r i =
    elim (behind_in ranges boxes (seen ++ minus_boxes (box ∷ []) seen) header f.1 (region_seen ranges box seen f.0 r) i) [
      | inl j ↦ (elim (seen_in ranges box seen header f.0 r j) [ inl k ↦ inl k | inr k ↦ inr (inl k) ])
      | inr j ↦ inr (inr j)
    ]

pub stays_in : (ranges : List ℕ) (boxes seen : List (List Span)) (header : List ℕ) → IsIn seen header → IsIn (seen_behind boxes seen) header
stays_in ranges [] seen header i = i
stays_in ranges (box ∷ boxes) seen header i = stays_in ranges boxes (seen ++ minus_boxes (box ∷ []) seen) header (in_left seen (minus_boxes (box ∷ []) seen) header i)

pub in_behind : (ranges : List ℕ) (boxes seen : List (List Span)) (header : List ℕ) → AreBoxes ranges boxes → IsRegion ranges seen → IsIn boxes header → IsIn (seen_behind boxes seen) header
in_behind ranges [] seen header f r i = absurd i
in_behind ranges (box ∷ boxes) seen header f r (inl i) = stays_in ranges boxes (seen ++ minus_boxes (box ∷ []) seen) header (in_seen ranges box seen header f.0 r i)
in_behind ranges (box ∷ boxes) seen header f r (inr i) = in_behind ranges boxes (seen ++ minus_boxes (box ∷ []) seen) header f.1 (region_seen ranges box seen f.0 r) i

-- ---- the loop over the boxes of a region

pub behind_more : (items : List HeaderBox) (at : ℕ) (of : HeaderBox) (seen new all : List (List Span)) → at < length items → new ≡ seen ++ minus_boxes (visible_spans (get_or items at of).spans ∷ []) seen
    → seen_behind (map visible_spans (map (λ of. of.spans) (drop at items))) seen ≡ all → seen_behind (map visible_spans (map (λ of. of.spans) (drop (at + 1) items))) new ≡ all
behind_more items at of seen new all lt e h =
    ap (seen_behind (map visible_spans (map (λ (of : HeaderBox). of.spans) (drop (at + 1) items)))) e
    ∙ (sym (at_drop_more (λ (l : List HeaderBox). seen_behind (map visible_spans (map (λ of. of.spans) l)) seen) items at of lt) ∙ h)

pub behind_ends : (items : List HeaderBox) (at : ℕ) (seen all : List (List Span)) → length items ≤ at → seen_behind (map visible_spans (map (λ of. of.spans) (drop at items))) seen ≡ all → seen ≡ all
behind_ends items at seen all le h = sym (at_drop_all (λ (l : List HeaderBox). seen_behind (map visible_spans (map (λ of. of.spans) l)) seen) items at le) ∙ h

pub projection_region : (region seen : List (List Span)) → IsRegion header_ranges region → seen ≡ seen_behind (map visible_spans region) [] → IsRegion visible_ranges seen
projection_region region seen r e =
    subst (λ (l : List (List Span)). IsRegion visible_ranges l) (sym e) (region_behind visible_ranges (map visible_spans region) [] (visible_boxes region r.formed) (no_region visible_ranges))

pub projection_is : (region seen : List (List Span)) → IsRegion header_ranges region → seen ≡ seen_behind (map visible_spans region) []
    → (visible : List ℕ) → IsIn seen visible ↔ ((header : List ℕ) × IsIn region header × (visible_of header ≡ visible))
projection_is region seen r e visible = (there, back)
  where
    there : IsIn seen visible → (header : List ℕ) × IsIn region header × (visible_of header ≡ visible)
    there i =
        elim (behind_in visible_ranges (map visible_spans region) [] visible (visible_boxes region r.formed) (no_region visible_ranges) (subst (λ (l : List (List Span)). IsIn l visible) e i)) [
          | inl j ↦ absurd j
          | inr j ↦ visible_in region visible r.formed j
        ]

    back : (header : List ℕ) × IsIn region header × (visible_of header ≡ visible) → IsIn seen visible
    back h =
        subst (λ (l : List (List Span)). IsIn l visible) (sym e)
        (in_behind visible_ranges (map visible_spans region) [] visible (visible_boxes region r.formed) (no_region visible_ranges)
        (subst (λ (values : List ℕ). IsIn (map visible_spans region) values) h.2 (in_visible region h.0 r.formed h.1)))
