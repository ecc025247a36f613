-- The meets of regions.
use Rattle.std.proofs.Common.{◌≡◌, ◌↔◌, ◌∙◌, ◌+◌, ◌≤◌, ◌<◌, ℕ, List, [], ◌∷◌, ◌++◌, length, map, take, drop, get_or, inl, inr, refl, sym, ap, subst, append_assoc}
use Rattle.std.specs.Prelude.{Option, Some, None}
use Rattle.std.specs.List.{filter, filter_map, cons_option}
use Rattle.std.proofs.lemmas.List.{append-nil, at_drop_more, at_drop_all, map_more}
use Rattle.mt_packet.specs.declared.span.Span.{Span}
use Rattle.mt_boxes.specs.declared.boxes.HeaderBox.{HeaderBox}
use Rattle.mt_boxes.specs.Boxes.{InBox, IsIn, IsBox, AreBoxes, AreApart, IsRegion, corner}
use Rattle.mt_boxes.specs.Parts.{met}
use Rattle.mt_boxes.specs.Meets.{IsMeet, AreMeets, no_pairs, no_meet, one_meet, with_each, meet_of, has_box, meets_with}
use Rattle.mt_boxes.proofs.Sets.{in_left, in_right, in_either, region_joined, no_region}
use Rattle.mt_boxes.proofs.Meets.{box_length, corner_in}
use Rattle.mt_boxes.proofs.Shared.{met_box, met_in, none_met}

-- ---- a box with each of others

module _ (ranges : List ℕ) (box : List Span) (formed : IsBox ranges box) where
  as_many : (other : List Span) → IsBox ranges other → length box ≡ length other
  as_many other g = box_length ranges box formed ∙ sym (box_length ranges other g)

  each_in : (others : List (List Span)) (header : List ℕ) → AreBoxes ranges others → IsIn (filter_map (met box) others) header → InBox box header × IsIn others header
  each_in [] header g i = absurd i
  each_in (other ∷ others) header g i = by_met (met box other) refl i (each_in others header g.1)
    where
      by_met : (o : Option (List Span)) → met box other ≡ o → IsIn (cons_option o (filter_map (met box) others)) header
          → (IsIn (filter_map (met box) others) header → InBox box header × IsIn others header) → InBox box header × IsIn (other ∷ others) header
      by_met None e i rest = let r = rest i in (r.0, inr r.1)
      by_met (Some both) e (inl i) rest = let r = (met_in box other both header (as_many other g.0) e).0 i in (r.0, inl r.1)
      by_met (Some both) e (inr i) rest = let r = rest i in (r.0, inr r.1)

  in_each : (others : List (List Span)) (header : List ℕ) → AreBoxes ranges others → InBox box header → IsIn others header → IsIn (filter_map (met box) others) header
  in_each [] header g i j = absurd j
  in_each (other ∷ others) header g i j = by_met (met box other) refl j (in_each others header g.1 i)
    where
      by_met : (o : Option (List Span)) → met box other ≡ o → IsIn (other ∷ others) header
          → (IsIn others header → IsIn (filter_map (met box) others) header) → IsIn (cons_option o (filter_map (met box) others)) header
      by_met None e (inl j) rest = absurd (none_met box other header e i j)
      by_met None e (inr j) rest = rest j
      by_met (Some both) e (inl j) rest = inl ((met_in box other both header (as_many other g.0) e).1 (i, j))
      by_met (Some both) e (inr j) rest = inr (rest j)

  region_each : (others : List (List Span)) → AreBoxes ranges others → AreApart others → IsRegion ranges (filter_map (met box) others)
  region_each [] g a = no_region ranges
  region_each (other ∷ others) g a = by_met (met box other) refl (region_each others g.1 a.1) (λ header i. (each_in others header g.1 i).1)
    where
      by_met : (o : Option (List Span)) → met box other ≡ o → IsRegion ranges (filter_map (met box) others)
          → ((header : List ℕ) → IsIn (filter_map (met box) others) header → IsIn others header) → IsRegion ranges (cons_option o (filter_map (met box) others))
      by_met None e rest later = rest
      by_met (Some both) e rest later =
          record {
            formed = (met_box ranges box other both formed (as_many other g.0) e, rest.formed);
            apart = (λ header i j. a.0 header ((met_in box other both header (as_many other g.0) e).0 i).1 (later header j), rest.apart);
          }

-- ---- two regions

meet_in : (ranges : List ℕ) (boxes others : List (List Span)) (header : List ℕ) → AreBoxes ranges boxes → AreBoxes ranges others → IsIn (meet_of boxes others) header → IsIn boxes header × IsIn others header
meet_in ranges [] others header f g i = absurd i
meet_in ranges (box ∷ boxes) others header f g i =
    elim (in_either (filter_map (met box) others) (meet_of boxes others) header i) [
      | inl j ↦ (let k = each_in ranges box f.0 others header g j in (inl k.0, k.1))
      | inr j ↦ (let k = meet_in ranges boxes others header f.1 g j in (inr k.0, k.1))
    ]

in_meet : (ranges : List ℕ) (boxes others : List (List Span)) (header : List ℕ) → AreBoxes ranges boxes → AreBoxes ranges others → IsIn boxes header → IsIn others header → IsIn (meet_of boxes others) header
in_meet ranges [] others header f g i j = absurd i
in_meet ranges (box ∷ boxes) others header f g (inl i) j = in_left (filter_map (met box) others) (meet_of boxes others) header (in_each ranges box f.0 others header g i j)
in_meet ranges (box ∷ boxes) others header f g (inr i) j = in_right (filter_map (met box) others) (meet_of boxes others) header (in_meet ranges boxes others header f.1 g i j)

region_meet : (ranges : List ℕ) (boxes others : List (List Span)) → AreBoxes ranges boxes → AreApart boxes → IsRegion ranges others → IsRegion ranges (meet_of boxes others)
region_meet ranges [] others f a s = no_region ranges
region_meet ranges (box ∷ boxes) others f a s =
    region_joined ranges (filter_map (met box) others) (meet_of boxes others) (region_each ranges box f.0 others s.formed s.apart) (region_meet ranges boxes others f.1 a.1 s)
    (λ header i j. a.0 header (each_in ranges box f.0 others header s.formed i).0 (meet_in ranges boxes others header f.1 s.formed j).0)

-- the loop over the boxes of the first is at its end
pub meet_ends : (items : List HeaderBox) (at : ℕ) (made all others : List (List Span)) → length items ≤ at → made ++ meet_of (map (λ of. of.spans) (drop at items)) others ≡ all → made ≡ all
meet_ends items at made all others le h = sym (append-nil made) ∙ (sym (at_drop_all (λ (l : List HeaderBox). made ++ meet_of (map (λ of. of.spans) l) others) items at le) ∙ h)

pub meet_region : (ranges : List ℕ) (boxes others made : List (List Span)) → IsRegion ranges boxes → IsRegion ranges others → made ≡ meet_of boxes others → IsRegion ranges made
meet_region ranges boxes others made r s e = subst (λ (l : List (List Span)). IsRegion ranges l) (sym e) (region_meet ranges boxes others r.formed r.apart s)

pub meet_is : (ranges : List ℕ) (boxes others made : List (List Span)) → IsRegion ranges boxes → IsRegion ranges others → made ≡ meet_of boxes others → IsMeet boxes others made
meet_is ranges boxes others made r s e header =
    subst (λ (l : List (List Span)). IsIn l header ↔ (IsIn boxes header × IsIn others header)) (sym e)
    (λ i. meet_in ranges boxes others header r.formed s.formed i, λ i. in_meet ranges boxes others header r.formed s.formed i.0 i.1)

-- ---- the meets of pairs

meets_joined : (ps qs : List (List (List Span) × List (List Span))) (rs ss : List (List (List Span))) → AreMeets ps rs → AreMeets qs ss → AreMeets (ps ++ qs) (rs ++ ss)
meets_joined _ qs _ ss no_pairs n = n
meets_joined _ qs _ ss (no_meet a b ps rs none m) n = no_meet a b (ps ++ qs) (rs ++ ss) none (meets_joined ps qs rs ss m n)
meets_joined _ qs _ ss (one_meet a b region ps rs header i is m) n = one_meet a b region (ps ++ qs) (rs ++ ss) header i is (meets_joined ps qs rs ss m n)

one_pair : (ranges : List ℕ) (a b region : List (List Span)) → IsRegion ranges region → IsMeet a b region → AreMeets ((a, b) ∷ []) (filter has_box (region ∷ []))
one_pair ranges a b [] r is = no_meet a b [] [] (λ header i j. (is header).1 (i, j)) no_pairs
one_pair ranges a b (box ∷ boxes) r is = one_meet a b (box ∷ boxes) [] [] (corner box) (inl (corner_in ranges box r.formed.0)) is no_pairs

pub no_meets : (made : List (List (List Span))) → made ≡ [] → AreMeets [] made
no_meets made e = subst (λ (l : List (List (List Span))). AreMeets [] l) (sym e) no_pairs

-- one region more in the second list
pub meets_more : (ranges : List ℕ) (region other both : List (List Span)) (others old made new : List (List (List Span))) (at : ℕ) → at < length others → other ≡ get_or others at other
    → IsRegion ranges both → IsMeet region other both → new ≡ made ++ filter has_box (both ∷ [])
    → ((done : List (List (List Span) × List (List Span))) → AreMeets done old → AreMeets (done ++ with_each region (take at others)) made)
    → (done : List (List (List Span) × List (List Span))) → AreMeets done old → AreMeets (done ++ with_each region (take (at + 1) others)) new
meets_more ranges region other both others old made new at lt item r is e so_far done m =
    let pairs_are : with_each region (take (at + 1) others) ≡ with_each region (take at others) ++ (region, other) ∷ [] =
    map_more (λ (other : List (List Span)). (region, other)) others at other lt ∙ ap (λ (o : List (List Span)). with_each region (take at others) ++ (region, o) ∷ []) (sym item) in
    subst (λ (l : List (List (List Span))). AreMeets (done ++ with_each region (take (at + 1) others)) l) (sym e)
    (subst (λ (l : List (List (List Span) × List (List Span))). AreMeets l (made ++ filter has_box (both ∷ [])))
    (append_assoc done (with_each region (take at others)) ((region, other) ∷ []) ∙ ap (λ (l : List (List (List Span) × List (List Span))). done ++ l) (sym pairs_are))
    (meets_joined (done ++ with_each region (take at others)) ((region, other) ∷ []) made (filter has_box (both ∷ [])) (so_far done m) (one_pair ranges region other both r is)))

filter_first : (region : List (List Span)) (regions : List (List (List Span))) → filter has_box (region ∷ regions) ≡ filter has_box (region ∷ []) ++ filter has_box regions
filter_first [] regions = refl
filter_first (box ∷ boxes) regions = refl

pub with_more : (region other both : List (List Span)) (others made new all : List (List (List Span))) (at : ℕ) → at < length others → other ≡ get_or others at other → both ≡ meet_of region other
    → new ≡ made ++ filter has_box (both ∷ []) → made ++ meets_with region (drop at others) ≡ all → new ++ meets_with region (drop (at + 1) others) ≡ all
with_more region other both others made new all at lt item is e h =
    ap (λ (l : List (List (List Span))). l ++ meets_with region (drop (at + 1) others)) e
    ∙ (append_assoc made (filter has_box (both ∷ [])) (meets_with region (drop (at + 1) others))
    ∙ (ap (λ (l : List (List (List Span))). made ++ l) (
    ap (λ (b : List (List Span)). filter has_box (b ∷ []) ++ meets_with region (drop (at + 1) others)) (is ∙ ap (meet_of region) item)
    ∙ sym (filter_first (meet_of region (get_or others at other)) (map (meet_of region) (drop (at + 1) others)))
    )
    ∙ (sym (at_drop_more (λ (l : List (List (List Span))). made ++ meets_with region l) others at other lt) ∙ h)))
