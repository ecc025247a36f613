-- The least header of boxes.
use Rattle.std.proofs.Common.{◌≡◌, ◌∙◌, ◌+◌, ◌<◌, ℕ, zero, suc, List, [], ◌∷◌, ◌++◌, length, map, take, get_or, Bool, true, false, cond, inl, inr, refl, sym, ap, subst, arith}
use Rattle.std.specs.Prelude.{◌==◌, nat_lt, Some, slice_get}
use Rattle.std.specs.Cmp.Lexicographic.{slice_partial_cmp}
use Rattle.std.specs.Ordering.{nat_cmp, is_lt, is_some_and}
use Rattle.std.proofs.lemmas.Bool.{cases_lt, eqb-true, eqb-false, ltb-true, ltb-false}
use Rattle.std.proofs.lemmas.Bool.Decides.{nat_tests}
use Rattle.std.proofs.lemmas.Cmp.{same_from_slice_cmp_tested}
use Rattle.std.proofs.lemmas.List.{map_more}
use Rattle.std.proofs.lemmas.Option.{same_Some}
use Rattle.mt_packet.specs.declared.span.Span.{Span}
use Rattle.mt_boxes.specs.declared.boxes.HeaderBox.{HeaderBox}
use Rattle.mt_boxes.specs.Boxes.{InBox, IsIn, IsRegion, corner, header_ranges}
use Rattle.mt_boxes.specs.Least.{IsAtMost}
use Rattle.mt_boxes.proofs.Sets.{in_either}
use Rattle.mt_boxes.proofs.Meets.{corner_in}

-- a header of the region that is at most each header of some boxes
pub record IsLowest (region boxes : List (List Span)) (least : List ℕ) : Type 0 where
  pub found : IsIn region least
  pub lowest : (other : List ℕ) → IsIn boxes other → IsAtMost least other

pub corner_least : (spans : List Span) (header : List ℕ) → InBox spans header → IsAtMost (corner spans) header
corner_least [] header i = tt
corner_least (span ∷ spans) [] i = absurd i
corner_least (span ∷ spans) (value ∷ values) i =
    let rest = corner_least spans values i.1 in
    elim (cases_lt span.lo value) [ inl less ↦ inl less | inr upto ↦ inr (omega arith, rest) ]

pub at_most_itself : (values : List ℕ) → IsAtMost values values
at_most_itself [] = tt
at_most_itself (value ∷ values) = inr (refl, at_most_itself values)

pub at_most_along : (x y z : List ℕ) → IsAtMost x y → IsAtMost y z → IsAtMost x z
at_most_along [] y z p q = tt
at_most_along (a ∷ x) [] z p q = absurd p
at_most_along (a ∷ x) (b ∷ y) [] p q = absurd q
at_most_along (a ∷ x) (b ∷ y) (c ∷ z) (inl p) (inl q) = inl (omega arith)
at_most_along (a ∷ x) (b ∷ y) (c ∷ z) (inl p) (inr q) = let e = q.0 in inl (omega (arith, e))
at_most_along (a ∷ x) (b ∷ y) (c ∷ z) (inr p) (inl q) = let e = p.0 in inl (omega (arith, e))
at_most_along (a ∷ x) (b ∷ y) (c ∷ z) (inr p) (inr q) = inr (p.0 ∙ q.0, at_most_along x y z p.1 q.1)

-- ---- the test of the code

abbrev is_below : List ℕ → List ℕ → Bool
is_below [] [] = false
is_below [] (other ∷ others) = true
is_below (value ∷ values) [] = false
is_below (value ∷ values) (other ∷ others) = cond (value == other) (is_below values others) (nat_lt value other)

is_tested : (values others : List ℕ) (b : Bool) → b ≡ is_some_and is_lt (slice_partial_cmp (λ x y. Some (nat_cmp x y)) values others) → b ≡ is_below values others
is_tested = same_from_slice_cmp_tested nat_cmp is_lt is_below refl (λ _ _. refl) (λ _ _. refl) (λ x y xs ys o h. grind (arith, nat_tests))

below_at_most : (values others : List ℕ) → length values ≡ length others → is_below values others ≡ true → IsAtMost values others
below_at_most [] others n e = tt
below_at_most (value ∷ values) [] n e = absurd (omega arith)
below_at_most (value ∷ values) (other ∷ others) n e = by_test (value == other) refl e (below_at_most values others (omega arith))
  where
    by_test : (b : Bool) → (value == other) ≡ b → cond b (is_below values others) (nat_lt value other) ≡ true
        → (is_below values others ≡ true → IsAtMost values others) → IsAtMost (value ∷ values) (other ∷ others)
    by_test true t e rest = inr (eqb-true value other t, rest e)
    by_test false t e rest = inl (ltb-true value other e)

not_below_at_most : (values others : List ℕ) → length values ≡ length others → is_below values others ≡ false → IsAtMost others values
not_below_at_most [] [] n e = tt
not_below_at_most [] (other ∷ others) n e = absurd (omega arith)
not_below_at_most (value ∷ values) [] n e = absurd (omega arith)
not_below_at_most (value ∷ values) (other ∷ others) n e = by_test (value == other) refl e (not_below_at_most values others (omega arith))
  where
    by_test : (b : Bool) → (value == other) ≡ b → cond b (is_below values others) (nat_lt value other) ≡ false
        → (is_below values others ≡ false → IsAtMost others values) → IsAtMost (other ∷ others) (value ∷ values)
    by_test true t e rest = inr (sym (eqb-true value other t), rest e)
    by_test false t e rest = let apart = eqb-false value other t in let from = ltb-false value other e in inl (omega arith)

pub less_at_most : (values others : List ℕ) (b : Bool) → length values ≡ length others → b ≡ is_some_and is_lt (slice_partial_cmp (λ x y. Some (nat_cmp x y)) values others) → b ≡ true → IsAtMost values others
less_at_most values others b n e t = below_at_most values others n (sym (is_tested values others b e) ∙ t)

pub not_less_at_most : (values others : List ℕ) (b : Bool) → length values ≡ length others → b ≡ is_some_and is_lt (slice_partial_cmp (λ x y. Some (nat_cmp x y)) values others) → b ≡ false → IsAtMost others values
not_less_at_most values others b n e t = not_below_at_most values others n (sym (is_tested values others b e) ∙ t)

-- ---- the loop over the boxes

box_in : (boxes : List HeaderBox) (at : ℕ) (of : HeaderBox) → at < length boxes → IsRegion header_ranges (map (λ of. of.spans) boxes) → IsIn (map (λ of. of.spans) boxes) (corner (get_or boxes at of).spans)
box_in [] at of lt r = absurd (omega (arith, lt))
box_in (first ∷ boxes) zero of lt r = inl (corner_in header_ranges first.spans r.formed.0)
box_in (first ∷ boxes) (suc at) of lt r = inr (box_in boxes at of (omega arith) (record { formed = r.formed.1; apart = r.apart.1 }))

pub lowest_starts : (region : List (List Span)) (boxes : List HeaderBox) (first : HeaderBox) (least : List ℕ) → map (λ of. of.spans) boxes ≡ region → IsRegion header_ranges region
    → Some first ≡ slice_get boxes 0 → least ≡ corner first.spans → IsLowest region [] least
lowest_starts region [] first least same r got e = absurd cc
lowest_starts region (of ∷ boxes) first least same r got e =
    let is : corner of.spans ≡ least = ap (λ (of : HeaderBox). corner of.spans) (same_Some of first (sym got)) ∙ sym e in
    let here : IsRegion header_ranges (map (λ of. of.spans) (of ∷ boxes)) = subst (λ (l : List (List Span)). IsRegion header_ranges l) (sym same) r in
    record {
      found = subst (λ (l : List (List Span)). IsIn l least) same (subst (λ (values : List ℕ). IsIn (map (λ of. of.spans) (of ∷ boxes)) values) is (inl (corner_in header_ranges of.spans here.formed.0)));
      lowest = λ other i. absurd i;
    }

-- one box more
module _ (region boxes : List (List Span)) (box : List Span) (least : List ℕ) (w : IsLowest region boxes least) where
  pub lowest_stays : IsAtMost least (corner box) → IsLowest region (boxes ++ box ∷ []) least
  lowest_stays m = record { found = w.found; lowest = all }
    where
      all : (other : List ℕ) → IsIn (boxes ++ box ∷ []) other → IsAtMost least other
      all other i =
          elim (in_either boxes (box ∷ []) other i) [
            | inl j ↦ w.lowest other j
            | inr j ↦ (elim j [ inl k ↦ at_most_along least (corner box) other m (corner_least box other k) | inr k ↦ absurd k ])
          ]

  pub lowest_moves : IsIn region (corner box) → IsAtMost (corner box) least → IsLowest region (boxes ++ box ∷ []) (corner box)
  lowest_moves f m = record { found = f; lowest = all }
    where
      all : (other : List ℕ) → IsIn (boxes ++ box ∷ []) other → IsAtMost (corner box) other
      all other i =
          elim (in_either boxes (box ∷ []) other i) [
            | inl j ↦ at_most_along (corner box) least other m (w.lowest other j)
            | inr j ↦ (elim j [ inl k ↦ corner_least box other k | inr k ↦ absurd k ])
          ]

module _ (region : List (List Span)) (boxes : List HeaderBox) (at : ℕ) (of : HeaderBox) (least corner_of : List ℕ) (same : map (λ of. of.spans) boxes ≡ region) (r : IsRegion header_ranges region)
    (lt : at < length boxes) (is : corner_of ≡ corner (get_or boxes at of).spans) (w : IsLowest region (map (λ of. of.spans) (take at boxes)) least) where
  more : map (λ of. of.spans) (take at boxes) ++ (get_or boxes at of).spans ∷ [] ≡ map (λ of. of.spans) (take (at + 1) boxes)
  more = sym (map_more (λ (of : HeaderBox). of.spans) boxes at of lt)

  pub lowest_kept : IsAtMost least corner_of → (new : List ℕ) → new ≡ least → IsLowest region (map (λ of. of.spans) (take (at + 1) boxes)) new
  lowest_kept m new e =
      subst (λ (values : List ℕ). IsLowest region (map (λ of. of.spans) (take (at + 1) boxes)) values) (sym e)
      (subst (λ (l : List (List Span)). IsLowest region l least) more
      (lowest_stays region (map (λ of. of.spans) (take at boxes)) (get_or boxes at of).spans least w (subst (IsAtMost least) is m)))

  pub lowest_moved : IsAtMost corner_of least → (new : List ℕ) → new ≡ corner_of → IsLowest region (map (λ of. of.spans) (take (at + 1) boxes)) new
  lowest_moved m new e =
      let here = box_in boxes at of lt (subst (λ (l : List (List Span)). IsRegion header_ranges l) (sym same) r) in
      subst (λ (values : List ℕ). IsLowest region (map (λ of. of.spans) (take (at + 1) boxes)) values) (sym (e ∙ is))
      (subst (λ (l : List (List Span)). IsLowest region l (corner (get_or boxes at of).spans)) more
      (lowest_moves region (map (λ of. of.spans) (take at boxes)) (get_or boxes at of).spans least w
      (subst (λ (l : List (List Span)). IsIn l (corner (get_or boxes at of).spans)) same here) (subst (λ (values : List ℕ). IsAtMost values least) is m)))
