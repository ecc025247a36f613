-- The canonical boxes of a function whose values have other names.
use Rattle.std.proofs.Common.{◌≡◌, ◌≤◌, ◌==◌, ℕ, suc, List, [], ◌∷◌, ◌++◌, map, slice_get, Some, refl, sym, ◌∙◌, ap, subst, inl, inr, arith, eq-eqb}
use Rattle.std.proofs.lemmas.Bool.{cond-true, cond-false, cases_eq, ne_eqb}
use Rattle.std.proofs.lemmas.List.{map-append}
use Rattle.mt_packet.specs.Header.{number_of}
use Rattle.mt_packet.specs.declared.field.Field.{Field}
use Rattle.mt_packet.specs.declared.span.Span.{Span}
use Rattle.mt_cuts.specs.Boxes.{with_value, left_at, AreSpans, last_span, more_spans, AreBoxes, AreCanonicalBoxes}
use Rattle.mt_cuts.specs.Canonical.{InDomain, least_of, last_of}
use Rattle.mt_cuts.specs.Leaves.{fields}
use Rattle.mt_cuts.specs.declared.leaves.Leaf.{Leaf}
use Rattle.mt_synth.specs.Classes.{boxes_with}
use Rattle.mt_synth.proofs.AllHeaders.{same_full}
use Rattle.mt_synth.proofs.Collected.{keeps, drops}

-- a leaf with the new name of its value
abbrev pub renamed : (ℕ → ℕ) → Leaf → Leaf
renamed g leaf = record { spans = leaf.spans; value = g leaf.value }

-- no two values of a function have one new name
abbrev pub KeepsApart : ℕ → (ℕ → ℕ) → ((Field → ℕ) → ℕ) → Type 0
KeepsApart d g F = (h k : Field → ℕ) → InDomain d h → InDomain d k → g (F h) ≡ g (F k) → F h ≡ F k

with_in_domain : (d : ℕ) (f : Field) (at : ℕ) (h : Field → ℕ) → least_of f ≤ at → at ≤ last_of d f → InDomain d h → InDomain d (with_value f at h)
with_in_domain d f at h low high is = record { from_least = λ g. (each g).0; to_last = λ g. (each g).1 }
  where
    each : (g : Field) → (least_of g ≤ with_value f at h g) × (with_value f at h g ≤ last_of d g)
    each g = elim (cases_eq (number_of g) (number_of f)) [
      | inl same ↦ (let e = same_full d g f same in
          subst (λ (n : ℕ). (least_of g ≤ n) × (n ≤ last_of d g)) (sym (cond-true (number_of g == number_of f) at (h g) (eq-eqb (number_of g) (number_of f) same)))
          (subst (λ (s : Span). (s.lo ≤ at) × (at ≤ s.hi)) (sym e) (low, high)))
      | inr apart ↦ subst (λ (n : ℕ). (least_of g ≤ n) × (n ≤ last_of d g)) (sym (cond-false (number_of g == number_of f) at (h g) (ne_eqb (number_of g) (number_of f) apart)))
          (is.from_least g, is.to_last g)
    ]

left_apart : (d : ℕ) (g : ℕ → ℕ) (F : (Field → ℕ) → ℕ) (f : Field) (at : ℕ) → least_of f ≤ at → at ≤ last_of d f → KeepsApart d g F → KeepsApart d g (left_at f at F)
left_apart d g F f at low high apart h k a b e = apart (with_value f at h) (with_value f at k) (with_in_domain d f at h low high a) (with_in_domain d f at k low high b) e

-- a box list by the fields that are left
Renames : ℕ → (ℕ → ℕ) → List Field → Type 0
Renames d g fs = (spans : List Span) (F : (Field → ℕ) → ℕ) (boxes : List Leaf) → KeepsApart d g F → AreBoxes d fs spans F boxes → AreBoxes d fs spans (λ h. g (F h)) (map (renamed g) boxes)

spans_renamed : (d : ℕ) (g : ℕ → ℕ) (f : Field) (fs : List Field) (spans : List Span) (F : (Field → ℕ) → ℕ) (from : ℕ) (boxes : List Leaf) → Renames d g fs → least_of f ≤ from → KeepsApart d g F
    → AreSpans d f (AreBoxes d fs) spans F from boxes → AreSpans d f (AreBoxes d fs) spans (λ h. g (F h)) from (map (renamed g) boxes)
unfolding Renames
spans_renamed d g f fs spans F _ _ others low apart (last_span from boxes room same behind) =
    last_span from (map (renamed g) boxes) room (λ at a b h i. ap g (same at a b h i))
    (others (spans ++ record { lo = from; hi = last_of d f } ∷ []) (left_at f from F) boxes (left_apart d g F f from low room apart) behind)
spans_renamed d g f fs spans F _ _ others low apart (more_spans from end boxes rest room before same behind differs further) =
    subst (λ (ls : List Leaf). AreSpans d f (AreBoxes d fs) spans (λ h. g (F h)) from ls) (sym (map-append (renamed g) boxes rest))
    (more_spans from end (map (renamed g) boxes) (map (renamed g) rest) room before (λ at a b h i. ap g (same at a b h i))
    (others (spans ++ record { lo = from; hi = end } ∷ []) (left_at f from F) boxes (left_apart d g F f from low (omega arith) apart) behind)
    (λ q. differs (λ h i. apart (with_value f end h) (with_value f (suc end) h) (with_in_domain d f end h (omega arith) (omega arith) i) (with_in_domain d f (suc end) h (omega arith) (omega arith) i) (q h i)))
    (spans_renamed d g f fs spans F (suc end) rest others (omega arith) apart further))

boxes_renamed : (d : ℕ) (g : ℕ → ℕ) (fs : List Field) (spans : List Span) (F : (Field → ℕ) → ℕ) (boxes : List Leaf) → KeepsApart d g F → AreBoxes d fs spans F boxes → AreBoxes d fs spans (λ h. g (F h)) (map (renamed g) boxes)
unfolding Renames
boxes_renamed d g [] spans F boxes apart are = (g are.0, ap (map (renamed g)) are.1, λ h i. ap g (are.2 h i))
boxes_renamed d g (f ∷ fs) spans F boxes apart are =
    spans_renamed d g f fs spans F (least_of f) boxes (λ spans' F' boxes' apart' are'. boxes_renamed d g fs spans' F' boxes' apart' are') (omega arith) apart are

pub canonical_renamed : (d : ℕ) (g : ℕ → ℕ) (F : (Field → ℕ) → ℕ) (boxes : List Leaf) → KeepsApart d g F → AreCanonicalBoxes d F boxes → AreCanonicalBoxes d (λ h. g (F h)) (map (renamed g) boxes)
unfolding AreCanonicalBoxes
canonical_renamed d g F boxes apart are = boxes_renamed d g fields [] F boxes apart are

-- the boxes of a value are those of its new name
pub boxes_of_name : (g : ℕ → ℕ) (leaves : List Leaf) (value name : ℕ)
    → ((at : ℕ) (leaf : Leaf) → slice_get leaves at ≡ Some leaf → (leaf.value ≡ value → g leaf.value ≡ name) × (g leaf.value ≡ name → leaf.value ≡ value))
    → boxes_with value leaves ≡ boxes_with name (map (renamed g) leaves)
boxes_of_name g [] value name each = refl
boxes_of_name g (leaf ∷ leaves) value name each =
    let rest = boxes_of_name g leaves value name (λ at other e. each (suc at) other e) in
    elim (cases_eq leaf.value value) [
      | inl same ↦ keeps value leaf leaves same ∙ (ap (λ bs. leaf.spans ∷ bs) rest ∙ sym (keeps name (renamed g leaf) (map (renamed g) leaves) ((each 0 leaf refl).0 same)))
      | inr apart ↦ drops value leaf leaves apart ∙ (rest ∙ sym (drops name (renamed g leaf) (map (renamed g) leaves) (λ q. apart ((each 0 leaf refl).1 q))))
    ]
