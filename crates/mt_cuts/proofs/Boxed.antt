-- The boxes of the leaves are the canonical boxes of the function.
use Rattle.std.proofs.Common.{◌≡◌, ◌+◌, ◌-◌, ◌<◌, ◌≤◌, ℕ, zero, suc, List, [], ◌∷◌, ◌++◌, length, map, Some, Option, slice_get, slice_set, unwrap_or, refl, sym, ◌∙◌, ap, subst, arith, inl, inr, append_assoc, append-nil}
use Rattle.mt_packet.specs.Header.{number_of}
use Rattle.mt_packet.specs.declared.field.Field.{Field}
use Rattle.mt_packet.specs.declared.span.Span.{Span}
use Rattle.mt_packet.specs.declared.field.Field.TheVariants.{Device}
use Rattle.mt_cuts.specs.Tree.{Tree, class, cut, broken, value_of, piece}
use Rattle.mt_cuts.specs.Canonical.{IsRest, least_of, last_of}
use Rattle.mt_cuts.specs.Leaves.{fields, full, up_to, behind, leaves_of}
use Rattle.mt_cuts.specs.Boxes.{with_value, left_at, IsSameAt, AreSpans, last_span, more_spans, AreBoxes, AreCanonicalBoxes}
use Rattle.mt_cuts.proofs.Fields.{Count, fields_count, number_below, cases_field, with_value_same}
use Rattle.mt_cuts.proofs.Trees.{value_low, value_high, value_blind, value_piece, piece_rest, settle}
use Rattle.mt_cuts.proofs.Unique.{unique_from, from_least}

-- the span in the middle of a box
get_mid : (front back : List Span) (x : Span) (n : ℕ) → length front ≡ n → slice_get (front ++ x ∷ back) n ≡ Some x
get_mid [] back x zero is = refl
get_mid [] back x (suc n) is = absurd (omega arith)
get_mid (y ∷ front) back x zero is = absurd (omega arith)
get_mid (y ∷ front) back x (suc n) is = get_mid front back x n (omega arith)

set_mid : (front back : List Span) (x y : Span) (n : ℕ) → length front ≡ n → slice_set (front ++ x ∷ back) n y ≡ front ++ y ∷ back
set_mid [] back x y zero is = refl
set_mid [] back x y (suc n) is = absurd (omega arith)
set_mid (z ∷ front) back x y zero is = absurd (omega arith)
set_mid (z ∷ front) back x y (suc n) is = ap (λ zs. z ∷ zs) (set_mid front back x y n (omega arith))

up_to_mid : (front back : List Span) (x : Span) (f : Field) (e : ℕ) → length front ≡ number_of f → up_to (front ++ x ∷ back) f e ≡ front ++ record { lo = x.lo; hi = e } ∷ back
up_to_mid front back x f e is =
    ap (λ (o : Option Span). slice_set (front ++ x ∷ back) (number_of f) (record { lo = (unwrap_or o (record { lo = 0; hi = 0 })).lo; hi = e })) (get_mid front back x (number_of f) is)
    ∙ set_mid front back x (record { lo = x.lo; hi = e }) (number_of f) is

behind_mid : (front back : List Span) (x : Span) (f : Field) (e : ℕ) → length front ≡ number_of f → behind (front ++ x ∷ back) f e ≡ front ++ record { lo = suc e; hi = x.hi } ∷ back
behind_mid front back x f e is =
    ap (λ (o : Option Span). slice_set (front ++ x ∷ back) (number_of f) (record { lo = suc e; hi = (unwrap_or o (record { lo = 0; hi = 0 })).hi })) (get_mid front back x (number_of f) is)
    ∙ set_mid front back x (record { lo = suc e; hi = x.hi }) (number_of f) is

longer : (front : List Span) (x : Span) (n : ℕ) → length front ≡ n → length (front ++ x ∷ []) ≡ suc n
longer [] x n is = omega arith
longer (y ∷ front) x zero is = absurd (omega arith)
longer (y ∷ front) x (suc n) is = ap suc (longer front x n (omega arith))

-- a function that a tree gives from a value of a field on
Agrees : Field → ℕ → ((Field → ℕ) → ℕ) → Tree → Type 0
Agrees f from F t = (h : Field → ℕ) → from ≤ h f → F h ≡ value_of t h

agrees_at : (f : Field) (from at : ℕ) (F : (Field → ℕ) → ℕ) (t : Tree) → Agrees f from F t → from ≤ at → (h : Field → ℕ) → F (with_value f at h) ≡ value_of t (with_value f at h)
unfolding Agrees
agrees_at f from at F t agrees le h = agrees (with_value f at h) (subst (λ (n : ℕ). from ≤ n) (sym (with_value_same f at h)) le)

-- what is left of it at a value, where the tree is on later fields
left_later : (d : ℕ) (f : Field) (from at : ℕ) (F : (Field → ℕ) → ℕ) (t : Tree) → Agrees f from F t → from ≤ at → IsRest d (suc (number_of f)) 0 t → (h : Field → ℕ) → left_at f at F h ≡ value_of t h
left_later d f from at F t agrees le r h = agrees_at f from at F t agrees le h ∙ value_blind d (suc (number_of f)) 0 f at t h r (omega arith)

-- the fields behind
Boxes : ℕ → Field → List Field → Type 0
Boxes d f fs =
    (front : List Span) (t : Tree) (F : (Field → ℕ) → ℕ) → length front ≡ suc (number_of f) → IsRest d (suc (number_of f)) 0 t → ((h : Field → ℕ) → F h ≡ value_of t h)
    → AreBoxes d fs front F (leaves_of (front ++ map (full d) fs) t)

-- one span
whole_span : (d : ℕ) (f : Field) (fs : List Field) (front : List Span) (from : ℕ) (t : Tree) (F : (Field → ℕ) → ℕ) → Boxes d f fs → length front ≡ number_of f → from ≤ last_of d f → IsRest d (suc (number_of f)) 0 t → Agrees f from F t
    → AreSpans d f (AreBoxes d fs) front F from (leaves_of (front ++ record { lo = from; hi = last_of d f } ∷ map (full d) fs) t)
unfolding Boxes
whole_span d f fs front from t F others is room r agrees =
    last_span from _ room
    (λ at low high h inside. left_later d f from at F t agrees low r h ∙ sym (left_later d f from from F t agrees (omega arith) r h))
    (subst (λ (spans : List Span). AreBoxes d fs (front ++ record { lo = from; hi = last_of d f } ∷ []) (left_at f from F) (leaves_of spans t)) (append_assoc front (record { lo = from; hi = last_of d f } ∷ []) (map (full d) fs))
    (others (front ++ record { lo = from; hi = last_of d f } ∷ []) t (left_at f from F) (longer front (record { lo = from; hi = last_of d f }) (number_of f) is) r (left_later d f from from F t agrees (omega arith) r)))

-- the parts of a cut
agrees_low : (f : Field) (from e : ℕ) (low high : Tree) (F : (Field → ℕ) → ℕ) → Agrees f from F (cut f e low high) → (d at : ℕ) → from ≤ at → at ≤ e → IsRest d (suc (number_of f)) 0 low → (h : Field → ℕ) → left_at f at F h ≡ value_of low h
agrees_low f from e low high F agrees d at le le' r h =
    agrees_at f from at F (cut f e low high) agrees le h
    ∙ (value_low f e low high (with_value f at h) (subst (λ (n : ℕ). n ≤ e) (sym (with_value_same f at h)) le')
    ∙ value_blind d (suc (number_of f)) 0 f at low h r (omega arith))

agrees_high : (f : Field) (from e : ℕ) (low high : Tree) (F : (Field → ℕ) → ℕ) → Agrees f from F (cut f e low high) → from ≤ e → Agrees f (suc e) F high
unfolding Agrees
agrees_high f from e low high F agrees le h above = agrees h (omega arith) ∙ value_high f e low high h above

-- behind an end another function is left
changes_at : (d : ℕ) (f : Field) (from e : ℕ) (low high : Tree) (F : (Field → ℕ) → ℕ) → 0 < d → IsRest d (number_of f) from (cut f e low high) → Agrees f from F (cut f e low high) → IsSameAt d f F e (suc e) → ⊥
changes_at d f from e low high F some r agrees same =
    let at_end : (h : Field → ℕ) → left_at f e F h ≡ value_of low h = agrees_low f from e low high F agrees d e (r.goes_on refl) (omega arith) r.low_rest in
    let behind_rest = piece_rest d f (suc e) (suc e) high r.high_rest in
    let behind_end : (h : Field → ℕ) → left_at f (suc e) F h ≡ value_of (piece f (suc e) high) h =
    (λ h. agrees_at f (suc e) (suc e) F high (agrees_high f from e low high F agrees (r.goes_on refl)) (omega arith) h
    ∙ (sym (value_piece f high (with_value f (suc e) h))
    ∙ (ap (λ (n : ℕ). value_of (piece f n high) (with_value f (suc e) h)) (with_value_same f (suc e) h)
    ∙ value_blind d (suc (number_of f)) 0 f (suc e) (piece f (suc e) high) h behind_rest (omega arith)))) in
    r.apart (unique_from d (24 - suc (number_of f)) (suc (number_of f)) low (piece f (suc e) high) some (omega (arith, number_below f)) r.low_rest behind_rest
    (λ h inside. sym (at_end h) ∙ (same h inside ∙ behind_end h)))

spans_are : (d : ℕ) (f : Field) (fs : List Field) (front : List Span) (from : ℕ) (t : Tree) (F : (Field → ℕ) → ℕ) → 0 < d → Boxes d f fs → length front ≡ number_of f → from ≤ last_of d f → IsRest d (number_of f) from t → Agrees f from F t
    → AreSpans d f (AreBoxes d fs) front F from (leaves_of (front ++ record { lo = from; hi = last_of d f } ∷ map (full d) fs) t)
unfolding Boxes
spans_are d f fs front from (class value) F some others is room r agrees = whole_span d f fs front from (class value) F others is room tt agrees
spans_are d f fs front from broken F some others is room r agrees = absurd r
spans_are d f fs front from (cut g e low high) F some others is room r agrees =
    elim (cases_field g f) [
      | inl same ↦ at_field g same r agrees (λ (r' : IsRest d (number_of f) (suc e) high) (room' : suc e ≤ last_of d f) (agrees' : Agrees f (suc e) F high). spans_are d f fs front (suc e) high F some others is room' r' agrees')
      | inr apart ↦ whole_span d f fs front from (cut g e low high) F others is room (settle f d from g e low high apart r) agrees
    ]
  where
    cut_at : IsRest d (number_of f) from (cut f e low high) → Agrees f from F (cut f e low high)
        → (IsRest d (number_of f) (suc e) high → suc e ≤ last_of d f → Agrees f (suc e) F high → AreSpans d f (AreBoxes d fs) front F (suc e) (leaves_of (front ++ record { lo = suc e; hi = last_of d f } ∷ map (full d) fs) high))
        → AreSpans d f (AreBoxes d fs) front F from (leaves_of (front ++ record { lo = from; hi = last_of d f } ∷ map (full d) fs) (cut f e low high))
    cut_at r agrees further =
        subst (λ (ss : List Span). AreSpans d f (AreBoxes d fs) front F from (leaves_of ss low ++ leaves_of (behind (front ++ record { lo = from; hi = last_of d f } ∷ map (full d) fs) f e) high))
        (sym (up_to_mid front (map (full d) fs) (record { lo = from; hi = last_of d f }) f e is))
        (subst (λ (ss : List Span). AreSpans d f (AreBoxes d fs) front F from (leaves_of (front ++ record { lo = from; hi = e } ∷ map (full d) fs) low ++ leaves_of ss high))
        (sym (behind_mid front (map (full d) fs) (record { lo = from; hi = last_of d f }) f e is))
        (more_spans from e _ _ (r.goes_on refl) r.before_last
        (λ at above below h inside. agrees_low f from e low high F agrees d at above below r.low_rest h ∙ sym (agrees_low f from e low high F agrees d from (omega arith) (r.goes_on refl) r.low_rest h))
        (subst (λ (ss : List Span). AreBoxes d fs (front ++ record { lo = from; hi = e } ∷ []) (left_at f from F) (leaves_of ss low)) (append_assoc front (record { lo = from; hi = e } ∷ []) (map (full d) fs))
        (others (front ++ record { lo = from; hi = e } ∷ []) low (left_at f from F) (longer front (record { lo = from; hi = e }) (number_of f) is) r.low_rest (agrees_low f from e low high F agrees d from (omega arith) (r.goes_on refl) r.low_rest)))
        (changes_at d f from e low high F some r agrees)
        (further r.high_rest r.before_last (agrees_high f from e low high F agrees (r.goes_on refl)))))

    at_field : (g : Field) → g ≡ f → IsRest d (number_of f) from (cut g e low high) → Agrees f from F (cut g e low high)
        → (IsRest d (number_of f) (suc e) high → suc e ≤ last_of d f → Agrees f (suc e) F high → AreSpans d f (AreBoxes d fs) front F (suc e) (leaves_of (front ++ record { lo = suc e; hi = last_of d f } ∷ map (full d) fs) high))
        → AreSpans d f (AreBoxes d fs) front F from (leaves_of (front ++ record { lo = from; hi = last_of d f } ∷ map (full d) fs) (cut g e low high))
    at_field g same r agrees further =
        subst (λ (g : Field). IsRest d (number_of f) from (cut g e low high) → Agrees f from F (cut g e low high) → AreSpans d f (AreBoxes d fs) front F from (leaves_of (front ++ record { lo = from; hi = last_of d f } ∷ map (full d) fs) (cut g e low high)))
        (sym same) (λ r agrees. cut_at r agrees further) r agrees

-- each field has a value
least_below : (d : ℕ) (f : Field) → 0 < d → least_of f ≤ last_of d f
least_below d Device some = omega arith
least_below d _ some = omega arith

boxes_are : (d : ℕ) (fs : List Field) (k : ℕ) (front : List Span) (t : Tree) (F : (Field → ℕ) → ℕ) → 0 < d → Count k fs → k + length fs ≡ 24 → length front ≡ k → IsRest d k 0 t → ((h : Field → ℕ) → F h ≡ value_of t h) → AreBoxes d fs front F (leaves_of (front ++ map (full d) fs) t)
unfolding Boxes Agrees
boxes_are d [] k front (class value) F some c whole is r agrees =
    (value, ap (λ (spans : List Span). record { spans = spans; value = value } ∷ []) (append-nil front), λ h inside. agrees h)
boxes_are d [] k front (cut g e low high) F some c whole is r agrees = absurd (omega (arith, r.rises, number_below g))
boxes_are d [] k front broken F some c whole is r agrees = absurd r
boxes_are d (f ∷ fs) k front t F some c whole is r agrees =
    spans_are d f fs front (least_of f) t F some
    (λ front' t' F' is' r' agrees'. boxes_are d fs (suc (number_of f)) front' t' F' some (subst (λ (n : ℕ). Count (suc n) fs) (sym c.0) c.1) (omega (arith, c.0)) is' r' agrees')
    (is ∙ sym c.0) (least_below d f some) (from_least d f t (subst (λ (n : ℕ). IsRest d n 0 t) (sym c.0) r)) (λ h low. agrees h)

-- all fields
pub leaves_are_boxes : (d : ℕ) (t : Tree) → 0 < d → IsRest d 0 0 t → AreCanonicalBoxes d (value_of t) (leaves_of (map (full d) fields) t)
unfolding AreCanonicalBoxes
leaves_are_boxes d t some r = boxes_are d fields 0 [] t (value_of t) some fields_count refl refl r (λ h. refl)
