-- Lists of boxes, one behind the other.
use Rattle.std.proofs.Common.{◌≡◌, ◌⊎◌, ℕ, List, [], ◌∷◌, ◌++◌, map, inl, inr, Bool, true, false, cond, refl, sym, subst}
use Rattle.mt_packet.specs.declared.span.Span.{Span}
use Rattle.mt_boxes.specs.Boxes.{IsWithin, InBox, IsIn, IsBox, AreBoxes, AreApart, IsRegion}

pub in_left : (boxes others : List (List Span)) (header : List ℕ) → IsIn boxes header → IsIn (boxes ++ others) header
in_left [] others header i = absurd i
in_left (box ∷ boxes) others header (inl i) = inl i
in_left (box ∷ boxes) others header (inr i) = inr (in_left boxes others header i)

pub in_right : (boxes others : List (List Span)) (header : List ℕ) → IsIn others header → IsIn (boxes ++ others) header
in_right [] others header i = i
in_right (box ∷ boxes) others header i = inr (in_right boxes others header i)

pub in_either : (boxes others : List (List Span)) (header : List ℕ) → IsIn (boxes ++ others) header → IsIn boxes header ⊎ IsIn others header
in_either [] others header i = inr i
in_either (box ∷ boxes) others header (inl i) = inl (inl i)
in_either (box ∷ boxes) others header (inr i) = elim (in_either boxes others header i) [ inl j ↦ inl (inr j) | inr j ↦ inr j ]

pub boxes_joined : (ranges : List ℕ) (boxes others : List (List Span)) → AreBoxes ranges boxes → AreBoxes ranges others → AreBoxes ranges (boxes ++ others)
boxes_joined ranges [] others f g = g
boxes_joined ranges (box ∷ boxes) others f g = (f.0, boxes_joined ranges boxes others f.1 g)

-- no header is in both sets
abbrev pub Disjoint : List (List Span) → List (List Span) → Type 0
Disjoint boxes others = (header : List ℕ) → IsIn boxes header → IsIn others header → ⊥

pub apart_joined : (boxes others : List (List Span)) → AreApart boxes → AreApart others → Disjoint boxes others → AreApart (boxes ++ others)
apart_joined [] others a b d = b
apart_joined (box ∷ boxes) others a b d = (none, apart_joined boxes others a.1 b (λ header i j. d header (inr i) j))
  where
    none : (header : List ℕ) → InBox box header → IsIn (boxes ++ others) header → ⊥
    none header i j = elim (in_either boxes others header j) [ inl k ↦ a.0 header i k | inr k ↦ d header (inl i) k ]

pub region_joined : (ranges : List ℕ) (boxes others : List (List Span)) → IsRegion ranges boxes → IsRegion ranges others → Disjoint boxes others → IsRegion ranges (boxes ++ others)
region_joined ranges boxes others r s d =
    record { formed = boxes_joined ranges boxes others r.formed s.formed; apart = apart_joined boxes others r.apart s.apart d }

pub no_region : (ranges : List ℕ) → IsRegion ranges []
no_region ranges = record { formed = tt; apart = tt }

pub one_region : (ranges : List ℕ) (box : List Span) → IsBox ranges box → IsRegion ranges (box ∷ [])
one_region ranges box f = record { formed = (f, tt); apart = (λ header i j. j, tt) }

-- one more box
pub region_more : (ranges : List ℕ) (boxes : List (List Span)) (box : List Span) → IsRegion ranges boxes → IsBox ranges box
    → ((header : List ℕ) → InBox box header → IsIn boxes header → ⊥) → IsRegion ranges (boxes ++ box ∷ [])
region_more ranges boxes box r f d = region_joined ranges boxes (box ∷ []) r (one_region ranges box f) both
  where
    both : Disjoint boxes (box ∷ [])
    both header i (inl j) = d header j i
    both header i (inr j) = j

-- a box or none
pub in_one : (b : Bool) (box : List Span) (header : List ℕ) → IsIn (cond b (box ∷ []) []) header → (b ≡ true) × InBox box header
in_one true box header (inl i) = (refl, i)
in_one true box header (inr i) = absurd i
in_one false box header i = absurd i

pub one_in : (b : Bool) (box : List Span) (header : List ℕ) → b ≡ true → InBox box header → IsIn (cond b (box ∷ []) []) header
one_in true box header e i = inl i
one_in false box header e i = absurd cc

pub region_one : (ranges : List ℕ) (b : Bool) (box : List Span) → (b ≡ true → IsBox ranges box) → IsRegion ranges (cond b (box ∷ []) [])
region_one ranges true box f = one_region ranges box (f refl)
region_one ranges false box f = no_region ranges

-- a span in front of each box
abbrev pub under : Span → List (List Span) → List (List Span)
under span boxes = map (λ rest. span ∷ rest) boxes

pub in_under : (span : Span) (boxes : List (List Span)) (value : ℕ) (values : List ℕ) → IsIn (under span boxes) (value ∷ values) → IsWithin span value × IsIn boxes values
in_under span [] value values i = absurd i
in_under span (box ∷ boxes) value values (inl i) = (i.0, inl i.1)
in_under span (box ∷ boxes) value values (inr i) = let j = in_under span boxes value values i in (j.0, inr j.1)

pub under_in : (span : Span) (boxes : List (List Span)) (value : ℕ) (values : List ℕ) → IsWithin span value → IsIn boxes values → IsIn (under span boxes) (value ∷ values)
under_in span [] value values w i = absurd i
under_in span (box ∷ boxes) value values w (inl i) = inl (w, i)
under_in span (box ∷ boxes) value values w (inr i) = inr (under_in span boxes value values w i)

pub none_under : (span : Span) (boxes : List (List Span)) → IsIn (under span boxes) [] → ⊥
none_under span [] i = i
none_under span (box ∷ boxes) (inl i) = i
none_under span (box ∷ boxes) (inr i) = none_under span boxes i

apart_under : (span : Span) (boxes : List (List Span)) → AreApart boxes → AreApart (under span boxes)
apart_under span [] a = tt
apart_under span (box ∷ boxes) a = (none, apart_under span boxes a.1)
  where
    none : (header : List ℕ) → InBox (span ∷ box) header → IsIn (under span boxes) header → ⊥
    none [] i j = i
    none (value ∷ values) i j = a.0 values i.1 (in_under span boxes value values j).1

boxes_under : (last : ℕ) (ranges : List ℕ) (span : Span) (boxes : List (List Span)) → IsBox (last ∷ []) (span ∷ []) → AreBoxes ranges boxes → AreBoxes (last ∷ ranges) (under span boxes)
boxes_under last ranges span [] f g = tt
boxes_under last ranges span (box ∷ boxes) f g = ((f.0, g.0), boxes_under last ranges span boxes f g.1)

pub region_under : (last : ℕ) (ranges : List ℕ) (span : Span) (boxes : List (List Span)) → IsBox (last ∷ []) (span ∷ []) → IsRegion ranges boxes → IsRegion (last ∷ ranges) (under span boxes)
region_under last ranges span boxes f r = record { formed = boxes_under last ranges span boxes f r.formed; apart = apart_under span boxes r.apart }

-- one more box behind the boxes that are seen
pub region_pushed : (ranges : List ℕ) (seen old new : List (List Span)) (box : List Span) → seen ≡ old → new ≡ seen ++ box ∷ [] → IsRegion ranges seen → IsBox ranges box
    → ((header : List ℕ) → InBox box header → IsIn old header → ⊥) → IsRegion ranges new
region_pushed ranges seen old new box same e r f d =
    let P : List (List Span) → Type 0 = λ boxes. IsRegion ranges boxes in
    let Q : List (List Span) → Type 0 = λ boxes. (header : List ℕ) → InBox box header → IsIn boxes header → ⊥ in
    subst P (sym e) (region_more ranges seen box r f (subst Q (sym same) d))
