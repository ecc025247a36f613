-- The trees of two halves, merged: the value of the first unless it is that of no class.
use Rattle.std.proofs.Common.{◌≡◌, ◌∙◌, ◌+◌, ◌⊎◌, ◌<◌, ◌≤◌, ℕ, zero, suc, List, [], ◌∷◌, ◌++◌, length, map, take, drop, inl, inr, refl, sym, ap, subst, arith}
use Rattle.std.specs.Prelude.{◌==◌, if◌then◌else◌}
use Rattle.std.proofs.lemmas.Bool.Decides.{nat_tests}
use Rattle.std.proofs.lemmas.List.{take-append-drop, map-append}
use Rattle.mt_packet.specs.Header.{field_of}
use Rattle.mt_packet.specs.declared.field.Field.{Field}
use Rattle.mt_packet.specs.declared.span.Span.{Span}
use Rattle.mt_boxes.specs.declared.boxes.HeaderBox.{HeaderBox}
use Rattle.mt_boxes.specs.Boxes.{IsIn}
use Rattle.mt_boxes.proofs.Sets.{in_left, in_right, in_either}
use Rattle.mt_cuts.specs.Tree.{Tree, class, value_of}
use Rattle.mt_classes.specs.Partition.{HasClass}
use Rattle.mt_classes.specs.Parts.{Tells, TellsBoxes, TellsClass, TellsClasses}

-- the value of two trees
keep : (x y none : ℕ) → x < none → (if x == none then y else x) ≡ x
keep x y none lt = grind (arith, nat_tests)

other : (x y none : ℕ) → x ≡ none → (if x == none then y else x) ≡ y
other x y none e = grind (arith, nat_tests)

split_map : {A B : Type 0} (f : A → B) (xs : List A) (mid : ℕ) → map f (take mid xs) ++ map f (drop mid xs) ≡ map f xs
split_map f xs mid = sym (map-append f (take mid xs) (drop mid xs)) ∙ ap (map f) (take-append-drop mid xs)

-- ---- boxes

both_boxes : (front back : List (List Span)) (header : List ℕ) (number none x y made : ℕ) → number < none → made ≡ (if x == none then y else x)
    → Tells (IsIn front header) number none x → Tells (IsIn back header) number none y → Tells (IsIn (front ++ back) header) number none made
both_boxes front back header number none x y made lt e (inl i) second =
    let is = i.1 in
    inl (in_left front back header i.0, e ∙ keep x y none (omega (arith, is, lt)) ∙ is)
both_boxes front back header number none x y made lt e (inr o) (inl i) =
    inl (in_right front back header i.0, e ∙ other x y none o.1 ∙ i.1)
both_boxes front back header number none x y made lt e (inr o) (inr p) =
    inr (λ j. (elim (in_either front back header j) [ inl k ↦ o.0 k | inr k ↦ p.0 k ]), e ∙ other x y none o.1 ∙ p.1)

pub boxes_by_halves : (devices number none mid : ℕ) (boxes rest : List HeaderBox) (front back made : Tree) → number < none → rest ≡ drop mid boxes
    → TellsBoxes devices number none (map (λ of. of.spans) (take mid boxes)) front → TellsBoxes devices number none (map (λ of. of.spans) rest) back
    → ((header : Field → ℕ) → value_of made header ≡ (if value_of front header == none then value_of back header else value_of front header))
    → TellsBoxes devices number none (map (λ of. of.spans) boxes) made
boxes_by_halves devices number none mid boxes rest front back made lt is first others value header h =
    let second : TellsBoxes devices number none (map (λ of. of.spans) (drop mid boxes)) back = subst (λ (l : List HeaderBox). TellsBoxes devices number none (map (λ of. of.spans) l) back) is others in
    subst (λ (l : List (List Span)). Tells (IsIn l header) number none (value_of made (field_of header))) (split_map (λ (of : HeaderBox). of.spans) boxes mid)
    (both_boxes (map (λ of. of.spans) (take mid boxes)) (map (λ of. of.spans) (drop mid boxes)) header number none (value_of front (field_of header)) (value_of back (field_of header)) (value_of made (field_of header))
    lt (value (field_of header)) (first header h) (second header h))

-- ---- classes

has_front : (front back : List (List (List Span))) (number : ℕ) (header : List ℕ) → HasClass front number header → HasClass (front ++ back) number header
has_front [] back number header has = absurd has
has_front (region ∷ front) back zero header has = has
has_front (region ∷ front) back (suc number) header has = has_front front back number header has

has_back : (front back : List (List (List Span))) (number at : ℕ) (header : List ℕ) → at ≡ length front + number → HasClass back number header → HasClass (front ++ back) at header
has_back [] back number at header e has = subst (λ (n : ℕ). HasClass back n header) (omega (arith, e)) has
has_back (region ∷ front) back number zero header e has = absurd (omega (arith, e))
has_back (region ∷ front) back number (suc at) header e has = has_back front back number at header (omega (arith, e)) has

has_either : (front back : List (List (List Span))) (number : ℕ) (header : List ℕ) → HasClass (front ++ back) number header
    → HasClass front number header ⊎ ((place : ℕ) × HasClass back place header)
has_either [] back number header has = inr (number, has)
has_either (region ∷ front) back zero header has = inl has
has_either (region ∷ front) back (suc number) header has = has_either front back number header has

pub has_below : (regions : List (List (List Span))) (number : ℕ) (header : List ℕ) → HasClass regions number header → number < length regions
has_below [] number header has = absurd has
has_below (region ∷ regions) zero header has = omega arith
has_below (region ∷ regions) (suc number) header has = let lt = has_below regions number header has in omega (arith, lt)

both_classes : (front back : List (List (List Span))) (header : List ℕ) (first none x y made : ℕ) → first + length front ≤ none → made ≡ (if x == none then y else x)
    → TellsClass first none front header x → TellsClass (first + length front) none back header y → TellsClass first none (front ++ back) header made
both_classes front back header first none x y made le e (inl i) second =
    let lt = has_below front i.0 header i.1.0 in
    let is = i.1.1 in
    inl (i.0, (has_front front back i.0 header i.1.0, e ∙ keep x y none (omega (arith, lt, is, le)) ∙ is))
both_classes front back header first none x y made le e (inr o) (inl i) =
    let is = i.1.1 in
    inl (length front + i.0, (has_back front back i.0 (length front + i.0) header refl i.1.0, e ∙ other x y none o.1 ∙ omega (arith, is)))
both_classes front back header first none x y made le e (inr o) (inr p) =
    inr (λ number has. (elim (has_either front back number header has) [ inl k ↦ o.0 number k | inr k ↦ p.0 k.0 k.1 ]), e ∙ other x y none o.1 ∙ p.1)

took : {A : Type 0} (f : A → List (List Span)) (mid : ℕ) (xs : List A) → mid ≤ length xs → length (map f (take mid xs)) ≡ mid
took f zero xs le = refl
took f (suc mid) [] le = absurd (omega (arith, le))
took f (suc mid) (x ∷ xs) le = let n = took f mid xs (omega (arith, le)) in omega (arith, n)

pub classes_by_halves : {A : Type 0} (region_of : A → List (List Span)) (devices first none mid : ℕ) (classes rest : List A) (front back made : Tree) → first + length classes ≤ none → mid ≤ length classes → rest ≡ drop mid classes
    → TellsClasses devices first none (map region_of (take mid classes)) front → TellsClasses devices (first + mid) none (map region_of rest) back
    → ((header : Field → ℕ) → value_of made header ≡ (if value_of front header == none then value_of back header else value_of front header))
    → TellsClasses devices first none (map region_of classes) made
classes_by_halves {A = A} region_of devices first none mid classes rest front back made le within rest_is tells others_told value header h =
    let others : TellsClasses devices (first + mid) none (map region_of (drop mid classes)) back = subst (λ (l : List A). TellsClasses devices (first + mid) none (map region_of l) back) rest_is others_told in
    let as_many : length (map region_of (take mid classes)) ≡ mid = took region_of mid classes within in
    subst (λ (l : List (List (List Span))). TellsClass first none l header (value_of made (field_of header))) (split_map region_of classes mid)
    (both_classes (map region_of (take mid classes)) (map region_of (drop mid classes)) header first none (value_of front (field_of header)) (value_of back (field_of header)) (value_of made (field_of header))
    (omega (arith, as_many, le, within)) (value (field_of header)) (tells header h)
    (subst (λ (n : ℕ). TellsClass (first + n) none (map region_of (drop mid classes)) header (value_of back (field_of header))) (sym as_many) (others header h)))

-- ---- none and one

pub no_boxes : (devices number none : ℕ) (tree : Tree) → tree ≡ class none → TellsBoxes devices number none [] tree
no_boxes devices number none tree e header h = inr (λ i. i, ap (λ (t : Tree). value_of t (field_of header)) e)

pub no_classes : (devices first none : ℕ) (tree : Tree) → tree ≡ class none → TellsClasses devices first none [] tree
no_classes devices first none tree e header h = inr (λ number i. i, ap (λ (t : Tree). value_of t (field_of header)) e)

no_more : (number : ℕ) (region : List (List Span)) (header : List ℕ) → HasClass (region ∷ []) number header → IsIn region header
no_more zero region header has = has
no_more (suc number) region header has = absurd has

one_told : (number none : ℕ) (region : List (List Span)) (header : List ℕ) (value : ℕ) → Tells (IsIn region header) number none value → TellsClass number none (region ∷ []) header value
one_told number none region header value (inl i) = let is = i.1 in inl (0, (i.0, omega (arith, is)))
one_told number none region header value (inr o) = inr (λ at has. o.0 (no_more at region header has), o.1)

pub one_class : (devices number none : ℕ) (region : List (List Span)) (tree : Tree) → TellsBoxes devices number none region tree → TellsClasses devices number none (region ∷ []) tree
one_class devices number none region tree tells header h = one_told number none region header (value_of tree (field_of header)) (tells header h)
