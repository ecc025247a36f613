-- The regions of classes are a partition of the headers of their chain.
use Rattle.std.proofs.Common.{◌≡◌, ◌<◌, ◌≤◌, ℕ, zero, suc, Bool, true, false, List, [], ◌∷◌, ◌++◌, length, map, slice_get, Option, Some, None, refl, sym, ◌∙◌, ap, subst, inl, inr, arith, append_assoc, append-nil}
use Rattle.std.specs.Prelude.{drop, ◌==◌, slice_index_or, if◌then◌else◌}
use Rattle.std.specs.List.{filter}
use Rattle.mt_packet.specs.Header.{field_of}
use Rattle.mt_packet.specs.declared.field.Field.{Field}
use Rattle.mt_packet.specs.declared.field.Field.TheVariants.{Device}
use Rattle.mt_packet.specs.declared.span.Span.{Span}
use Rattle.mt_boxes.specs.Boxes.{IsIn, span_at}
use Rattle.mt_cuts.specs.Boxes.{AreSpans, AreBoxes, AreCanonicalBoxes, left_at}
use Rattle.mt_cuts.specs.Boxes.AreSpans.{last_span, more_spans}
use Rattle.mt_cuts.specs.Canonical.{least_of, last_of}
use Rattle.mt_cuts.specs.Leaves.{fields}
use Rattle.mt_cuts.specs.declared.leaves.Leaf.{Leaf}
use Rattle.mt_terms.specs.Trees.{TreeForm, tree_form}
use Rattle.mt_terms.specs.declared.tree.Tree.{Tree}
use Rattle.mt_classes.specs.Partition.{IsPartition, HasClass, AreOnDevices}
use Rattle.mt_synth.specs.Classes.{Class, IsClass, AreClasses, boxes_with, class_form}
use Rattle.mt_synth.specs.Laws.{ClassesPartition}

-- each of some leaves
abbrev Each : (Leaf → Type 0) → List Leaf → Type 0
Each P [] = Unit {0}
Each P (leaf ∷ leaves) = P leaf × Each P leaves

each_more : (P : Leaf → Type 0) (leaves others : List Leaf) → Each P leaves → Each P others → Each P (leaves ++ others)
each_more P [] others h k = k
each_more P (leaf ∷ leaves) others h k = (h.0, each_more P leaves others h.1 k)

each_weaker : (P Q : Leaf → Type 0) → ((leaf : Leaf) → P leaf → Q leaf) → (leaves : List Leaf) → Each P leaves → Each Q leaves
each_weaker P Q f [] h = tt
each_weaker P Q f (leaf ∷ leaves) h = (f leaf h.0, each_weaker P Q f leaves h.1)

-- the spans of a leaf begin with these
abbrev Begins : List Span → Leaf → Type 0
Begins spans leaf = (rest : List Span) × (leaf.spans ≡ spans ++ rest)

begins_before : (spans : List Span) (span : Span) (leaf : Leaf) → Begins (spans ++ span ∷ []) leaf → Begins spans leaf
begins_before spans span leaf h = (span ∷ h.0, h.1 ∙ append_assoc spans (span ∷ []) h.0)

-- the boxes of each span begin with the spans before it
module _ (d : ℕ) (field : Field) (fields : List Field) (again : (spans : List Span) (f : (Field → ℕ) → ℕ) (leaves : List Leaf) → AreBoxes d fields spans f leaves → Each (Begins spans) leaves) (spans : List Span) (f : (Field → ℕ) → ℕ) where
  spans_begin : (from : ℕ) (leaves : List Leaf) → AreSpans d field (AreBoxes d fields) spans f from leaves → Each (Begins spans) leaves
  spans_begin _ _ (last_span from leaves le same behind) =
      each_weaker (Begins (spans ++ record { lo = from; hi = last_of d field } ∷ [])) (Begins spans) (begins_before spans (record { lo = from; hi = last_of d field })) leaves
      (again (spans ++ record { lo = from; hi = last_of d field } ∷ []) (left_at field from f) leaves behind)
  spans_begin _ _ (more_spans from end boxes others le lt same behind differ rest) =
      each_more (Begins spans) boxes others
      (each_weaker (Begins (spans ++ record { lo = from; hi = end } ∷ [])) (Begins spans) (begins_before spans (record { lo = from; hi = end })) boxes
      (again (spans ++ record { lo = from; hi = end } ∷ []) (left_at field from f) boxes behind))
      (spans_begin (suc end) others rest)

boxes_begin : (d : ℕ) (fields : List Field) (spans : List Span) (f : (Field → ℕ) → ℕ) (leaves : List Leaf) → AreBoxes d fields spans f leaves → Each (Begins spans) leaves
boxes_begin d [] spans f leaves h = subst (Each (Begins spans)) (sym h.1) (([], sym (append-nil spans)), tt)
boxes_begin d (field ∷ fields) spans f leaves h = spans_begin d field fields (boxes_begin d fields) spans f (least_of field) leaves h

-- the first span of a leaf is on devices that are there
abbrev OnDevices : ℕ → Leaf → Type 0
OnDevices d leaf = (1 ≤ (span_at leaf.spans 0).lo) × ((span_at leaf.spans 0).hi ≤ d)

on_first : (d lo hi : ℕ) → 1 ≤ lo → hi ≤ d → (leaf : Leaf) → Begins ([] ++ record { lo = lo; hi = hi } ∷ []) leaf → OnDevices d leaf
on_first d lo hi le within leaf h = subst (λ (s : List Span). (1 ≤ (span_at s 0).lo) × ((span_at s 0).hi ≤ d)) (sym h.1) (le, within)

devices_on : (d : ℕ) (fields : List Field) (f : (Field → ℕ) → ℕ) (from : ℕ) (leaves : List Leaf) → 1 ≤ from → AreSpans d Device (AreBoxes d fields) [] f from leaves → Each (OnDevices d) leaves
devices_on d fields f _ _ some (last_span from leaves le same behind) =
    each_weaker (Begins ([] ++ record { lo = from; hi = d } ∷ [])) (OnDevices d) (on_first d from d some (omega arith)) leaves
    (boxes_begin d fields ([] ++ record { lo = from; hi = d } ∷ []) (left_at Device from f) leaves behind)
devices_on d fields f _ _ some (more_spans from end boxes others le lt same behind differ rest) =
    each_more (OnDevices d) boxes others
    (each_weaker (Begins ([] ++ record { lo = from; hi = end } ∷ [])) (OnDevices d) (on_first d from end some (omega (arith, lt))) boxes
    (boxes_begin d fields ([] ++ record { lo = from; hi = end } ∷ []) (left_at Device from f) boxes behind))
    (devices_on d fields f (suc end) others (omega arith) rest)

canonical_on : (d : ℕ) (f : (Field → ℕ) → ℕ) (leaves : List Leaf) → AreCanonicalBoxes d f leaves → Each (OnDevices d) leaves
unfolding AreCanonicalBoxes
canonical_on d f leaves h = devices_on d (drop 1 fields) f 1 leaves (omega arith) h

by_test : (d : ℕ) (spans : List Span) (others : List Leaf) (b : Bool) → (1 ≤ (span_at spans 0).lo) × ((span_at spans 0).hi ≤ d) → AreOnDevices d (map (λ leaf. leaf.spans) others)
    → (leaf : Leaf) → leaf.spans ≡ spans → AreOnDevices d (map (λ leaf. leaf.spans) (if b then leaf ∷ others else others))
by_test d spans others true on h leaf is = (subst (λ (s : List Span). (1 ≤ (span_at s 0).lo) × ((span_at s 0).hi ≤ d)) (sym is) on, h)
by_test d spans others false on h leaf is = h

class_on : (d number : ℕ) (leaves : List Leaf) → Each (OnDevices d) leaves → AreOnDevices d (boxes_with number leaves)
class_on d number [] h = tt
class_on d number (leaf ∷ leaves) h = by_test d leaf.spans (filter (λ leaf. leaf.value == number) leaves) (leaf.value == number) h.0 (class_on d number leaves h.1) leaf refl

-- ---- numbers and regions

abbrev regions : List (List (List Span) × Tree) → List (List (List Span))
regions classes = map (λ class. class.0) classes

region_at : (classes : List (List (List Span) × Tree)) (number : ℕ) (region : List (List Span)) (tree : TreeForm) → IsClass (map class_form classes) number region tree → slice_index_or (regions classes) number [] ≡ region
region_at [] number region tree e = absurd (let q : None ≡ Some (region, tree) = e in cc)
region_at (class ∷ classes) zero region tree e = let q : Some (class_form class) ≡ Some (region, tree) = e in ap (λ (o : Option Class). unwrap_class o) q
  where
    unwrap_class : Option Class → List (List Span)
    unwrap_class None = []
    unwrap_class (Some c) = c.0
region_at (class ∷ classes) (suc number) region tree e = region_at classes number region tree e

-- a region that has a header is that of a class
class_at : (classes : List (List (List Span) × Tree)) (number : ℕ) (header : List ℕ) → HasClass (regions classes) number header
    → (region : List (List Span)) × (tree : TreeForm) × IsClass (map class_form classes) number region tree × IsIn region header
class_at [] number header h = absurd h
class_at (class ∷ classes) zero header h = (class.0, tree_form class.1, refl, h)
class_at (class ∷ classes) (suc number) header h = class_at classes number header h

-- each region is that of a class, or there is none
on_all : (d : ℕ) (classes : List (List (List Span) × Tree)) → ((number : ℕ) (region : List (List Span)) (tree : TreeForm) → IsClass (map class_form classes) number region tree → AreOnDevices d region)
    → (number : ℕ) → AreOnDevices d (slice_index_or (regions classes) number [])
on_all d [] h number = tt
on_all d (class ∷ classes) h zero = h zero class.0 (tree_form class.1) refl
on_all d (class ∷ classes) h (suc number) = on_all d classes (λ n r t e. h (suc n) r t e) number

pub classes_partition : ClassesPartition
classes_partition d some few tree_at classes are = record {
  some = some;
  few = few;
  covered = λ header is. (let c = are.covers header is in (c.0, subst (λ (r : List (List Span)). IsIn r header) (sym (region_at classes c.0 c.1 c.2 c.3)) c.4));
  apart = λ header i j h k. (let a = class_at classes i header h in let b = class_at classes j header k in are.once header i j a.0 b.0 a.1 b.1 a.2 b.2 a.3 b.3);
  on_devices =
      on_all d classes
      (λ number region tree e. subst (AreOnDevices d) (sym (are.boxes.4 number region tree e)) (class_on d number are.boxes.1 (canonical_on d are.boxes.0 are.boxes.1 are.boxes.3)));
}
