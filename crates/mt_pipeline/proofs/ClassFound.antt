-- The class of a header of a chain, by the index.
use Rattle.std.proofs.Common.{◌≡◌, ◌∙◌, sym, ap, subst, refl, ℕ, zero, suc, ◌<◌, ◌≤◌, List, [], ◌∷◌, length, map, arith}
use Rattle.std.specs.Prelude.{Option, Some, None, slice_get, slice_index_or, option_map}
use Rattle.std.proofs.Common.{inl, inr}
use Rattle.std.proofs.lemmas.Option.{none-some, same_Some, slice_get-map, slice_get_within}
use Rattle.mt_packet.specs.Header.{InRanges, field_of}
use Rattle.mt_packet.specs.declared.field.Field.{Field}
use Rattle.mt_packet.specs.declared.field.Field.TheVariants as of
use Rattle.mt_packet.specs.declared.span.Span.{Span}
use Rattle.mt_boxes.specs.Boxes.{InBox, IsIn}
use Rattle.mt_cuts.specs.Canonical.{InDomain, last_of, least_of}
use Rattle.mt_classes.specs.Partition.{AreOnDevices, HasClass}
use Rattle.mt_elements.specs.ChainState.{ChainState}
use Rattle.mt_synth.specs.Classes.{Class, IsClass, class_form}
use Rattle.mt_terms.specs.Trees.{TreeForm, tree_form}
use Rattle.mt_terms.specs.declared.tree.Tree.{Tree}
use Rattle.mt_trees.specs.Elements.{tree_of}
use Rattle.mt_pipeline.specs.Contexts.{IsContextOf}
use Rattle.mt_cuts.specs.declared.cut.Cut.{Cut}
use Rattle.mt_elements.specs.declared.chain.Rewriters.{Rewriters}

-- ---- lists

pub got_or : {A : Type 0} (xs : List A) (i : ℕ) (d x : A) → slice_get xs i ≡ Some x → slice_index_or xs i d ≡ x
got_or [] i d x e = absurd (none-some x e)
got_or (y ∷ ys) zero d x e = same_Some y x e
got_or (y ∷ ys) (suc i) d x e = got_or ys i d x e

pub got_none : {A : Type 0} (xs : List A) (i : ℕ) (d : A) → slice_get xs i ≡ None → slice_index_or xs i d ≡ d
got_none [] i d e = refl
got_none (y ∷ ys) zero d e = absurd (none-some y (sym e))
got_none (y ∷ ys) (suc i) d e = got_none ys i d e

of_map : {A B : Type 0} (f : A → B) (found : Option A) (y : B) → option_map f found ≡ Some y → (x : A) × (found ≡ Some x) × (f x ≡ y)
of_map f None y e = absurd (none-some y e)
of_map f (Some x) y e = (x, refl, same_Some (f x) y e)

pub mapped : {A B : Type 0} (f : A → B) (xs : List A) (i : ℕ) (y : B) → slice_get (map f xs) i ≡ Some y → (x : A) × (slice_get xs i ≡ Some x) × (f x ≡ y)
mapped f xs i y e = of_map f (slice_get xs i) y (sym (slice_get-map f xs i) ∙ e)

abbrev Regions : Type 0
Regions = List (List (List Span))

-- a region that has a header is there
pub region_there : (regions : Regions) (number : ℕ) (header : List ℕ) → HasClass regions number header → (region : List (List Span)) × (slice_get regions number ≡ Some region)
region_there [] number header h = absurd h
region_there (region ∷ regions) zero header h = (region, refl)
region_there (region ∷ regions) (suc number) header h = region_there regions number header h

-- ---- devices

in_box_device : (devices : ℕ) (box : List Span) (header : List ℕ) → AreOnDevices devices (box ∷ []) → InBox box header → field_of header of.Device ≤ devices
in_box_device devices [] [] on is = omega arith
in_box_device devices [] (value ∷ values) on is = absurd is
in_box_device devices (span ∷ spans) [] on is = absurd is
in_box_device devices (span ∷ spans) (value ∷ values) on is = let lo = on.0.0 in let hi = on.0.1 in let within = is.0.1 in omega arith

pub on_device : (devices : ℕ) (boxes : List (List Span)) (header : List ℕ) → AreOnDevices devices boxes → IsIn boxes header → field_of header of.Device ≤ devices
on_device devices [] header on is = absurd is
on_device devices (box ∷ boxes) header on (inl here) = in_box_device devices box header (on.0, tt) here
on_device devices (box ∷ boxes) header on (inr there) = on_device devices boxes header on.1 there

-- a header in the ranges of its fields, on one of so many devices
module _ (header : List ℕ) (ranges : InRanges header) (first : 0 < field_of header of.Device) (devices : ℕ) (last : field_of header of.Device ≤ devices) where
  from_least : (field : Field) → least_of field ≤ field_of header field
  from_least of.Device = omega arith
  from_least field = omega arith

  to_last : (field : Field) → field_of header field ≤ last_of devices field
  to_last of.Device = last
  to_last field = ranges.in_range field

  pub in_domain : InDomain devices (field_of header)
  in_domain = record { from_least = from_least; to_last = to_last }

module _ (chain : ChainState) (rewriters : Rewriters) (classes : List (List (List Span) × Tree)) (index : ℕ × Cut) (is : IsContextOf chain rewriters classes index) (header : List ℕ) (whole : length header ≡ 24) (ranges : InRanges header) (first : 0 < field_of header of.Device) (last : field_of header of.Device ≤ chain.entries) where
  abbrev regions : Regions
  regions = map (λ class. class.0) classes

  record Covered : Type 0 where
    number : ℕ
    region : List (List Span)
    tree : TreeForm
    here : IsClass (map class_form classes) number region tree
    in_region : IsIn region header
    means : tree_of chain header ≡ Some tree

  covered : Covered
  covered =
      let c = is.partition.covers header (record { whole = whole; in_domain = in_domain header ranges first chain.entries last }) in
      record { number = c.0; region = c.1; tree = c.2; here = c.3; in_region = c.4; means = c.5 }

  region_is : slice_get regions covered.number ≡ Some covered.region
  region_is =
      let c = mapped class_form classes covered.number (covered.region, covered.tree) covered.here in
      let r : c.0.0 ≡ covered.region = ap (λ (class : Class). class.0) c.2 in
      slice_get-map (λ class. class.0) classes covered.number ∙ ap (option_map (λ class. class.0)) c.1 ∙ ap Some r

  has : HasClass regions covered.number header
  has = subst (λ (r : List (List Span)). IsIn r header) (sym (got_or regions covered.number [] covered.region region_is)) covered.in_region

  pub index_domain : InDomain index.0 (field_of header)
  index_domain = in_domain header ranges first index.0 (on_device index.0 (slice_index_or regions covered.number []) header (is.found.partition.on_devices covered.number) has)

  module _ (class : ℕ) (found : HasClass regions class header) where
    same_number : class ≡ covered.number
    same_number = is.found.partition.apart header class covered.number found has

    pub class_within : class < length classes
    class_within =
        let c = mapped class_form classes covered.number (covered.region, covered.tree) covered.here in
        let w = slice_get_within classes covered.number c.0 c.1 in
        let s = same_number in
        omega arith

    pub class_tree : (pair : List (List Span) × Tree) → slice_get classes class ≡ Some pair → tree_of chain header ≡ Some (tree_form pair.1)
    class_tree pair at =
        let c = mapped class_form classes covered.number (covered.region, covered.tree) covered.here in
        let one : c.0 ≡ pair = same_Some c.0 pair (sym c.1 ∙ ap (slice_get classes) (sym same_number) ∙ at) in
        let t : tree_form c.0.1 ≡ covered.tree = ap (λ (class : Class). class.1) c.2 in
        covered.means ∙ ap Some (sym t ∙ ap (λ (p : List (List Span) × Tree). tree_form p.1) one)

-- some devices
pub some_devices : (devices : ℕ) → (devices ≡ 0 → ⊥) → 0 < devices
some_devices zero h = absurd (h refl)
some_devices (suc devices) h = omega arith
