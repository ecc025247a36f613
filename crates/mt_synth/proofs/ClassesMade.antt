-- The classes of a canonical tree from its leaves, their numbers and their regions.
use Rattle.std.proofs.Common.{◌≡◌, ◌<◌, ◌≤◌, ℕ, zero, suc, List, [], ◌∷◌, length, map, slice_get, unwrap_or, Option, Some, None, option_map, refl, sym, ◌∙◌, ap, subst, arith}
use Rattle.std.proofs.lemmas.Option.{slice_get_within}
use Rattle.mt_packet.specs.Header.{field_of}
use Rattle.mt_packet.specs.declared.field.Field.{Field}
use Rattle.mt_packet.specs.declared.span.Span.{Span}
use Rattle.mt_boxes.specs.Boxes.{IsIn, IsBox, corner, header_ranges}
use Rattle.mt_boxes.proofs.Meets.{corner_in}
use Rattle.mt_cuts.specs.Tree.{value_of, Tree as CutTree}
use Rattle.mt_cuts.specs.Boxes.{AreCanonicalBoxes}
use Rattle.mt_cuts.specs.Canonical.{InDomain, IsCanonical}
use Rattle.mt_cuts.specs.Leaves.{fields, full, leaves_of}
use Rattle.mt_cuts.specs.declared.leaves.Leaf.{Leaf}
use Rattle.mt_terms.specs.Trees.{TreeForm, tree_form}
use Rattle.mt_terms.specs.declared.tree.Tree.{Tree}
use Rattle.mt_synth.specs.declared.fault.SynthFault.{SynthFault}
use Rattle.mt_synth.specs.declared.fault.SynthFault.TheVariants.{TooManyClasses, NoMemory}
use Rattle.mt_cuts.specs.Headers.{IsHeaderOf}
use Rattle.mt_synth.specs.Classes.{Class, IsClass, boxes_with, AreClasses, IsFaultOf, tree_at}
use Rattle.mt_synth.specs.Collecting.{AreCollected, AreApart}
use Rattle.mt_synth.specs.Numbering.{IsNumbering, Occurs, AreTooMany}
use Rattle.mt_synth.proofs.AllHeaders.{all_fits, in_all, all_in, listed_is, listed_header}
use Rattle.mt_synth.proofs.Collected.{leaf_of_box, box_of_leaf}
use Rattle.mt_synth.proofs.LeafBoxes.{AreLeaves, leaves_within}
use Rattle.mt_synth.proofs.Places.{same_Some, one_at, there, map_there, map_from}
use Rattle.mt_synth.proofs.Renamed.{KeepsApart, renamed, canonical_renamed, boxes_of_name}

-- a header for each of some values
headers_for : (P : ℕ → List ℕ → Type 0) (chosen : List ℕ) → ((value i : ℕ) → slice_get chosen i ≡ Some value → (header : List ℕ) × P value header)
    → (headers : List (List ℕ)) × (length headers ≡ length chosen) × ((header : List ℕ) (i : ℕ) → slice_get headers i ≡ Some header → (value : ℕ) × (slice_get chosen i ≡ Some value) × P value header)
headers_for P [] each = ([], refl, λ header i e. absurd (let q : None ≡ Some header = e in cc))
headers_for P (value ∷ chosen) each =
    let first = each value 0 refl in let rest = headers_for P chosen (λ v i e. each v (suc i) e) in
    (first.0 ∷ rest.0, ap suc rest.1, λ header i e. at first.0 first.1 rest.0 rest.2 header i e)
  where
    at : (one : List ℕ) → P value one → (others : List (List ℕ)) → ((header : List ℕ) (i : ℕ) → slice_get others i ≡ Some header → (v : ℕ) × (slice_get chosen i ≡ Some v) × P v header)
        → (header : List ℕ) (i : ℕ) → slice_get (one ∷ others) i ≡ Some header → (v : ℕ) × (slice_get (value ∷ chosen) i ≡ Some v) × P v header
    at one p others behind header zero e = (value, refl, subst (P value) (same_Some one header e) p)
    at one p others behind header (suc i) e = behind header i e

-- the number of a value
number_in : List (Option ℕ) → ℕ → ℕ
number_in numbers value = unwrap_or (unwrap_or (slice_get numbers value) None) 0

number_is : (numbers : List (Option ℕ)) (value number : ℕ) → slice_get numbers value ≡ Some (Some number) → number_in numbers value ≡ number
unfolding number_in
number_is numbers value number e = ap (λ (o : Option (Option ℕ)). unwrap_or (unwrap_or o None) 0) e

module _ (d : ℕ) (t : CutTree) (trees : List Tree) (leaves : List Leaf) (some : 0 < d) (few : d ≤ 32) (canonical : IsCanonical d t)
    (named : (header : Field → ℕ) → InDomain d header → value_of t header < length trees)
    (apart : (i j : ℕ) (t u : Tree) → slice_get trees i ≡ Some t → slice_get trees j ≡ Some u → tree_form t ≡ tree_form u → i ≡ j)
    (all : leaves ≡ leaves_of (map (full d) fields) t) where
  shared : AreLeaves (map (full d) fields) 0 (value_of t) leaves
  shared = subst (AreLeaves (map (full d) fields) 0 (value_of t)) (sym all) (leaves_within d 0 0 (map (full d) fields) t (all_fits d some few) canonical)

  -- the least header of a leaf
  leaf_header : (at : ℕ) (leaf : Leaf) → slice_get leaves at ≡ Some leaf → IsHeaderOf d (corner leaf.spans) × (value_of t (field_of (corner leaf.spans)) ≡ leaf.value)
  leaf_header at leaf e =
      let i = corner_in header_ranges leaf.spans (shared.formed at leaf e) in
      (all_in d (corner leaf.spans) (shared.inside at leaf (corner leaf.spans) e i), shared.value at leaf (corner leaf.spans) e i)

  pub leaves_named : (at : ℕ) (leaf : Leaf) → slice_get leaves at ≡ Some leaf → leaf.value < length trees
  leaves_named at leaf e = let h = leaf_header at leaf e in subst (λ (v : ℕ). v < length trees) h.1 (named (field_of (corner leaf.spans)) h.0.in_domain)

  pub leaves_formed : (at : ℕ) (leaf : Leaf) → slice_get leaves at ≡ Some leaf → IsBox header_ranges leaf.spans
  leaves_formed at leaf e = shared.formed at leaf e

  pub leaves_apart : AreApart leaves
  leaves_apart i j leaf other header e f m n = shared.apart i j leaf other header e f m n

  -- two headers of one tree have one value
  same_value : (a b : List ℕ) (v w : ℕ) → IsHeaderOf d a → IsHeaderOf d b → value_of t (field_of a) ≡ v → value_of t (field_of b) ≡ w → tree_at t trees a ≡ tree_at t trees b → v ≡ w
  same_value a b v w is has e f same =
      let x = there trees (value_of t (field_of a)) (named (field_of a) is.in_domain) in
      let y = there trees (value_of t (field_of b)) (named (field_of b) has.in_domain) in
      let forms : Some (tree_form x.0) ≡ Some (tree_form y.0) = sym (ap (option_map tree_form) x.1) ∙ (same ∙ ap (option_map tree_form) y.1) in
      sym e ∙ (apart (value_of t (field_of a)) (value_of t (field_of b)) x.0 y.0 x.1 y.1 (same_Some (tree_form x.0) (tree_form y.0) forms) ∙ f)

  HasValue : ℕ → List ℕ → Type 0
  HasValue value header = IsHeaderOf d header × (value_of t (field_of header) ≡ value)

  header_of_value : (value : ℕ) → Occurs (map (λ leaf. leaf.value) leaves) value → (header : List ℕ) × HasValue value header
  unfolding HasValue
  header_of_value value o =
      let f = map_from (λ (leaf : Leaf). leaf.value) leaves o.0 value o.1 in
      let h = leaf_header o.0 f.0 f.1 in (corner f.0.spans, (h.0, h.1 ∙ f.2))

  pub too_many_classes : (fault : SynthFault) → AreTooMany (map (λ leaf. leaf.value) leaves) fault → IsFaultOf d (tree_at t trees) fault
  unfolding HasValue
  too_many_classes NoMemory many = tt
  too_many_classes (TooManyClasses count) many =
      let chosen = many.1.0 in
      let h = headers_for HasValue chosen (λ value i e. header_of_value value (many.1.2 value i e)) in (
        many.0,
        (
          h.0,
          h.1 ∙ many.1.1,
          (λ header i e. (h.2 header i e).2.0),
          λ i j a b e f same. (let x = h.2 a i e in let y = h.2 b j f in
              let one = same_value a b x.0 y.0 x.2.0 y.2.0 x.2.1 y.2.1 same in
              many.1.3 i j y.0 (subst (λ (v : ℕ). slice_get chosen i ≡ Some v) one x.1) y.1),
        ),
      )

  module _ (numbers : List (Option ℕ)) (order : List ℕ) (classes : List Class) (canonical_boxes : AreCanonicalBoxes d (value_of t) leaves)
      (is : IsNumbering (map (λ leaf. leaf.value) leaves) numbers order) (are : AreCollected trees order leaves classes) where
    -- what a class is
    class_is : (k : ℕ) (region : List (List Span)) (tree : TreeForm) → IsClass classes k region tree
        → (value : ℕ) × (slice_get order k ≡ Some value) × (stands : Tree) × (slice_get trees value ≡ Some stands) × (region ≡ boxes_with value leaves) × (tree ≡ tree_form stands)
    class_is k region tree e =
        let w = slice_get_within classes k (region, tree) e in let n = are.as_many in
        let v = there order k (omega (arith, w, n)) in
        let c = are.each k v.0 v.1 in
        let same = one_at classes k (region, tree) (boxes_with v.0 leaves, tree_form c.0) e c.2 in
        (v.0, v.1, c.0, c.1, ap (λ (c : Class). c.0) same, ap (λ (c : Class). c.1) same)

    one_number : (i j v w : ℕ) → slice_get order i ≡ Some v → slice_get order j ≡ Some w → v ≡ w → i ≡ j
    one_number i j v w e f same =
        same_Some i j (same_Some (Some i) (Some j) (sym (is.back v i e) ∙ (ap (slice_get numbers) same ∙ is.back w j f)))

    value_in : (value : ℕ) (header : List ℕ) → IsIn (boxes_with value leaves) header → value_of t (field_of header) ≡ value
    value_in value header i = let f = leaf_of_box value leaves header i in shared.value f.0 f.1 header f.2 f.4 ∙ f.3

    region_value : (k v : ℕ) (region : List (List Span)) (header : List ℕ) → region ≡ boxes_with v leaves → IsIn region header → value_of t (field_of header) ≡ v
    region_value k v region header r i = value_in v header (subst (λ (bs : List (List Span)). IsIn bs header) r i)

    -- the class of a header
    class_at : (header : List ℕ) → IsHeaderOf d header
        → (number : ℕ) × (value : ℕ) × (tree : Tree) × (value_of t (field_of header) ≡ value) × (slice_get numbers value ≡ Some (Some number)) × (slice_get trees value ≡ Some tree)
        × IsClass classes number (boxes_with value leaves) (tree_form tree) × IsIn (boxes_with value leaves) header
    class_at header has =
        let m = shared.covers header (in_all d header has) in
        let n = is.numbered m.1.value (m.0, map_there (λ (leaf : Leaf). leaf.value) leaves m.0 m.1 m.2) in
        let c = are.each n.0 m.1.value (is.place m.1.value n.0 n.1) in
        (n.0, m.1.value, c.0, shared.value m.0 m.1 header m.2 m.3, n.1, c.1, c.2, box_of_leaf m.1.value leaves header m.0 m.1 m.2 refl m.3)

    number_at : (Field → ℕ) → ℕ
    number_at header = number_in numbers (value_of t header)

    pub classes_made : AreClasses d (tree_at t trees) classes
    unfolding number_at
    classes_made = record {
      covers = λ header has. (let c = class_at header has in
          (c.0, boxes_with c.1 leaves, tree_form c.2, c.6, c.7, ap (λ v. option_map tree_form (slice_get trees v)) c.3 ∙ ap (option_map tree_form) c.5));
      had = λ number region tree e. (let a = class_is number region tree e in
          let o = is.occurs a.0 number a.1 in
          let l = map_from (λ (leaf : Leaf). leaf.value) leaves o.0 a.0 o.1 in
          let h = leaf_header o.0 l.0 l.1 in
          let c = corner_in header_ranges l.0.spans (shared.formed o.0 l.0 l.1) in
          (corner l.0.spans, h.0, subst (λ (bs : List (List Span)). IsIn bs (corner l.0.spans)) (sym a.4) (box_of_leaf a.0 leaves (corner l.0.spans) o.0 l.0 l.1 l.2 c)));
      once = λ header i j r s u w e f m n. (let a = class_is i r u e in let b = class_is j s w f in
          one_number i j a.0 b.0 a.1 b.1 (sym (region_value i a.0 r header a.4 m) ∙ region_value j b.0 s header b.4 n));
      apart = λ i j r s tree e f. (let a = class_is i r tree e in let b = class_is j s tree f in
          one_number i j a.0 b.0 a.1 b.1 (apart a.0 b.0 a.2 b.2 a.3 b.3 (sym a.5 ∙ b.5)));
      ascend = λ i j r s u w e f lt other m. (let a = class_is i r u e in let b = class_is j s w f in
          let q = leaf_of_box b.0 leaves other (subst (λ (bs : List (List Span)). IsIn bs other) b.4 m) in
          let p = is.first i j q.0 a.0 b.0 lt a.1 b.1 (map_there (λ (leaf : Leaf). leaf.value) leaves q.0 q.1 q.2 ∙ ap Some q.3) in
          let l = map_from (λ (leaf : Leaf). leaf.value) leaves p.0 a.0 p.2 in
          let c = corner_in header_ranges l.0.spans (shared.formed p.0 l.0 l.1) in (
            corner l.0.spans,
            subst (λ (bs : List (List Span)). IsIn bs (corner l.0.spans)) (sym a.4) (box_of_leaf a.0 leaves (corner l.0.spans) p.0 l.0 l.1 l.2 c),
            shared.ascend p.0 q.0 l.0 q.1 other p.1 l.1 q.2 q.4,
          ));
      boxes = (
        number_at,
        map (renamed (number_in numbers)) leaves,
        (λ header has. (let c = class_at header has in
            let n : c.0 ≡ number_at (field_of header) = sym (ap (number_in numbers) c.3 ∙ number_is numbers c.1 c.0 c.4) in
            (boxes_with c.1 leaves, tree_form c.2, subst (λ (k : ℕ). IsClass classes k (boxes_with c.1 leaves) (tree_form c.2)) n c.6, c.7))),
        canonical_renamed d (number_in numbers) (value_of t) leaves kept_apart canonical_boxes,
        (λ number region tree e. (let a = class_is number region tree e in a.4 ∙ boxes_of_name (number_in numbers) leaves a.0 number (λ at leaf here. one_name number a.0 a.1 at leaf here))),
      );
    }
      where
        values_apart : (v w : ℕ) → Occurs (map (λ leaf. leaf.value) leaves) v → Occurs (map (λ leaf. leaf.value) leaves) w → number_in numbers v ≡ number_in numbers w → v ≡ w
        values_apart v w o p e =
            let n = is.numbered v o in let m = is.numbered w p in
            let same : n.0 ≡ m.0 = sym (number_is numbers v n.0 n.1) ∙ (e ∙ number_is numbers w m.0 m.1) in
            same_Some v w (sym (is.place v n.0 n.1) ∙ (ap (slice_get order) same ∙ is.place w m.0 m.1))

        one_name : (number value : ℕ) → slice_get order number ≡ Some value → (at : ℕ) (leaf : Leaf) → slice_get leaves at ≡ Some leaf
            → (leaf.value ≡ value → number_in numbers leaf.value ≡ number) × (number_in numbers leaf.value ≡ number → leaf.value ≡ value)
        one_name number value o at leaf here =
            let n = number_is numbers value number (is.back value number o) in (
              (λ same. ap (number_in numbers) same ∙ n),
              (λ same. values_apart leaf.value value (at, map_there (λ (leaf : Leaf). leaf.value) leaves at leaf here) (is.occurs value number o) (same ∙ sym n)),
            )

        kept_apart : KeepsApart d (number_in numbers) (value_of t)
        kept_apart h k a b e =
            let x = class_at (map h fields) (listed_header d h a) in let y = class_at (map k fields) (listed_header d k b) in
            let v : value_of t h ≡ x.1 = ap (value_of t) (sym (listed_is h)) ∙ x.3 in let w : value_of t k ≡ y.1 = ap (value_of t) (sym (listed_is k)) ∙ y.3 in
            v ∙ (values_apart x.1 y.1 (is.occurs x.1 x.0 (is.place x.1 x.0 x.4)) (is.occurs y.1 y.0 (is.place y.1 y.0 y.4)) (sym (ap (number_in numbers) v) ∙ (e ∙ ap (number_in numbers) w)) ∙ sym w)
