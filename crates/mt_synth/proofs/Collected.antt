-- One box more is put into the region of its class.
use Rattle.std.proofs.Common.{◌≡◌, ◌≢◌, ◌<◌, ◌==◌, ℕ, zero, suc, List, [], ◌∷◌, ◌++◌, length, map, filter, get_or, slice_get, slice_set, Option, Some, None, refl, sym, ◌∙◌, ap, subst, inl, inr, arith, eq-eqb}
use Rattle.std.proofs.lemmas.Bool.{cond-true, cond-false, cases_eq, ne_eqb}
use Rattle.std.proofs.lemmas.Option.{slice_get_within, slice_get-get_or, slice_get_read}
use Rattle.std.proofs.lemmas.List.{length-map, map-append}
use Rattle.mt_packet.specs.declared.span.Span.{Span}
use Rattle.mt_boxes.specs.Boxes.{InBox, IsIn}
use Rattle.mt_cuts.specs.declared.leaves.Leaf.{Leaf}
use Rattle.mt_terms.specs.Trees.{TreeForm, tree_form}
use Rattle.mt_terms.specs.declared.tree.Tree.{Tree}
use Rattle.mt_synth.specs.Classes.{Class, boxes_with, class_form}
use Rattle.mt_synth.specs.Collecting.{AreCollected, AreApart}
use Rattle.mt_synth.specs.Numbering.{IsNumbering}
use Rattle.mt_synth.proofs.Places.{one_at, same_Some, there, in_front, in_more, at_last, set_here, set_other, set_length, map_set, map_there, map_from, length_more}

-- the boxes of a value, leaf by leaf
pub keeps : (value : ℕ) (leaf : Leaf) (leaves : List Leaf) → leaf.value ≡ value → boxes_with value (leaf ∷ leaves) ≡ leaf.spans ∷ boxes_with value leaves
keeps value leaf leaves e =
    ap (map (λ (leaf : Leaf). leaf.spans)) (cond-true (leaf.value == value) (leaf ∷ filter (λ (leaf : Leaf). leaf.value == value) leaves) (filter (λ (leaf : Leaf). leaf.value == value) leaves) (eq-eqb leaf.value value e))

pub drops : (value : ℕ) (leaf : Leaf) (leaves : List Leaf) → leaf.value ≢ value → boxes_with value (leaf ∷ leaves) ≡ boxes_with value leaves
drops value leaf leaves apart =
    ap (map (λ (leaf : Leaf). leaf.spans)) (cond-false (leaf.value == value) (leaf ∷ filter (λ (leaf : Leaf). leaf.value == value) leaves) (filter (λ (leaf : Leaf). leaf.value == value) leaves) (ne_eqb leaf.value value apart))

pub keeps_last : (value : ℕ) (done : List Leaf) (leaf : Leaf) → leaf.value ≡ value → boxes_with value (done ++ leaf ∷ []) ≡ boxes_with value done ++ leaf.spans ∷ []
keeps_last value [] leaf e = keeps value leaf [] e
keeps_last value (first ∷ done) leaf e = elim (cases_eq first.value value) [
  | inl same ↦ keeps value first (done ++ leaf ∷ []) same ∙ (ap (λ bs. first.spans ∷ bs) (keeps_last value done leaf e) ∙ ap (λ bs. bs ++ leaf.spans ∷ []) (sym (keeps value first done same)))
  | inr apart ↦ drops value first (done ++ leaf ∷ []) apart ∙ (keeps_last value done leaf e ∙ ap (λ bs. bs ++ leaf.spans ∷ []) (sym (drops value first done apart)))
]

pub drops_last : (value : ℕ) (done : List Leaf) (leaf : Leaf) → leaf.value ≢ value → boxes_with value (done ++ leaf ∷ []) ≡ boxes_with value done
drops_last value [] leaf apart = drops value leaf [] apart
drops_last value (first ∷ done) leaf apart = elim (cases_eq first.value value) [
  | inl same ↦ keeps value first (done ++ leaf ∷ []) same ∙ (ap (λ bs. first.spans ∷ bs) (drops_last value done leaf apart) ∙ sym (keeps value first done same))
  | inr other ↦ drops value first (done ++ leaf ∷ []) other ∙ (drops_last value done leaf apart ∙ sym (drops value first done other))
]

-- a header in the boxes of a value is in a leaf of that value
pub leaf_of_box : (value : ℕ) (leaves : List Leaf) (header : List ℕ) → IsIn (boxes_with value leaves) header → (at : ℕ) × (leaf : Leaf) × (slice_get leaves at ≡ Some leaf) × (leaf.value ≡ value) × InBox leaf.spans header
leaf_of_box value [] header i = absurd i
leaf_of_box value (first ∷ leaves) header i = elim (cases_eq first.value value) [
  | inl same ↦ (elim (subst (λ (bs : List (List Span)). IsIn bs header) (keeps value first leaves same) i) [
    | inl k ↦ (0, first, refl, same, k)
    | inr k ↦ (let f = leaf_of_box value leaves header k in (suc f.0, f.1, f.2, f.3, f.4))
  ])
  | inr apart ↦ (let f = leaf_of_box value leaves header (subst (λ (bs : List (List Span)). IsIn bs header) (drops value first leaves apart) i) in (suc f.0, f.1, f.2, f.3, f.4))
]

pub box_of_leaf : (value : ℕ) (leaves : List Leaf) (header : List ℕ) (at : ℕ) (leaf : Leaf) → slice_get leaves at ≡ Some leaf → leaf.value ≡ value → InBox leaf.spans header → IsIn (boxes_with value leaves) header
box_of_leaf value [] header at leaf e same i = absurd (let q : None ≡ Some leaf = e in cc)
box_of_leaf value (first ∷ leaves) header zero leaf e same i =
    let one : first ≡ leaf = same_Some first leaf e in
    subst (λ (bs : List (List Span)). IsIn bs header) (sym (keeps value first leaves (ap (λ (l : Leaf). l.value) one ∙ same))) (inl (subst (λ (l : Leaf). InBox l.spans header) (sym one) i))
box_of_leaf value (first ∷ leaves) header (suc at) leaf e same i =
    let rest = box_of_leaf value leaves header at leaf e same i in
    elim (cases_eq first.value value) [
      | inl here ↦ subst (λ (bs : List (List Span)). IsIn bs header) (sym (keeps value first leaves here)) (inr rest)
      | inr apart ↦ subst (λ (bs : List (List Span)). IsIn bs header) (sym (drops value first leaves apart)) rest
    ]

-- ---- classes without a box

pub none_collected : (trees : List Tree) → AreCollected trees [] [] []
none_collected trees = record { as_many = refl; each = λ number value e. absurd (let q : None ≡ Some value = e in cc) }

pub collected_next : (trees : List Tree) (done : List ℕ) (classes : List Class) (value : ℕ) (tree : Tree) → AreCollected trees done [] classes → slice_get trees value ≡ Some tree
    → AreCollected trees (done ++ value ∷ []) [] (classes ++ ([], tree_form tree) ∷ [])
collected_next trees done classes value tree are got = record {
  as_many = length_more classes ([], tree_form tree) ∙ (ap suc are.as_many ∙ sym (length_more done value));
  each = λ number v e. elim (in_more done value number v e) [
    | inl h ↦ (let old = are.each number v h.1 in (old.0, old.1, in_front classes (([], tree_form tree) ∷ []) number _ old.2))
    | inr h ↦ (tree, ap (slice_get trees) (sym h.1) ∙ got, subst (λ (k : ℕ). slice_get (classes ++ ([], tree_form tree) ∷ []) k ≡ Some ([], tree_form tree)) (are.as_many ∙ sym h.0) (at_last classes ([], tree_form tree)))
  ];
}

-- the class that is pushed
pub class_pushed : (trees : List Tree) (done : List ℕ) (classes new : List (List (List Span) × Tree)) (value : ℕ) (region : List (List Span)) (tree copy : Tree) → AreCollected trees done [] (map class_form classes)
    → value < length trees → tree ≡ get_or trees value tree → tree_form copy ≡ tree_form tree → region ≡ [] → new ≡ classes ++ (region, copy) ∷ [] → AreCollected trees (done ++ value ∷ []) [] (map class_form new)
class_pushed trees done classes new value region tree copy are lt got form none made =
    let same : ([], tree_form tree) ≡ class_form (region, copy) = ap (λ (f : TreeForm). ([], f)) (sym form) ∙ ap (λ (r : List (List Span)). (r, tree_form copy)) (sym none) in
    let items : map class_form classes ++ ([], tree_form tree) ∷ [] ≡ map class_form new =
    ap (λ (c : Class). map class_form classes ++ c ∷ []) same ∙ (sym (map-append class_form classes ((region, copy) ∷ [])) ∙ ap (map class_form) (sym made)) in
    subst (λ (cs : List Class). AreCollected trees (done ++ value ∷ []) [] cs) items
    (collected_next trees done (map class_form classes) value tree are (slice_get_read trees (length trees) value tree refl lt got))

-- ---- one box more

module _ (trees : List Tree) (values : List ℕ) (numbers : List (Option ℕ)) (order : List ℕ) (done : List Leaf) (classes : List (List (List Span) × Tree)) (leaf : Leaf) (number : ℕ)
    (is : IsNumbering values numbers order) (are : AreCollected trees order done (map class_form classes)) (has : slice_get numbers leaf.value ≡ Some (Some number)) where
  named : slice_get order number ≡ Some leaf.value
  named = is.place leaf.value number has

  pub class_there : number < length classes
  class_there = let w = slice_get_within order number leaf.value named in let n = are.as_many in let m = length-map classes class_form in omega (arith, w, n, m)

  pub region_there : (region : List (List Span)) (tree : Tree) → slice_get classes number ≡ Some (region, tree) → region ≡ boxes_with leaf.value done
  region_there region tree e =
      let old = are.each number leaf.value named in
      ap (λ (c : Class). c.0) (one_at (map class_form classes) number (region, tree_form tree) (boxes_with leaf.value done, tree_form old.0) (map_there class_form classes number (region, tree) e) old.2)

  pub apart_there : (all : List Leaf) (after : List Leaf) → done ++ after ≡ all → slice_get all (length done) ≡ Some leaf → AreApart all
      → (region : List (List Span)) (tree : Tree) → slice_get classes number ≡ Some (region, tree) → (header : List ℕ) → InBox leaf.spans header → IsIn region header → ⊥
  apart_there all after parts here apart region tree e header i j =
      let f = leaf_of_box leaf.value done header (subst (λ (bs : List (List Span)). IsIn bs header) (region_there region tree e) j) in
      let w = slice_get_within done f.0 f.1 f.2 in
      let same = apart f.0 (length done) f.1 leaf header (subst (λ (ls : List Leaf). slice_get ls f.0 ≡ Some f.1) parts (in_front done after f.0 f.1 f.2)) here f.4 i in
      omega (arith, w, same)

  pub collected_more : (new : List (List (List Span) × Tree)) → ((region : List (List Span)) (tree : Tree) → slice_get classes number ≡ Some (region, tree) → new ≡ slice_set classes number (region ++ leaf.spans ∷ [], tree))
      → AreCollected trees order (done ++ leaf ∷ []) (map class_form new)
  collected_more new made =
      let old = there classes number class_there in
      let r = region_there old.0.0 old.0.1 old.1 in
      subst (λ (cs : List Class). AreCollected trees order (done ++ leaf ∷ []) cs) (sym (ap (map class_form) (made old.0.0 old.0.1 old.1) ∙ map_set class_form classes number (old.0.0 ++ leaf.spans ∷ [], old.0.1)))
      (record {
        as_many = set_length (map class_form classes) number (old.0.0 ++ leaf.spans ∷ [], tree_form old.0.1) ∙ are.as_many;
        each = λ k v e. elim (cases_eq k number) [
          | inl same ↦ (here old.0.0 old.0.1 old.1 r k v same e)
          | inr apart ↦ (let before = are.each k v e in (
            before.0,
            before.1,
            set_other (map class_form classes) number k (old.0.0 ++ leaf.spans ∷ [], tree_form old.0.1) apart
                ∙ (before.2 ∙ ap (λ bs. Some (bs, tree_form before.0)) (sym (drops_last v done leaf (λ q. apart (others k v e q))))),
          ))
        ];
      })
    where
      others : (k v : ℕ) → slice_get order k ≡ Some v → leaf.value ≡ v → k ≡ number
      others k v e q = same_Some k number (same_Some (Some k) (Some number) (sym (is.back v k e) ∙ (ap (slice_get numbers) (sym q) ∙ has)))

      here : (region : List (List Span)) (tree : Tree) → slice_get classes number ≡ Some (region, tree) → region ≡ boxes_with leaf.value done → (k v : ℕ) → k ≡ number → slice_get order k ≡ Some v
          → (t : Tree) × (slice_get trees v ≡ Some t) × (slice_get (slice_set (map class_form classes) number (region ++ leaf.spans ∷ [], tree_form tree)) k ≡ Some (boxes_with v (done ++ leaf ∷ []), tree_form t))
      here region tree got r k v same e =
          let before = are.each k v e in
          let one : leaf.value ≡ v = same_Some leaf.value v (sym named ∙ (ap (slice_get order) (sym same) ∙ e)) in
          let form : (region, tree_form tree) ≡ (boxes_with v done, tree_form before.0) =
          one_at (map class_form classes) number (region, tree_form tree) (boxes_with v done, tree_form before.0) (map_there class_form classes number (region, tree) got) (ap (slice_get (map class_form classes)) (sym same) ∙ before.2) in
          let at : slice_get (slice_set (map class_form classes) number (region ++ leaf.spans ∷ [], tree_form tree)) number ≡ Some (region ++ leaf.spans ∷ [], tree_form tree) =
          set_here (map class_form classes) number (region ++ leaf.spans ∷ [], tree_form tree) (slice_get_within (map class_form classes) number (region, tree_form tree) (map_there class_form classes number (region, tree) got)) in (
            before.0,
            before.1,
            ap (slice_get (slice_set (map class_form classes) number (region ++ leaf.spans ∷ [], tree_form tree))) same
                ∙ (at ∙ (ap (λ (c : Class). Some (c.0 ++ leaf.spans ∷ [], c.1)) form ∙ ap (λ bs. Some (bs, tree_form before.0)) (sym (keeps_last v done leaf one)))),
          )

-- what an index of the numbers reads
pub has_found : (numbers : List (Option ℕ)) (value number : ℕ) (found : Option ℕ) → value < length numbers → found ≡ get_or numbers value found → found ≡ Some number → slice_get numbers value ≡ Some (Some number)
has_found numbers value number found lt e is = slice_get-get_or numbers value found lt ∙ ap Some (sym e ∙ is)

pub not_found : (numbers : List (Option ℕ)) (value : ℕ) (found : Option ℕ) → value < length numbers → found ≡ get_or numbers value found → ((number : ℕ) → found ≡ Some number → ⊥) → (number : ℕ) → slice_get numbers value ≡ Some (Some number) → ⊥
not_found numbers value found lt e none number some = none number (same_Some found (Some number) (ap Some e ∙ (sym (slice_get-get_or numbers value found lt) ∙ some)))

-- the number of a leaf's value
pub leaf_numbered : (leaves : List Leaf) (numbers : List (Option ℕ)) (order : List ℕ) (at : ℕ) (leaf : Leaf) → IsNumbering (map (λ leaf. leaf.value) leaves) numbers order → slice_get leaves at ≡ Some leaf
    → (number : ℕ) × (slice_get numbers leaf.value ≡ Some (Some number))
leaf_numbered leaves numbers order at leaf is here = is.numbered leaf.value (at, map_there (λ (leaf : Leaf). leaf.value) leaves at leaf here)

pub leaf_below : (leaves : List Leaf) (numbers : List (Option ℕ)) (order : List ℕ) (at : ℕ) (leaf : Leaf) → IsNumbering (map (λ leaf. leaf.value) leaves) numbers order → slice_get leaves at ≡ Some leaf → leaf.value < length numbers
leaf_below leaves numbers order at leaf is here = let n = leaf_numbered leaves numbers order at leaf is here in slice_get_within numbers leaf.value (Some n.0) n.1

-- each value in the order has a tree
pub order_below : (leaves : List Leaf) (numbers : List (Option ℕ)) (order : List ℕ) (bound : ℕ) → IsNumbering (map (λ leaf. leaf.value) leaves) numbers order
    → ((at : ℕ) (leaf : Leaf) → slice_get leaves at ≡ Some leaf → leaf.value < bound) → (number value : ℕ) → slice_get order number ≡ Some value → value < bound
order_below leaves numbers order bound is below number value e =
    let o = is.occurs value number e in let f = map_from (λ (leaf : Leaf). leaf.value) leaves o.0 value o.1 in
    subst (λ (v : ℕ). v < bound) f.2 (below o.0 f.0 f.1)
