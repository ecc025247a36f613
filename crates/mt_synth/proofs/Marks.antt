-- A condition by the number of a tree.
use Rattle.std.proofs.Common.{◌≡◌, ◌∙◌, sym, ap, ℕ, Bool, true, false, List, Some, ◌==◌, arith}
use Rattle.std.specs.Prelude.{if◌then◌else◌}
use Rattle.std.proofs.lemmas.Bool.Decides.{nat_tests}
use Rattle.mt_packet.specs.Header.{field_of}
use Rattle.mt_packet.specs.declared.cause.Cause.TheVariants as cause
use Rattle.mt_packet.specs.declared.field.Field.{Field}
use Rattle.mt_cuts.specs.Tree as cuts
use Rattle.mt_cuts.specs.Tree.{value_of, class}
use Rattle.mt_packet.specs.declared.cause.Cause.{Cause}
use Rattle.mt_terms.specs.Trees.{TreeForm, drop, layer_form, tree_form}
use Rattle.mt_terms.specs.declared.tree.Tree.{Tree, fold-roll-Tree}
use Rattle.mt_terms.specs.declared.tree.Tree.TheVariants.{Drop}
use Rattle.mt_terms.specs.declared.tree.Tree.TheOpen.{Tree-F}
use Rattle.mt_trees.proofs.Writes.{unsome}
use Rattle.mt_synth.specs.Cuts.{TreeAt, Means, IsCondition, AreApart, tree_numbered}
use Rattle.mt_synth.proofs.Meant.{means_same}

equal : (a b : ℕ) → a ≡ b → (a == b) ≡ true
equal a b e = grind (arith, nat_tests)

at_side : (trees : List Tree) (b : Bool) (n number value : ℕ) (inside outside : TreeForm) → AreApart trees → (inside ≡ outside → ⊥) → tree_numbered trees number ≡ Some inside
    → ((tree : TreeForm) → (if b then Some inside else Some outside) ≡ Some tree → tree_numbered trees n ≡ Some tree) → value ≡ (if n == number then 1 else 0) → value ≡ (if b then 1 else 0)
at_side trees true n number value inside outside apart differ is means values =
    values ∙ ap (λ (c : Bool). if c then 1 else 0) (equal n number (apart n number inside (means inside (λ i. Some inside)) is))
at_side trees false n number value inside outside apart differ is means values =
    values ∙ ap (λ (c : Bool). if c then 1 else 0) (other (n == number) (λ i. n == number))
  where
    other : (c : Bool) → (n == number) ≡ c → (n == number) ≡ false
    other false e = e
    other true e = let same : n ≡ number = grind (arith, nat_tests) in
        absurd (differ (unsome inside outside (sym is ∙ (ap (tree_numbered trees) (sym same) ∙ means outside (λ i. Some outside)))))

pub condition_numbered : (devices : ℕ) (trees : List Tree) (base made : cuts.Tree) (number : ℕ) → AreApart trees → ((header : Field → ℕ) → value_of made header ≡ (if value_of base header == number then 1 else 0))
    → (inside outside : TreeForm) (holds : List ℕ → Bool) → (inside ≡ outside → ⊥) → tree_numbered trees number ≡ Some inside
    → Means devices trees base (λ header. if holds header then Some inside else Some outside) → IsCondition devices made holds
condition_numbered devices trees base made number apart values inside outside holds differ is means header domain =
    at_side trees (holds header) _ number _ inside outside apart differ is (means header domain) (values (field_of header))

-- the two marks
pub marks_differ : drop cause.Unported ≡ drop cause.Filtered → ⊥
marks_differ e = cc

-- a mark everywhere
pub means_leaf : (devices : ℕ) (trees : List Tree) (base : cuts.Tree) (number : ℕ) (mark : TreeForm) → base ≡ class number → tree_numbered trees number ≡ Some mark → Means devices trees base (λ header. Some mark)
means_leaf devices trees base number mark same is header domain tree found = ap (λ (t : cuts.Tree). tree_numbered trees (value_of t (field_of header))) same ∙ (is ∙ found)

-- the condition of trees of cuts that have the one mark where it holds and the other elsewhere
pub marks_condition : (devices : ℕ) (trees : List Tree) (base made : cuts.Tree) (number : ℕ) (holds : List ℕ → Bool) (f : TreeAt)
    → ((header : List ℕ) → f header ≡ (if holds header then Some (drop cause.Unported) else Some (drop cause.Filtered)))
    → tree_numbered trees number ≡ Some (drop cause.Unported) → Means devices trees base f
    → ((inside outside : TreeForm) (holds : List ℕ → Bool) → (inside ≡ outside → ⊥) → tree_numbered trees number ≡ Some inside
    → Means devices trees base (λ header. if holds header then Some inside else Some outside) → IsCondition devices made holds)
    → IsCondition devices made holds
marks_condition devices trees base made number holds f sides is means condition =
    condition (drop cause.Unported) (drop cause.Filtered) holds marks_differ is
    (means_same devices trees base f (λ header. if holds header then Some (drop cause.Unported) else Some (drop cause.Filtered)) (λ header. sym (sides header)) means)

-- the plain form of a dropped packet's tree
pub tree-drop : (why : Cause) → tree_form (Drop why) ≡ drop why
unfolding Rattle.mt_terms.specs.declared.tree.Tree.TheViews.roll-Tree denote.Hole.Carrier.roll
tree-drop why = fold-roll-Tree TreeForm layer_form (Tree-F.Drop why)
