-- Trees with one more at their end, and the look-up from trees to numbers beside them.
use Rattle.std.proofs.Common.{◌≡◌, ◌⊎◌, ◌∙◌, ℕ, zero, suc, false, List, [], ◌∷◌, ◌++◌, length, Ordering, Less, Equal, Greater, sym, ap, refl, inl, inr}
use Rattle.std.specs.Prelude.{Some, None}
use Rattle.std.specs.BTreeMap as map
use Rattle.std.specs.BTreeMap.{BTreeMap}
use Rattle.std.specs.Ordering.{is_eq}
use Rattle.std.specs.Cmp.{Equal-is}
use Rattle.mt_terms.proofs.SameTrees.{decides_trees}
use Rattle.mt_terms.specs.Orders.{compare_trees}
use Rattle.mt_terms.specs.contracts.tree.TreeOrd.TheImpl.Laws as laws
use Rattle.mt_terms.specs.Trees.{TreeForm, tree_form}
use Rattle.mt_terms.specs.declared.tree.Tree.{Tree}
use Rattle.mt_trees.proofs.Writes.{unsome}
use Rattle.mt_synth.specs.Cuts.{Grows, tree_numbered}
use Rattle.mt_synth.specs.Table.{IsTable}

pub numbered_last : (trees : List Tree) (tree : Tree) → tree_numbered (trees ++ tree ∷ []) (length trees) ≡ Some (tree_form tree)
numbered_last [] tree = refl
numbered_last (first ∷ trees) tree = numbered_last trees tree

pub one_more : (trees : List Tree) (tree : Tree) → Grows trees (trees ++ tree ∷ [])
one_more [] tree number form e = absurd (let never : None ≡ Some form = e in cc)
one_more (first ∷ trees) tree zero form e = e
one_more (first ∷ trees) tree (suc number) form e = one_more trees tree number form e

-- the tree of a number is an earlier one or the last
met : (trees : List Tree) (tree : Tree) (number : ℕ) (form : TreeForm) → tree_numbered (trees ++ tree ∷ []) number ≡ Some form → (tree_numbered trees number ≡ Some form) ⊎ ((number ≡ length trees) × (tree_form tree ≡ form))
met [] tree zero form e = inr (refl, unsome _ _ e)
met [] tree (suc number) form e = absurd (let never : None ≡ Some form = e in cc)
met (first ∷ trees) tree zero form e = inl e
met (first ∷ trees) tree (suc number) form e = elim (met trees tree number form e) [ inl before ↦ inl before | inr last ↦ inr (ap suc last.0, last.1) ]

equal_or_not : (o : Ordering) → (o ≡ Equal) ⊎ (is_eq o ≡ false)
equal_or_not Less = inr refl
equal_or_not Equal = inl refl
equal_or_not Greater = inr refl

-- the order puts neither first exactly where the plain forms are one
same : (a b : Tree) → (compare_trees a b ≡ Equal → tree_form a ≡ tree_form b) × (tree_form a ≡ tree_form b → compare_trees a b ≡ Equal)
same a b = (
  λ e. (decides_trees a b).0 (laws.matches_eq-law a b ∙ (Equal-is (compare_trees a b)).1 e),
  λ e. (Equal-is (compare_trees a b)).0 (sym (laws.matches_eq-law a b) ∙ (decides_trees a b).1 e),
)

-- a tree that was not met before is numbered, under a key with its plain form
module _ (trees : List Tree) (old new : BTreeMap Tree ℕ) (key tree : Tree) (is : IsTable trees old) (absent : map.get compare_trees old tree ≡ None) (copied : tree_form key ≡ tree_form tree)
    (updates : map.Updates compare_trees old new key (Some (length trees))) where
  here : (other : Tree) → compare_trees key other ≡ Equal → map.get compare_trees new other ≡ Some (length trees)
  here other e = updates.0 other ∙ rw e refl

  apart : (other : Tree) → is_eq (compare_trees key other) ≡ false → map.get compare_trees new other ≡ map.get compare_trees old other
  apart other e = updates.2 other e

  found : (other : Tree) (number : ℕ) → map.get compare_trees new other ≡ Some number → tree_numbered (trees ++ tree ∷ []) number ≡ Some (tree_form other)
  found other number e = elim (equal_or_not (compare_trees key other)) [
    | inl equal ↦ (let at : length trees ≡ number = unsome _ _ (sym (here other equal) ∙ e) in
        ap (tree_numbered (trees ++ tree ∷ [])) (sym at) ∙ numbered_last trees tree ∙ ap Some (sym copied ∙ (same key other).0 equal))
    | inr other' ↦ one_more trees tree number (tree_form other) (is.found other number (sym (apart other other') ∙ e))
  ]

  there : (other : Tree) (number : ℕ) → tree_numbered (trees ++ tree ∷ []) number ≡ Some (tree_form other) → map.get compare_trees new other ≡ Some number
  there other number e = elim (met trees tree number (tree_form other) e) [
    | inl before ↦ elim (equal_or_not (compare_trees key other)) [
      | inl equal ↦ absurd (let form : tree_form other ≡ tree_form tree = sym ((same key other).0 equal) ∙ copied in
          let met' : map.get compare_trees old tree ≡ Some number = is.there tree number (before ∙ ap Some form) in cc)
      | inr other' ↦ apart other other' ∙ is.there other number before
    ]
    | inr last ↦ here other ((same key other).1 (copied ∙ last.1)) ∙ ap Some (sym last.0)
  ]

  pub numbered : IsTable (trees ++ tree ∷ []) new
  numbered = record { found = found; there = there }
