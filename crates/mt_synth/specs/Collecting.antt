-- Classes under way: the boxes of the leaves that were looked at.
use Rattle.std.specs.Prelude.{ℕ, ◌≡◌, List, length, Some, slice_get}
use Rattle.mt_boxes.specs.Boxes.{InBox}
use Rattle.mt_cuts.specs.declared.leaves.Leaf.{Leaf}
use Rattle.mt_terms.specs.Trees.{tree_form}
use Rattle.mt_terms.specs.declared.tree.Tree.{Tree}
use Rattle.mt_synth.specs.Classes.{Class, boxes_with}

-- the class of each number has the boxes of the leaves of its value, and the tree of that value
pub record AreCollected (trees : List Tree) (order : List ℕ) (leaves : List Leaf) (classes : List Class) : Type 0 where
  pub as_many : length classes ≡ length order
  pub each : (number value : ℕ) → slice_get order number ≡ Some value
      → (tree : Tree) × (slice_get trees value ≡ Some tree) × (slice_get classes number ≡ Some (boxes_with value leaves, tree_form tree))

-- no header is in the boxes of two leaves
abbrev pub AreApart : List Leaf → Type 0
AreApart leaves =
    (i j : ℕ) (leaf other : Leaf) (header : List ℕ) → slice_get leaves i ≡ Some leaf → slice_get leaves j ≡ Some other
    → InBox leaf.spans header → InBox other.spans header → i ≡ j
