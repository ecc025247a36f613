-- Trees with their numbers, and a look-up from trees to numbers beside them.
use Rattle.std.specs.Prelude.{ℕ, ◌≡◌, List, Some}
use Rattle.std.specs.BTreeMap as map
use Rattle.std.specs.BTreeMap.{BTreeMap}
use Rattle.mt_terms.specs.Orders.{compare_trees}
use Rattle.mt_terms.specs.Trees.{tree_form}
use Rattle.mt_terms.specs.declared.tree.Tree.{Tree}
use Rattle.mt_synth.specs.Cuts.{tree_numbered}

-- a tree is found at a number exactly where the tree of that number is this one
pub record IsTable (trees : List Tree) (numbers : BTreeMap Tree ℕ) : Type 0 where
  pub found : (tree : Tree) (number : ℕ) → map.get compare_trees numbers tree ≡ Some number → tree_numbered trees number ≡ Some (tree_form tree)
  pub there : (tree : Tree) (number : ℕ) → tree_numbered trees number ≡ Some (tree_form tree) → map.get compare_trees numbers tree ≡ Some number
