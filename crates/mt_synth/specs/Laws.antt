-- The laws of classes: their index, and how many they are.
use Rattle.std.specs.Prelude.{ℕ, ◌≡◌, ◌<◌, ◌≤◌, List, length, map, Option}
use Rattle.mt_packet.specs.declared.span.Span.{Span}
use Rattle.mt_classes.specs.Partition.{IsPartition}
use Rattle.mt_terms.specs.Trees.{TreeForm}
use Rattle.mt_terms.specs.declared.tree.Tree.{Tree}
use Rattle.mt_synth.specs.Classes.{Class, AreClasses, HasTrees, class_form}

-- The regions of the classes of a chain are a partition of its headers, so that an index can be built of them.
abbrev pub ClassesPartition : Type 0
ClassesPartition =
    (devices : ℕ) → 0 < devices → devices ≤ 32 → (tree_at : List ℕ → Option TreeForm) (classes : List (List (List Span) × Tree)) → AreClasses devices tree_at (map class_form classes)
    → IsPartition devices (map (λ class. class.0) classes)

-- There are as many classes as the headers of the chain have trees.
pub record ClassesCounted : Type 0 where
  -- however the classes were found, they are so many
  pub same : (devices : ℕ) (tree_at : List ℕ → Option TreeForm) (classes others : List Class) → AreClasses devices tree_at classes → AreClasses devices tree_at others → length classes ≡ length others
  -- headers with trees of their own are in classes of their own
  pub many : (devices : ℕ) (tree_at : List ℕ → Option TreeForm) (classes : List Class) (count : ℕ) → AreClasses devices tree_at classes → HasTrees devices tree_at count → count ≤ length classes
