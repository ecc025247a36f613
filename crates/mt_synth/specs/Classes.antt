-- The classes of a chain: the headers of one tree each.
use Rattle.std.specs.Prelude.{ℕ, ◌≡◌, ◌<◌, ◌==◌, List, map, length, Option, Some, slice_get, option_map}
use Rattle.std.specs.List.{filter}
use Rattle.mt_packet.specs.Header.{field_of}
use Rattle.mt_packet.specs.declared.field.Field.{Field}
use Rattle.mt_packet.specs.declared.span.Span.{Span}
use Rattle.mt_boxes.specs.Boxes.{IsIn}
use Rattle.mt_boxes.specs.Least.{IsAtMost}
use Rattle.mt_cuts.specs.Boxes.{AreCanonicalBoxes}
use Rattle.mt_cuts.specs.Headers.{IsHeaderOf}
use Rattle.mt_cuts.specs.Tree.{value_of, Tree as CutTree}
use Rattle.mt_cuts.specs.declared.leaves.Leaf.{Leaf}
use Rattle.mt_terms.specs.Trees.{TreeForm, tree_form}
use Rattle.mt_terms.specs.declared.tree.Tree.{Tree}
use Rattle.mt_synth.specs.declared.fault.SynthFault.{SynthFault}
use Rattle.mt_synth.specs.declared.fault.SynthFault.TheVariants.{TooManyClasses, NoMemory}

-- a class: its region, and the tree of its headers
abbrev pub Class : Type 0
Class = List (List Span) × TreeForm

-- the class of that number has that region and that tree
abbrev pub IsClass : List Class → ℕ → List (List Span) → TreeForm → Type 0
IsClass classes number region tree = slice_get classes number ≡ Some (region, tree)

-- the boxes of the leaves that have a value, in order
abbrev pub boxes_with : ℕ → List Leaf → List (List Span)
boxes_with value leaves = map (λ leaf. leaf.spans) (filter (λ leaf. leaf.value == value) leaves)

-- The classes of a function from headers to trees.
pub record AreClasses (devices : ℕ) (tree_at : List ℕ → Option TreeForm) (classes : List Class) : Type 0 where
  -- each header is in a region, whose class has its tree
  pub covers : (header : List ℕ) → IsHeaderOf devices header
      → (number : ℕ) × (region : List (List Span)) × (tree : TreeForm) × IsClass classes number region tree × IsIn region header × (tree_at header ≡ Some tree)
  -- each class has a header
  pub had : (number : ℕ) (region : List (List Span)) (tree : TreeForm) → IsClass classes number region tree → (header : List ℕ) × IsHeaderOf devices header × IsIn region header
  -- no header is in two
  pub once : (header : List ℕ) (i j : ℕ) (r s : List (List Span)) (t u : TreeForm) → IsClass classes i r t → IsClass classes j s u → IsIn r header → IsIn s header → i ≡ j
  -- two classes have different trees
  pub apart : (i j : ℕ) (r s : List (List Span)) (tree : TreeForm) → IsClass classes i r tree → IsClass classes j s tree → i ≡ j
  -- they are numbered by their least headers
  pub ascend : (i j : ℕ) (r s : List (List Span)) (t u : TreeForm) → IsClass classes i r t → IsClass classes j s u → i < j
      → (other : List ℕ) → IsIn s other → (header : List ℕ) × IsIn r header × IsAtMost header other
  -- their regions are the boxes of a class in the canonical boxes of the function from a header to its class
  pub boxes : (number_at : (Field → ℕ) → ℕ) × (leaves : List Leaf)
      × ((header : List ℕ) → IsHeaderOf devices header → (region : List (List Span)) × (tree : TreeForm) × IsClass classes (number_at (field_of header)) region tree × IsIn region header)
      × AreCanonicalBoxes devices number_at leaves
      × ((number : ℕ) (region : List (List Span)) (tree : TreeForm) → IsClass classes number region tree → region ≡ boxes_with number leaves)

-- There are more classes than can be numbered: so many headers of the chain have trees of their own.
abbrev pub HasTrees : ℕ → (List ℕ → Option TreeForm) → ℕ → Type 0
HasTrees devices tree_at count =
    (headers : List (List ℕ)) × (length headers ≡ count) × ((header : List ℕ) (i : ℕ) → slice_get headers i ≡ Some header → IsHeaderOf devices header)
    × ((i j : ℕ) (a b : List ℕ) → slice_get headers i ≡ Some a → slice_get headers j ≡ Some b → tree_at a ≡ tree_at b → i ≡ j)

-- the tree of a header, where a cut tree gives the tree's number in a table
abbrev pub tree_at : CutTree → List Tree → List ℕ → Option TreeForm
tree_at whole trees header = option_map tree_form (slice_get trees (value_of whole (field_of header)))

-- the plain form of a class
abbrev pub class_form : List (List Span) × Tree → Class
class_form class = (class.0, tree_form class.1)

-- why a chain has no classes
abbrev pub IsFaultOf : ℕ → (List ℕ → Option TreeForm) → SynthFault → Type 0
IsFaultOf devices tree_at (TooManyClasses count) = (count ≡ 65536) × HasTrees devices tree_at 65536
IsFaultOf devices tree_at NoMemory = Unit {0}
