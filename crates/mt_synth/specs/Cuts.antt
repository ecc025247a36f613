-- What a tree of cuts stands for whose values are numbers of trees.
use Rattle.std.specs.Prelude.{◌≡◌, ℕ, Bool, if◌then◌else◌, List, Some, slice_get, option_map}
use Rattle.mt_packet.specs.Header.{field_of}
use Rattle.mt_kinds.specs.declared.kind.Kind.{Kind}
use Rattle.mt_elements.specs.ChainState.{ChainState}
use Rattle.mt_cuts.specs.Canonical.{InDomain, IsCanonical}
use Rattle.mt_cuts.specs.Tree as cuts
use Rattle.mt_cuts.specs.Tree.{value_of}
use Rattle.mt_cuts.specs.View.{tree_of}
use Rattle.mt_cuts.specs.declared.cut.Cut.{Cut}
use Rattle.mt_terms.specs.Trees.{TreeForm, tree_form}
use Rattle.mt_terms.specs.declared.tree.Tree.{Tree}
use Rattle.mt_trees.specs.Elements.{Along, leaves}
use Rattle.mt_trees.specs.Symbols.{Symbol}
use Rattle.mt_trees.specs.Tests.{Found}
use Rattle.mt_synth.specs.Exits.{Exits}

-- for each header its tree, which may be missing where the chain has no way
abbrev pub TreeAt : Type 0
TreeAt = List ℕ → Found

-- the number that a tree of cuts gives a header
abbrev pub number_at : cuts.Tree → List ℕ → ℕ
number_at tree header = value_of tree (field_of header)

-- the tree of that number, in its plain form
abbrev pub tree_numbered : List Tree → ℕ → Found
tree_numbered trees number = option_map tree_form (slice_get trees number)

-- where a header of the chain has a tree, its number is that of the tree
abbrev pub Means : ℕ → List Tree → cuts.Tree → TreeAt → Type 0
Means devices trees numbers tree_at =
    (header : List ℕ) → InDomain devices (field_of header) → (tree : TreeForm) → tree_at header ≡ Some tree → tree_numbered trees (number_at numbers header) ≡ Some tree

-- it is 1 where a test holds and 0 elsewhere
abbrev pub IsCondition : ℕ → cuts.Tree → (List ℕ → Bool) → Type 0
IsCondition devices condition holds = (header : List ℕ) → InDomain devices (field_of header) → number_at condition header ≡ (if holds header then 1 else 0)

-- trees keep their numbers while more are numbered
abbrev pub Grows : List Tree → List Tree → Type 0
Grows old new = (number : ℕ) (tree : TreeForm) → tree_numbered old number ≡ Some tree → tree_numbered new number ≡ Some tree

-- no two trees are equal
abbrev pub AreApart : List Tree → Type 0
AreApart trees = (i j : ℕ) (tree : TreeForm) → tree_numbered trees i ≡ Some tree → tree_numbered trees j ≡ Some tree → i ≡ j

-- ---- behind the exits of an element

-- each tree of cuts stands for the trees behind its exit
abbrev pub AreBehind : ℕ → List Tree → ChainState → (List ℕ → Along) → ℕ × ℕ → Kind → Exits → List Cut → Type 0
AreBehind devices trees chain along at own exits cuts =
    (place : ℕ) (exit : ℕ × Symbol) (cut : Cut) → slice_get exits place ≡ Some exit → slice_get cuts place ≡ Some cut
    → Means devices trees (tree_of cut) (λ header. leaves chain header (along header) at own exit.1 exit.0)

-- all of them are in canonical form
abbrev pub AreCanonical : ℕ → List Cut → Type 0
AreCanonical devices cuts = (place : ℕ) (cut : Cut) → slice_get cuts place ≡ Some cut → IsCanonical devices (tree_of cut)
