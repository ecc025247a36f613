-- The branches of a passage by the numbers of their trees.
use Rattle.std.specs.Prelude.{◌≡◌, ℕ, List, [], ◌∷◌, ◌++◌, Some, None}
use Rattle.mt_terms.specs.Trees.{OpForm, TreeForm, branches_of}
use Rattle.mt_terms.specs.Trees.{passage as op}
use Rattle.mt_terms.specs.declared.tree.Tree.{Tree}
use Rattle.mt_trees.specs.Tests.{Found}
use Rattle.mt_synth.specs.Cuts.{Grows, tree_numbered}

-- the branch of an output, where its tree is found
abbrev pub branch_named : ℕ → Found → List (ℕ × TreeForm)
branch_named out None = []
branch_named out (Some tree) = (out, tree) ∷ []

-- the branches of these outputs with the trees of these numbers
abbrev pub branches_named : List Tree → List ℕ → List ℕ → List (ℕ × TreeForm)
branches_named trees outs [] = []
branches_named trees [] (number ∷ numbers) = []
branches_named trees (out ∷ outs) (number ∷ numbers) = branch_named out (tree_numbered trees number) ++ branches_named trees outs numbers

-- the number is that of a passage whose branches have the trees of these numbers, as they were found on the way from one
-- table to another
pub record IsNamed (old new : List Tree) (code : OpForm) (outs numbers : List ℕ) (name : ℕ) : Type 0 where
  pub trees : List Tree
  pub grows : Grows old trees
  pub named : tree_numbered new name ≡ Some (op code (branches_of (branches_named trees outs numbers)))
