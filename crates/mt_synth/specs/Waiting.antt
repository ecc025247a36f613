-- Patterns that wait while another one is tried, the next one first.
use Rattle.std.specs.Prelude.{ℕ, ◌≡◌, ◌+◌, true, List, [], ◌∷◌}
use Rattle.mt_cuts.specs.Canonical.{IsCanonical, finishes}
use Rattle.mt_cuts.specs.View.{tree_of}
use Rattle.mt_cuts.specs.declared.cut.Cut.{Cut}
use Rattle.mt_pattern.specs.Meaning.{size_of}
use Rattle.mt_pattern.specs.declared.pattern.Pattern.{Pattern}
use Rattle.mt_terms.specs.declared.tree.Tree.{Tree}
use Rattle.mt_trees.specs.Symbols.{Symbol}
use Rattle.mt_trees.specs.Tests.{pattern_tried}
use Rattle.mt_synth.specs.Cuts.{TreeAt, Means}
use Rattle.mt_synth.specs.declared.patterns.Waiting.{Waiting}
use Rattle.mt_synth.specs.declared.patterns.Waiting.TheVariants.{Inside, Outside}

-- the size of the patterns that wait
abbrev pub waiting_size : List Waiting → ℕ
waiting_size [] = 0
waiting_size (Inside left other ∷ more) = size_of left.now + waiting_size more
waiting_size (Outside left other ∷ more) = size_of left.now + waiting_size more

-- a tree of cuts in canonical form that ends well
abbrev pub IsWhole : ℕ → Cut → Type 0
IsWhole devices cut = IsCanonical devices (tree_of cut) × (finishes devices cut ≡ true)

-- their trees of cuts are such trees
abbrev pub AreWholeBeside : ℕ → List Waiting → Type 0
AreWholeBeside devices [] = Unit {0}
AreWholeBeside devices (Inside left other ∷ more) = IsWhole devices other × AreWholeBeside devices more
AreWholeBeside devices (Outside left other ∷ more) = IsWhole devices other × AreWholeBeside devices more

module _ (devices : ℕ) (trees : List Tree) (symbol : Symbol) where
  -- where the patterns that wait go on with these trees, they come to the wanted ones
  abbrev pub LeadsTo : TreeAt → List Waiting → TreeAt → Type 0
  LeadsTo wanted [] made = (header : List ℕ) → made header ≡ wanted header
  LeadsTo wanted (Inside left other ∷ more) made =
      (other_at : TreeAt) × Means devices trees (tree_of other) other_at × LeadsTo wanted more (λ header. pattern_tried header symbol left.now (made header) (other_at header))
  LeadsTo wanted (Outside left other ∷ more) made =
      (other_at : TreeAt) × Means devices trees (tree_of other) other_at × LeadsTo wanted more (λ header. pattern_tried header symbol left.now (other_at header) (made header))

  -- a pattern that is tried with two trees of cuts comes to the wanted trees in the end
  pub record IsUnderWay (wanted : TreeAt) (rest : Pattern) (inside outside : Cut) (waiting : List Waiting) : Type 0 where
    pub inside_at : TreeAt
    pub outside_at : TreeAt
    pub inside_means : Means devices trees (tree_of inside) inside_at
    pub outside_means : Means devices trees (tree_of outside) outside_at
    pub leads : LeadsTo wanted waiting (λ header. pattern_tried header symbol rest (inside_at header) (outside_at header))
