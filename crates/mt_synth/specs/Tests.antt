-- A test by the numbers of its trees.
use Rattle.std.specs.Prelude.{◌≡◌, ℕ, List, Some}
use Rattle.mt_packet.specs.declared.span.Span.{Span}
use Rattle.mt_terms.specs.Terms.{TermForm}
use Rattle.mt_terms.specs.Trees.{TreeForm, test}
use Rattle.mt_terms.specs.declared.tree.Tree.{Tree}
use Rattle.mt_synth.specs.Cuts.{tree_numbered}

-- where a table has both trees of a pair, a later one has their test at this number
abbrev pub IsTestOf : List Tree → List Tree → TermForm → Span → ℕ × ℕ → ℕ → Type 0
IsTestOf before now term span pair number =
    (inside outside : TreeForm) → tree_numbered before pair.0 ≡ Some inside → tree_numbered before pair.1 ≡ Some outside → tree_numbered now number ≡ Some (test term span inside outside)
