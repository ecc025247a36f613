use Rattle.std.proofs.Common.{◌≡◌, ◌≤◌, ◌<◌, ◌-◌, ℕ, List, map, length, get_or}
use Rattle.std.specs.Prelude.{Some, slice_get}
use Rattle.mt_trees.specs.Passages.{code_of}
use Rattle.mt_synth.specs.Branches.{IsNamed}
use Rattle.mt_synth.specs.Cuts.{Grows}
use Rattle.mt_synth.specs.Symbols.{symbol_form}
use Rattle.mt_synth.proofs.branching.named.Given as goal

pub record AreNamed (l : goal.Live-loop-place) : Type 0 where
  pub within : l.place ≤ length l.lists
  pub count : length l.names.items ≡ l.place
  pub named : (place : ℕ) (list : List ℕ) → slice_get (map (λ v. v.items) l.lists) place ≡ Some list → place < l.place
      → IsNamed l.fn.trees l.trees (code_of l.at (symbol_form l.symbol)) (map (λ exit. exit.out) l.exits) list (get_or l.names.items place 0)
  pub grows : Grows l.fn.trees l.trees

abbrev pub invariant-loop-place : goal.invariant-loop-place
invariant-loop-place l = AreNamed l

abbrev pub decreases-loop-place : goal.decreases-loop-place
decreases-loop-place l = length l.lists - l.place
