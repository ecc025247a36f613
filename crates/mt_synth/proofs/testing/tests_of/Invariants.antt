use Rattle.std.proofs.Common.{◌≡◌, ℕ, ◌<◌, length, get_or}
use Rattle.mt_terms.specs.Terms.{term_form}
use Rattle.mt_synth.specs.Cuts.{Grows}
use Rattle.mt_synth.specs.Tests.{IsTestOf}
use Rattle.mt_synth.proofs.testing.tests_of.Given as goal

-- the pairs so far have their numbers
abbrev pub invariant-loop-pair : goal.invariant-loop-pair
invariant-loop-pair l = record {
  tests : (place : ℕ) → place < l.pair-index → IsTestOf l.fn.trees l.trees (term_form l.term) l.span (get_or l.pairs place (0, 0)) (get_or l.numbers.items place 0);
  count : length l.numbers.items ≡ l.pair-index;
  grows : Grows l.fn.trees l.trees;
}
