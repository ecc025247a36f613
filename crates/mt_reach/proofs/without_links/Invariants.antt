use Rattle.std.proofs.Common.{◌≡◌, ℕ, [], length}
use Rattle.mt_reach.specs.Reach.{targets_of}
use Rattle.mt_reach.proofs.without_links.Given as goal

abbrev pub invariant-loop-number : goal.invariant-loop-number
invariant-loop-number l = record {
  len : length l.graph.items ≡ l._number;
  none : (a : ℕ) → targets_of l.graph.items a ≡ [];
}
