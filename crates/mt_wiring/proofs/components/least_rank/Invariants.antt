use Rattle.std.proofs.Common.{◌≡◌, ◌≤◌, ◌<◌, ℕ, get_or, slice_get, Some}
use Rattle.mt_wiring.proofs.components.least_rank.Given as goal

abbrev pub invariant-loop-node : goal.invariant-loop-node
invariant-loop-node l = (k n : ℕ) → k < l.node-index → slice_get l.nodes k ≡ Some n → l.least ≤ get_or l.ranks n 0
