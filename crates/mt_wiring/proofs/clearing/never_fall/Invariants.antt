use Rattle.std.proofs.Common.{◌≤◌, ◌<◌, ℕ, get_or, Contains}
use Rattle.mt_reach.specs.Reach.{targets_of}
use Rattle.mt_wiring.proofs.clearing.never_fall.Given as goal

abbrev pub invariant-loop-node : goal.invariant-loop-node
invariant-loop-node l = (a b : ℕ) → a < l.node → Contains (targets_of l.graph a) b → get_or l.ranks a 0 ≤ get_or l.ranks b 0
