use Rattle.std.proofs.Common.{◌≡◌, ℕ, ◌<◌, slice_get, Some, Contains}
use Rattle.mt_reach.specs.Reach.{targets_of}
use Rattle.mt_wiring.proofs.rings.leads_back.Given as goal

abbrev pub invariant-loop-from : goal.invariant-loop-from
invariant-loop-from l = (k n : ℕ) → k < l.from-index → slice_get l.nodes k ≡ Some n → Contains (targets_of l.graph n) l.to → ⊥
