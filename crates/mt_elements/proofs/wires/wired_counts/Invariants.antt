use Rattle.std.proofs.Common.{◌≡◌, ℕ, ◌<◌, ◌≤◌, length, get_or, drop, max}
use Rattle.mt_elements.specs.ChainState.{wired_of}
use Rattle.mt_elements.proofs.wires.wired_counts.Given as goal

abbrev pub invariant-loop-number : goal.invariant-loop-number
invariant-loop-number l = record {
  len : length l.counts.items ≡ l.count;
  counts : (e : ℕ) → e < l.count → max (get_or l.counts.items e 0) (wired_of (drop l.number l.wires) e) ≡ wired_of l.wires e;
  few : (e : ℕ) → get_or l.counts.items e 0 ≤ 4294967296;
}
