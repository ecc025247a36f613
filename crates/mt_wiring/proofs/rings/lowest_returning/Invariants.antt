use Rattle.std.proofs.Common.{◌≡◌, ◌+◌, ℕ, length, IfSome}
use Rattle.mt_reach.specs.Reach.{AreBelow}
use Rattle.mt_wiring.specs.Pushes.{IsAmong, HasAtMost}
use Rattle.mt_wiring.specs.Numbers.{IsRingAt}
use Rattle.mt_wiring.proofs.rings.lowest_returning.Given as goal

abbrev pub invariant-loop-number : goal.invariant-loop-number
invariant-loop-number l = record {
  marks : AreBelow (l.number + 1) l.seen.items;
  len : length l.seen.items ≡ length l.ports;
  found : IfSome l.lowest (IsAmong (IsRingAt l.graph) l.ports (length l.ports));
  least : (m : ℕ) → IsAmong (IsRingAt l.graph) l.ports l.number m → HasAtMost l.lowest m;
}
