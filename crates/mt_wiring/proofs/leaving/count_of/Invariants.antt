use Rattle.mt_wiring.proofs.WiresLeaving.{IsAbove}
use Rattle.mt_wiring.proofs.leaving.count_of.Given as goal

abbrev pub invariant-loop-at : goal.invariant-loop-at
invariant-loop-at l = IsAbove l.wires l.at l.count
