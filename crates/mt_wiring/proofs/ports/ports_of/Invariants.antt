use Rattle.mt_wiring.proofs.PortNumbers.{AreTargetsOf}
use Rattle.mt_wiring.proofs.ports.ports_of.Given as goal

abbrev pub invariant-loop-at : goal.invariant-loop-at
invariant-loop-at l = AreTargetsOf l.keys.keys l.wires l.at l.targets.items
