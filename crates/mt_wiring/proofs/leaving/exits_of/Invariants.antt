use Rattle.std.proofs.Common.{[]}
use Rattle.mt_wiring.specs.Pushes.{HasPushed, IsAmong}
use Rattle.mt_wiring.proofs.WiresLeaving.{LeavesAt}
use Rattle.mt_wiring.proofs.leaving.exits_of.Given as goal

abbrev pub invariant-loop-at : goal.invariant-loop-at
invariant-loop-at l = HasPushed [] l.exits.items (IsAmong LeavesAt l.wires l.at)
