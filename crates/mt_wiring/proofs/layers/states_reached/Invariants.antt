use Rattle.std.proofs.Common.{◌*◌, ◌-◌, length}
use Rattle.mt_wiring.proofs.LayersFound.{IsExploring}
use Rattle.mt_wiring.proofs.layers.states_reached.Given as goal

abbrev pub invariant-loop-at : goal.invariant-loop-at
invariant-loop-at g l = IsExploring (g.E.Elements.behavior l.elements) l.wires l.at l.states.keys

abbrev pub decreases-loop-at : goal.decreases-loop-at
decreases-loop-at g l = 4 * length l.wires - l.at
