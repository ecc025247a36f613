use Rattle.mt_wiring.specs.Ways.{Clashes}
use Rattle.mt_wiring.proofs.Pushing.{none_lower, found_is, found_lowest}
use Rattle.mt_wiring.proofs.LayersFound.{lowest_clashing}
use Rattle.mt_wiring.proofs.layers.lowest_clash.Goals as goal

pub returns-clause-none : goal.returns-clause-none
returns-clause-none g c = none_lower (Clashes (g.E.Elements.behavior c.args.elements.now) c.args.wires.now) c.lowest_refusing.result
    (lowest_clashing (g.E.Elements.behavior c.args.elements.now) c.args.wires.now c.in_ok-states.states.keys c.as_slice.result.now c.lowest_refusing.result c.as_slice.ensures.keys c.in_ok-states.ensures c.lowest_refusing.ensures)

pub returns-clause-found : goal.returns-clause-found
returns-clause-found g c = found_is (Clashes (g.E.Elements.behavior c.args.elements.now) c.args.wires.now) c.lowest_refusing.result
    (lowest_clashing (g.E.Elements.behavior c.args.elements.now) c.args.wires.now c.in_ok-states.states.keys c.as_slice.result.now c.lowest_refusing.result c.as_slice.ensures.keys c.in_ok-states.ensures c.lowest_refusing.ensures)

pub returns-clause-lowest : goal.returns-clause-lowest
returns-clause-lowest g c = found_lowest (Clashes (g.E.Elements.behavior c.args.elements.now) c.args.wires.now) c.lowest_refusing.result
    (lowest_clashing (g.E.Elements.behavior c.args.elements.now) c.args.wires.now c.in_ok-states.states.keys c.as_slice.result.now c.lowest_refusing.result c.as_slice.ensures.keys c.in_ok-states.ensures c.lowest_refusing.ensures)
