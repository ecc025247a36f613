use Rattle.mt_wiring.proofs.LayersFound.{entry_step, entries_all}
use Rattle.mt_wiring.proofs.layers.entered.Goals as goal

pub loop-at-preserved : goal.loop-at-preserved
loop-at-preserved g c =
    entry_step (g.E.Elements.behavior c.args.elements.now) c.args.wires.now c.loop-at.at _ c.loop-at.states.keys c.insert.new.states.keys c.enters.result
    c.loop-at-test.true c.enters.ensures c.loop-at.invariant c.in_ok-insert.ensures.pushed

pub returns : goal.returns
returns g c = entries_all (g.E.Elements.behavior c.args.elements.now) c.args.wires.now c.loop-at.at c.loop-at.states.keys c.loop-at-test.false c.loop-at.invariant
