use Rattle.mt_wiring.specs.States.{ClashesAt}
use Rattle.mt_wiring.proofs.Pushing.{lowest_all}
use Rattle.mt_wiring.proofs.LayersFound.{clash_step}
use Rattle.mt_wiring.proofs.layers.lowest_refusing.Goals as goal

pub loop-at-preserved : goal.loop-at-preserved
loop-at-preserved g c =
    clash_step (g.E.Elements.behavior c.args.elements.now) c.args.states.now c.loop-at.at _ c.takes-refuses.result c.loop-at.lowest c.lower-lowest.result
    c.loop-at-test.true c.takes-refuses.ensures c.lower-lowest.ensures c.loop-at.invariant

pub returns : goal.returns
returns g c = lowest_all (λ k. ClashesAt (g.E.Elements.behavior c.args.elements.now)) c.args.states.now c.loop-at.at c.loop-at.lowest c.loop-at-test.false c.loop-at.invariant
