use Rattle.mt_wiring.proofs.WiresLeaving.{above_more, above_all}
use Rattle.mt_wiring.proofs.leaving.count_of.Goals as goal

pub loop-at-preserved : goal.loop-at-preserved
loop-at-preserved c = above_more c.args.wires.now c.loop-at.at _ c.loop-at.count c.max-count.result c.loop-at-test.true c.max-count.ensures c.loop-at.invariant

pub returns-clause-elements : goal.returns-clause-elements
returns-clause-elements c = above_all c.args.wires.now c.loop-at.at c.loop-at.count c.loop-at-test.false c.loop-at.invariant
