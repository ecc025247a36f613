use Rattle.mt_wiring.proofs.WiresLeaving.{exits_more, exits_only, exits_all}
use Rattle.mt_wiring.proofs.leaving.exits_of.Goals as goal

pub loop-at-preserved : goal.loop-at-preserved
loop-at-preserved c = exits_more c.args.wires.now c.loop-at.at _ c.loop-at.exits.items c.push.new.self.items c.loop-at-test.true c.in_ok-push.ensures.items c.loop-at.invariant

pub returns-clause-only : goal.returns-clause-only
returns-clause-only c = exits_only c.args.wires.now c.loop-at.at c.loop-at.exits.items c.loop-at.invariant

pub returns-clause-all : goal.returns-clause-all
returns-clause-all c = exits_all c.args.wires.now c.loop-at.at c.loop-at.exits.items c.loop-at-test.false c.loop-at.invariant
