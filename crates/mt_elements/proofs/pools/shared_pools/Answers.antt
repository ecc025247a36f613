use Rattle.mt_elements.proofs.Overlapping.{marks_more, marks_all}
use Rattle.mt_elements.proofs.pools.shared_pools.Goals as goal

pub loop-number-preserved : goal.loop-number-preserved
loop-number-preserved c =
    marks_more c.args.pools.now c.loop-number.shared.items c.push.new.self.items c.loop-number.number c.is_shared.result c.is_shared.ensures c.in_ok-push.ensures.items c.loop-number.invariant

pub returns : goal.returns
returns c = marks_all c.args.pools.now c.loop-number.shared.items c.loop-number.number c.loop-number-test.false c.loop-number.invariant
