use Rattle.std.proofs.Common.{◌∙◌, ◌+◌, arith}
use Rattle.mt_elements.proofs.CountsRaised.{ArrivalsTo, arrivals_begin, arrivals_more}
use Rattle.mt_elements.proofs.chain.arrivals_of.Goals as goal

pub loop-device-init : goal.loop-device-init
loop-device-init c =
    arrivals_more c.args.kinds.now c.new-arrivals.result.items c.push.new.self.items 0 c.entry_of.result c.entry_of.ensures c.in_ok-push.ensures.items
    (arrivals_begin c.args.kinds.now c.new-arrivals.result.items c.new-arrivals.ensures.items)

pub loop-device-preserved : goal.loop-device-preserved
loop-device-preserved c =
    arrivals_more c.args.kinds.now c.loop-device.arrivals.items c.push-in-loop-device.new.self.items (c.loop-device.device + 1) c.entry_of-in-loop-device.result
    c.entry_of-in-loop-device.ensures c.in_ok-push-2.ensures.items c.loop-device.invariant

pub returns-clause-whole : goal.returns-clause-whole
returns-clause-whole c =
    let h : ArrivalsTo c.args.kinds.now c.loop-device.arrivals.items (c.loop-device.device + 1) = c.loop-device.invariant in
    h.whole ∙ omega (arith, c.loop-device-test.false, c.loop-device.auto.device-end)

pub returns-clause-each : goal.returns-clause-each
returns-clause-each c =
    let h : ArrivalsTo c.args.kinds.now c.loop-device.arrivals.items (c.loop-device.device + 1) = c.loop-device.invariant in h.each
