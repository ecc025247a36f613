use Rattle.std.proofs.lemmas.Option.{slice_get-get_or}
use Rattle.mt_wiring.proofs.PortNumbers.{targets_more}
use Rattle.mt_wiring.proofs.ports.ports_of.Goals as goal

pub loop-at-preserved : goal.loop-at-preserved
loop-at-preserved c =
    targets_more c.loop-at.keys.keys c.number.new.keys.keys c.args.wires.now c.loop-at.at c.in_ok-target.target c.loop-at.targets.items c.push.new.self.items _
    (slice_get-get_or c.args.wires.now c.loop-at.at _ c.loop-at-test.true) c.in_ok-target.ensures.number c.in_ok-target.ensures.grows c.in_ok-target.ensures.apart c.in_ok-push.ensures.items c.loop-at.invariant
