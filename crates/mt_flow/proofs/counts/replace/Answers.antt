use Rattle.mt_flow.proofs.Orders.{replaced}
use Rattle.mt_flow.proofs.counts.replace.Goals as goal

pub returns : goal.returns
returns c = replaced c.insert.result c.args.counts.now c.insert.new.self c.args.lane c.args.count c.insert.ensures.updates c.insert.ensures.absent c.requires
