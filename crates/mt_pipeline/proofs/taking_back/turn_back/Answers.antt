use Rattle.std.proofs.Common.{◌∙◌, rules}
use Rattle.mt_pipeline.proofs.Undone.{fewer, turned_all, turning_from, turning_more}
use Rattle.mt_pipeline.proofs.taking_back.turn_back.Goals as goal

pub loop-mapper-init : goal.loop-mapper-init
loop-mapper-init g c = turning_from c.args.ledger.now c.args.moved.items

pub retreat-requires : goal.retreat-requires
retreat-requires g c = c.loop-mapper.invariant.many ∙ c.requires

pub loop-mapper-preserved : goal.loop-mapper-preserved
loop-mapper-preserved g c =
    turning_more c.args.ledger.now c.loop-mapper.ledger c.retreat.new.ledger c.args.moved.items c.loop-mapper.moved.items c.pop.new.self.items c.pop.result c.in-Some.mapper c.loop-mapper.invariant
    c.pop.ensures.items c.in-Some.is c.retreat.ensures

pub loop-mapper-smaller : goal.loop-mapper-smaller
loop-mapper-smaller g c = fewer c.loop-mapper.moved.items c.pop.new.self.items c.pop.result c.in-Some.mapper c.pop.ensures.items c.in-Some.is

pub returns : goal.returns
returns g c = turned_all c.args.ledger.now c.loop-mapper.ledger c.args.moved.items c.loop-mapper.moved.items c.loop-mapper.invariant (search rules)
