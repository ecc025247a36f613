use Rattle.std.proofs.Common.{◌∙◌, Some, arith}
use Rattle.mt_pipeline.proofs.Whole.{as_long, moved_then, taken_token}
use Rattle.mt_pipeline.proofs.ports.take_port.Goals as goal

pub returns-in-Some-clause-moved : goal.returns-in-Some-clause-moved
returns-in-Some-clause-moved g c =
    moved_then (Some c.in-Some.token) c.args.ledger.now c.fill.new.ledger c.fill.new.ledger c.args.shares.now c.fill.new.shares c.take.new.self c.fill.ensures.moved
    (taken_token c.fill.new.ledger c.fill.new.shares c.take.new.self c.in-Some.token c.args.pool c.place_in-place.result c.in-Some.ensures.port.0
    (let same = as_long c.fill.new.shares c.args.ledger.now.stocks (c.fill.ensures.ranges ∙ c.requires.pools) in let there = c.requires.pool in omega (arith, same, there))
    c.in-Some.ensures.port.1 c.in-Some.ensures.rest)
