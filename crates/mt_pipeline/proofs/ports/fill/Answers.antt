use Rattle.std.proofs.Common.{arith}
use Rattle.mt_pipeline.proofs.Whole.{as_long, filled_up, refilled, share_empty}
use Rattle.mt_pipeline.proofs.ports.fill.Goals as goal

pub returns-clause-moved : goal.returns-clause-moved
returns-clause-moved c =
    refilled c.args.ledger.now c.refill.new.self c.args.shares.now c.refill.new.shares c.args.pool
    (let same = as_long c.args.shares.now c.args.ledger.now.stocks c.requires.pools in let there = c.requires.pool in omega (arith, same, there)) c.requires.pool
    (share_empty c.args.shares.now c.args.pool c.count.result c.count.ensures c.if-count-gt0.false) c.refill.ensures.share c.refill.ensures.stock

pub returns-clause-filled : goal.returns-clause-filled
returns-clause-filled c =
    filled_up c.args.ledger.now c.refill.new.self c.args.shares.now c.refill.new.shares c.args.pool
    (let same = as_long c.args.shares.now c.args.ledger.now.stocks c.requires.pools in let there = c.requires.pool in omega (arith, same, there)) c.requires.pool
    (share_empty c.args.shares.now c.args.pool c.count.result c.count.ensures c.if-count-gt0.false) c.refill.ensures.share c.refill.ensures.stock
