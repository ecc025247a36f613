use Rattle.std.proofs.Common.{ap, arith, ◌∙◌}
use Rattle.mt_ledger.specs.Ports.{times}
use Rattle.mt_ledger.specs.Pools.{ports_at}
use Rattle.mt_ledger.proofs.Moved.{times-append}
use Rattle.mt_ledger.proofs.Alone.{is_there, emptied, after_recall, split_once}
use Rattle.mt_ledger.proofs.tests.there_and_back.Goals as goal

pub refill-brought-requires-clause-empty : goal.refill-brought-requires-clause-empty
refill-brought-requires-clause-empty c = emptied c.args.shares.now c.recall-from_empty.new.shares (is_there c.args.shares.now c.args.range.lo c.args.range.hi c.requires.shares) c.recall-from_empty.ensures.share

pub take_and_give_back-taken-requires-clause-apart : goal.take_and_give_back-taken-requires-clause-apart
take_and_give_back-taken-requires-clause-apart c port =
    let one = split_once c.args.ledger.now c.recall-from_empty.new.self c.refill-brought.new.self c.args.shares.now c.recall-from_empty.new.shares c.refill-brought.new.shares c.args.range.lo c.args.range.hi
    c.requires.stocks c.requires.shares c.requires.empty c.requires.apart c.recall-from_empty.ensures.stocks_pools c.recall-from_empty.ensures.share_pools c.recall-from_empty.ensures.stock
    c.refill-brought.ensures.stock c.refill-brought.ensures.share port in
    omega (arith, one)

pub take_and_give_back-again-requires-clause-apart : goal.take_and_give_back-again-requires-clause-apart
take_and_give_back-again-requires-clause-apart c port =
    let one = split_once c.args.ledger.now c.recall-from_empty.new.self c.refill-brought.new.self c.args.shares.now c.recall-from_empty.new.shares c.refill-brought.new.shares c.args.range.lo c.args.range.hi
    c.requires.stocks c.requires.shares c.requires.empty c.requires.apart c.recall-from_empty.ensures.stocks_pools c.recall-from_empty.ensures.share_pools c.recall-from_empty.ensures.stock
    c.refill-brought.ensures.stock c.refill-brought.ensures.share port in
    let less = c.take_and_give_back-taken.ensures.no_more port in
    omega (arith, one, less)

pub recall-from_full-requires-clause-apart : goal.recall-from_full-requires-clause-apart
recall-from_full-requires-clause-apart c port =
    let one = split_once c.args.ledger.now c.recall-from_empty.new.self c.refill-brought.new.self c.args.shares.now c.recall-from_empty.new.shares c.refill-brought.new.shares c.args.range.lo c.args.range.hi
    c.requires.stocks c.requires.shares c.requires.empty c.requires.apart c.recall-from_empty.ensures.stocks_pools c.recall-from_empty.ensures.share_pools c.recall-from_empty.ensures.stock
    c.refill-brought.ensures.stock c.refill-brought.ensures.share port in
    let less = c.take_and_give_back-taken.ensures.no_more port in
    let again = c.take_and_give_back-again.ensures.no_more port in
    let both = times-append port (ports_at c.refill-brought.new.self.stocks 0) (ports_at c.take_and_give_back-again.new.shares 0) in
    omega (arith, one, less, again, both)

pub recall-once_more-requires-clause-apart : goal.recall-once_more-requires-clause-apart
recall-once_more-requires-clause-apart c port =
    let lo = c.args.range.lo in
    let hi = c.args.range.hi in
    let one = split_once c.args.ledger.now c.recall-from_empty.new.self c.refill-brought.new.self c.args.shares.now c.recall-from_empty.new.shares c.refill-brought.new.shares c.args.range.lo c.args.range.hi
    c.requires.stocks c.requires.shares c.requires.empty c.requires.apart c.recall-from_empty.ensures.stocks_pools c.recall-from_empty.ensures.share_pools c.recall-from_empty.ensures.stock
    c.refill-brought.ensures.stock c.refill-brought.ensures.share port in
    let less = c.take_and_give_back-taken.ensures.no_more port in
    let again = c.take_and_give_back-again.ensures.no_more port in
    let share = ports_at c.take_and_give_back-again.new.shares 0 in
    let all = after_recall c.refill-brought.new.self c.recall-from_full.new.self share
    (is_there c.refill-brought.new.self.stocks lo hi (c.refill-brought.ensures.stocks_pools ∙ (c.recall-from_empty.ensures.stocks_pools ∙ c.requires.stocks)))
    c.recall-from_full.ensures.stock port in
    let none = ap (times port) (emptied c.take_and_give_back-again.new.shares c.recall-from_full.new.shares (is_there c.take_and_give_back-again.new.shares lo hi c.take_and_give_back-again.ensures.there) c.recall-from_full.ensures.share) in
    let sum = times-append port (ports_at c.recall-from_full.new.self.stocks 0) (ports_at c.recall-from_full.new.shares 0) in
    omega (arith, one, less, again, all, none, sum)

pub returns-clause-empty : goal.returns-clause-empty
returns-clause-empty c =
    emptied c.recall-from_full.new.shares c.recall-once_more.new.shares
    (is_there c.recall-from_full.new.shares c.args.range.lo c.args.range.hi (c.recall-from_full.ensures.share_pools ∙ c.take_and_give_back-again.ensures.there)) c.recall-once_more.ensures.share
