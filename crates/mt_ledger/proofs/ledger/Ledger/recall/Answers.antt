use Rattle.std.proofs.Common.{◌∙◌, [], sym, ap, length, refl}
use Rattle.mt_ledger.specs.Ports.{placed_each}
use Rattle.mt_ledger.specs.Ledger.{LedgerState}
use Rattle.mt_ledger.specs.Pools.{ports_at, ranges}
use Rattle.mt_ledger.proofs.Standing.{IsPair, pair, stock_changed, changed, same_ranges}
use Rattle.mt_ledger.proofs.ledger.Ledger.recall.Goals as goal

both : (c : goal.After-index_mut-share) → IsPair c.args.self.now.stocks c.args.shares.now c.args.pool c.index_mut-stock.result.now c.index_mut-share.result.now
both c = pair c.self.inside.stocks.items c.shares.inside.portions.items c.args.self.now c.args.shares.now c.args.pool c.index_mut-stock.result.now c.index_mut-share.result.now
    (ap (λ l. l.stocks) c.self.view_is) c.shares.view_is c.requires.pools c.requires.pool c.index_mut-stock.ensures.value c.index_mut-share.ensures.value

pub move_all-requires-clause-apart : goal.move_all-requires-clause-apart
move_all-requires-clause-apart c = rw (← (both c).stock_is, ← (both c).share_is) c.requires.apart

pub move_all-requires-clause-lo : goal.move_all-requires-clause-lo
move_all-requires-clause-lo c = (both c).lo

pub move_all-requires-clause-hi : goal.move_all-requires-clause-hi
move_all-requires-clause-hi c = (both c).hi

after : (c : goal.After-shares-1) → IsPair c.args.self.now.stocks c.args.shares.now c.args.pool c.index_mut-stock.result.now c.index_mut-share.result.now
after c = pair c.self.inside.stocks.items c.shares.inside.portions.items c.args.self.now c.args.shares.now c.args.pool c.index_mut-stock.result.now c.index_mut-share.result.now
    (ap (λ l. l.stocks) c.self.view_is) c.shares.view_is c.requires.pools c.requires.pool c.index_mut-stock.ensures.value c.index_mut-share.ensures.value

pub returns-clause-count : goal.returns-clause-count
returns-clause-count c = c.move_all.ensures.count ∙ ap length (sym (after c).share_is)

pub returns-clause-share : goal.returns-clause-share
returns-clause-share c =
    changed c.shares.inside.portions.items c.args.shares.now c.args.pool c.args.pool c.index_mut-share.result.now c.move_all.new.share (λ _. [])
    c.shares.view_is refl (after c).there c.index_mut-share.ensures.value c.move_all.ensures.share

pub returns-clause-stock : goal.returns-clause-stock
returns-clause-stock c =
    stock_changed (record { stocks = c.self.inside.stocks.items; patterns = c.self.inside.patterns.items; turns = c.self.inside.turns.items }) c.args.self.now c.args.pool c.index_mut-stock.result.now c.move_all.new.stock (placed_each (ports_at c.args.shares.now c.args.pool))
    c.self.view_is c.requires.pool c.index_mut-stock.ensures.value (rw (after c).share_is c.move_all.ensures.stock)

pub returns-clause-share_pools : goal.returns-clause-share_pools
returns-clause-share_pools c = ap ranges (returns-clause-share c) ∙ same_ranges c.args.shares.now c.args.pool ([])

pub returns-clause-stocks_pools : goal.returns-clause-stocks_pools
returns-clause-stocks_pools c = ap (λ (l : LedgerState). ranges l.stocks) (returns-clause-stock c) ∙ same_ranges c.args.self.now.stocks c.args.pool (placed_each (ports_at c.args.shares.now c.args.pool) (ports_at c.args.self.now.stocks c.args.pool))
