use Rattle.std.proofs.Common.{◌∙◌, sym, ap, take, drop, length, min, List, ℕ, refl}
use Rattle.mt_ledger.specs.Ledger.{LedgerState}
use Rattle.mt_ledger.specs.Pools.{ports_at, ranges}
use Rattle.mt_ledger.proofs.Standing.{IsPair, pair, stock_changed, changed, same_ranges}
use Rattle.mt_ledger.proofs.ledger.Ledger.refill.Goals as goal

both : (c : goal.After-index_mut-share) → IsPair c.args.self.now.stocks c.args.shares.now c.args.pool c.index_mut-stock.result.now c.index_mut-share.result.now
both c = pair c.self.inside.stocks.items c.shares.inside.portions.items c.args.self.now c.args.shares.now c.args.pool c.index_mut-stock.result.now c.index_mut-share.result.now
    (ap (λ l. l.stocks) c.self.view_is) c.shares.view_is c.requires.pools c.requires.pool c.index_mut-stock.ensures.value c.index_mut-share.ensures.value

pub move_lowest-requires-clause-empty : goal.move_lowest-requires-clause-empty
move_lowest-requires-clause-empty c = sym (both c).share_is ∙ c.requires.empty

pub move_lowest-requires-clause-lo : goal.move_lowest-requires-clause-lo
move_lowest-requires-clause-lo c = (both c).lo

pub move_lowest-requires-clause-hi : goal.move_lowest-requires-clause-hi
move_lowest-requires-clause-hi c = (both c).hi

after : (c : goal.After-shares-1) → IsPair c.args.self.now.stocks c.args.shares.now c.args.pool c.index_mut-stock.result.now c.index_mut-share.result.now
after c = pair c.self.inside.stocks.items c.shares.inside.portions.items c.args.self.now c.args.shares.now c.args.pool c.index_mut-stock.result.now c.index_mut-share.result.now
    (ap (λ l. l.stocks) c.self.view_is) c.shares.view_is c.requires.pools c.requires.pool c.index_mut-stock.ensures.value c.index_mut-share.ensures.value

pub returns-clause-count : goal.returns-clause-count
returns-clause-count c = c.move_lowest.ensures.count ∙ ap (λ (ports : List ℕ). min 32 (length ports)) (sym (after c).stock_is)

pub returns-clause-share : goal.returns-clause-share
returns-clause-share c =
    changed c.shares.inside.portions.items c.args.shares.now c.args.pool c.args.pool c.index_mut-share.result.now c.move_lowest.new.share (λ _. take 32 (ports_at c.args.self.now.stocks c.args.pool))
    c.shares.view_is refl (after c).there c.index_mut-share.ensures.value (rw (after c).stock_is c.move_lowest.ensures.share)

pub returns-clause-stock : goal.returns-clause-stock
returns-clause-stock c =
    stock_changed (record { stocks = c.self.inside.stocks.items; patterns = c.self.inside.patterns.items; turns = c.self.inside.turns.items }) c.args.self.now c.args.pool c.index_mut-stock.result.now c.move_lowest.new.stock (λ ports. drop 32 ports)
    c.self.view_is c.requires.pool c.index_mut-stock.ensures.value c.move_lowest.ensures.stock

pub returns-clause-share_pools : goal.returns-clause-share_pools
returns-clause-share_pools c = ap ranges (returns-clause-share c) ∙ same_ranges c.args.shares.now c.args.pool (take 32 (ports_at c.args.self.now.stocks c.args.pool))

pub returns-clause-stocks_pools : goal.returns-clause-stocks_pools
returns-clause-stocks_pools c = ap (λ (l : LedgerState). ranges l.stocks) (returns-clause-stock c) ∙ same_ranges c.args.self.now.stocks c.args.pool (drop 32 (ports_at c.args.self.now.stocks c.args.pool))
