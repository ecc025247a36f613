use Rattle.std.proofs.Common.{◌≡◌, map, take}
use Rattle.mt_ledger.specs.Pools.{all_of}
use Rattle.mt_ledger.proofs.ledger.whole_stocks.Given as goal

abbrev pub invariant-loop-range : goal.invariant-loop-range
invariant-loop-range l = l.stocks.items ≡ map all_of (take l.range-index l.pools)
