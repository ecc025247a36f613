use Rattle.std.proofs.Common.{◌≡◌, map, take}
use Rattle.mt_ledger.specs.Pools.{none_of}
use Rattle.mt_ledger.proofs.shares.Shares.none.Given as goal

abbrev pub invariant-loop-range : goal.invariant-loop-range
invariant-loop-range l = l.portions.items ≡ map none_of (take l.range-index l.pools)
