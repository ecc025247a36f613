use Rattle.std.proofs.Common.{◌≡◌, map, replicate}
use Rattle.mt_ledger.specs.Pools.{none_of}
use Rattle.mt_ledger.proofs.ledger.Ledger.open.Given as goal

abbrev pub invariant-servers : goal.invariant-servers
invariant-servers l = l.shares.items ≡ replicate l.counter (map none_of l.pools)
