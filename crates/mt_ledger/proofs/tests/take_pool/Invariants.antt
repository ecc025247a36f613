use Rattle.std.proofs.Common.{◌≡◌, ◌<◌, [], length}
use Rattle.mt_ledger.specs.Pools.{ports_at, ranges}
use Rattle.mt_ledger.proofs.tests.take_pool.Given as goal

abbrev pub invariant-loop-refills : goal.invariant-loop-refills
invariant-loop-refills l = record { there : 0 < length l.ledger.stocks; pools : ranges l.shares ≡ ranges l.ledger.stocks; empty : ports_at l.shares 0 ≡ [] }
