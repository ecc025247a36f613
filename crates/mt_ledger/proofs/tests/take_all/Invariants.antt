use Rattle.std.proofs.Common.{◌≡◌, ◌<◌, length}
use Rattle.mt_ledger.specs.Pools.{ports_at, ranges}
use Rattle.mt_ledger.proofs.tests.take_all.Given as goal

abbrev pub invariant-loop-token : goal.invariant-loop-token
invariant-loop-token l = record { there : 0 < length l.shares; pools : ranges l.shares ≡ ranges l.fn.shares }

abbrev pub decreases-loop-token : goal.decreases-loop-token
decreases-loop-token l = length (ports_at l.shares 0)
