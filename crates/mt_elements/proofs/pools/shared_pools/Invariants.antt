use Rattle.mt_elements.proofs.Overlapping.{AreMarked}
use Rattle.mt_elements.proofs.pools.shared_pools.Given as goal

abbrev pub invariant-loop-number : goal.invariant-loop-number
invariant-loop-number l = AreMarked l.pools l.shared.items l.number
