use Rattle.mt_elements.proofs.Overlapping.{SharesNone}
use Rattle.mt_elements.proofs.pools.is_shared.Given as goal

abbrev pub invariant-loop-other : goal.invariant-loop-other
invariant-loop-other l = SharesNone l.pools l.number l.other
