use Rattle.mt_elements.proofs.Overlapping.{NoneOverlaps}
use Rattle.mt_elements.proofs.pools.refuse_overlaps.Given as goal

abbrev pub invariant-loop-element : goal.invariant-loop-element
invariant-loop-element l = NoneOverlaps l.layout l.element
