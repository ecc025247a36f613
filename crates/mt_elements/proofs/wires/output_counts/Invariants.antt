use Rattle.mt_elements.proofs.CountsRaised.{CountsTo}
use Rattle.mt_elements.proofs.wires.output_counts.Given as goal

abbrev pub invariant-loop-element : goal.invariant-loop-element
invariant-loop-element l = CountsTo l.layout l.counts.items l.element
