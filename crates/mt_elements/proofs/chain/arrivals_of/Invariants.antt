use Rattle.std.proofs.Common.{◌+◌}
use Rattle.mt_elements.proofs.CountsRaised.{ArrivalsTo}
use Rattle.mt_elements.proofs.chain.arrivals_of.Given as goal

abbrev pub invariant-loop-device : goal.invariant-loop-device
invariant-loop-device l = ArrivalsTo l.kinds l.arrivals.items (l.device + 1)
