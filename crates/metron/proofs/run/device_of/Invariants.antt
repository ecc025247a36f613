use Rattle.std.proofs.Common.{◌≡◌, length, drop}
use Rattle.metron.proofs.run.device_of.Given as goal

abbrev pub invariant-loop-rest : goal.invariant-loop-rest
invariant-loop-rest l = l.rest ≡ drop l.index l.bound

abbrev pub decreases-loop-rest : goal.decreases-loop-rest
decreases-loop-rest l = length l.rest
