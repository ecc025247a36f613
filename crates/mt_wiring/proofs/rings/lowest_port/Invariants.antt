use Rattle.std.proofs.Common.{◌<◌, length, IfSome}
use Rattle.mt_wiring.proofs.rings.lowest_port.Given as goal

abbrev pub invariant-loop-number : goal.invariant-loop-number
invariant-loop-number l = IfSome l.first (λ n. n < length l.ports)
