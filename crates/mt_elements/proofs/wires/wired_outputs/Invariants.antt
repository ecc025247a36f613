use Rattle.mt_elements.proofs.WiresTold.{IsWiring}
use Rattle.mt_elements.proofs.wires.wired_outputs.Given as goal

abbrev pub invariant-loop-number : goal.invariant-loop-number
invariant-loop-number l = IsWiring l.layout l.wired.keys l.number
