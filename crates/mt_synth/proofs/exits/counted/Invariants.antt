use Rattle.std.proofs.Common.{◌≡◌}
use Rattle.mt_synth.specs.Exits.{counted, exit_forms}
use Rattle.mt_synth.specs.Symbols.{symbol_form}
use Rattle.mt_synth.proofs.exits.counted.Given as goal

abbrev pub invariant-loop-out : goal.invariant-loop-out
invariant-loop-out l = exit_forms l.exits.items ≡ counted l.out (symbol_form l.symbol)
