use Rattle.std.proofs.Common.{◌≡◌, ◌++◌}
use Rattle.mt_elements.specs.Accepted.{behavior_of}
use Rattle.mt_synth.specs.Exits.{by_outputs, exit_forms}
use Rattle.mt_synth.specs.Symbols.{symbol_form}
use Rattle.mt_synth.proofs.passages.push_taken.Given as goal

abbrev pub invariant-loop-out : goal.invariant-loop-out
invariant-loop-out l = exit_forms l.exits.items ≡ exit_forms l.initial.exits.items ++ by_outputs ((behavior_of l.chain.kinds).leads l.at.0 l.at.1) l.out (symbol_form l.after)
