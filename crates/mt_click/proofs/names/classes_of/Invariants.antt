use Rattle.std.proofs.Common.{length, ◌≡◌, ◌++◌}
use Rattle.mt_click.specs.Names.{classes_in}
use Rattle.mt_click.proofs.names.classes_of.Given as goal

abbrev pub invariant-loop-rest : goal.invariant-loop-rest
invariant-loop-rest l = l.entries.items ++ classes_in l.rest ≡ classes_in l.phrases

abbrev pub decreases-loop-rest : goal.decreases-loop-rest
decreases-loop-rest l = length l.rest
