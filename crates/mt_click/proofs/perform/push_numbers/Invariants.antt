use Rattle.std.proofs.Common.{◌≡◌, ◌++◌, length}
use Rattle.mt_click.specs.Elements.{scope_text}
use Rattle.mt_click.specs.Stacks.{numbers}
use Rattle.mt_click.proofs.perform.push_numbers.Given as goal

abbrev pub invariant-loop-rest : goal.invariant-loop-rest
invariant-loop-rest l = l.name.items ++ scope_text (numbers l.rest) ≡ l.initial.name.items ++ scope_text (numbers l.activations)

abbrev pub decreases-loop-rest : goal.decreases-loop-rest
decreases-loop-rest l = length l.rest
