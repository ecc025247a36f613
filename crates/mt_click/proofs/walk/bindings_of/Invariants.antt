use Rattle.std.proofs.Common.{◌≡◌, ◌++◌, length}
use Rattle.mt_click.specs.Walk.{bound}
use Rattle.mt_click.proofs.walk.bindings_of.Given as goal

abbrev pub invariant-loop-rest : goal.invariant-loop-rest
invariant-loop-rest l = l.bindings.items ++ bound l.text l.actions l.rest ≡ bound l.text l.body l.arguments

abbrev pub decreases-loop-rest : goal.decreases-loop-rest
decreases-loop-rest l = length l.rest
