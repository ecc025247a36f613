use Rattle.std.proofs.Common.{◌≡◌, map, length, ◌++◌}
use Rattle.mt_command.specs.Parts.{BoundView, bound_view}
use Rattle.metron.specs.Inputs.{or_empty}
use Rattle.metron.proofs.ends.input_files.Given as goal

abbrev pub invariant-loop-rest : goal.invariant-loop-rest
invariant-loop-rest l = map (λ f. f.now) l.inputs.items ++ map (λ (b : BoundView). or_empty b.input) (map bound_view l.rest) ≡ map (λ (b : BoundView). or_empty b.input) (map bound_view l.initial.rest)

abbrev pub decreases-loop-rest : goal.decreases-loop-rest
decreases-loop-rest l = length l.rest
