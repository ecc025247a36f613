use Rattle.std.proofs.Common.{◌≡◌, ◌++◌, length, map}
use Rattle.mt_elements.specs.Described.{mapper_names}
use Rattle.mt_elements.proofs.describing.mapper_names.Given as goal

abbrev pub invariant-loop-rest : goal.invariant-loop-rest
invariant-loop-rest l = map (λ x. x.now) l.names.items ++ mapper_names l.rest ≡ mapper_names l.elements

abbrev pub decreases-loop-rest : goal.decreases-loop-rest
decreases-loop-rest l = length l.rest
