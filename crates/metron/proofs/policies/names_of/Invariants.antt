use Rattle.std.proofs.Common.{◌≡◌, map, length, ◌++◌}
use Rattle.metron.proofs.policies.names_of.Given as goal

abbrev pub invariant-loop-rest : goal.invariant-loop-rest
invariant-loop-rest g l = map (λ name. name.now) l.names.items ++ map (λ policy. policy.name) l.rest ≡ map (λ policy. policy.name) l.policies

abbrev pub decreases-loop-rest : goal.decreases-loop-rest
decreases-loop-rest g l = length l.rest
