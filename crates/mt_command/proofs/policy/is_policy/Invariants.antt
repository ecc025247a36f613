use Rattle.std.proofs.Common.{length, ◌≡◌, map}
use Rattle.mt_command.specs.Policies.{is_policy}
use Rattle.mt_command.proofs.policy.is_policy.Given as goal

abbrev pub invariant-loop-rest : goal.invariant-loop-rest
invariant-loop-rest l = is_policy (map (λ name. name.now) l.names) l.name ≡ is_policy (map (λ name. name.now) l.rest) l.name

abbrev pub decreases-loop-rest : goal.decreases-loop-rest
decreases-loop-rest l = length l.rest
