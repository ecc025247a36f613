use Rattle.std.proofs.Common.{◌≡◌, length, map}
use Rattle.mt_elements.specs.Described.{is_known}
use Rattle.std.specs.List.{list_all}
use Rattle.mt_elements.proofs.describing.are_known.Given as goal

abbrev pub invariant-loop-rest : goal.invariant-loop-rest
invariant-loop-rest l = list_all (is_known (map (λ x. x.now) l.names) l.scope) l.rest ≡ list_all (is_known (map (λ x. x.now) l.names) l.scope) l.specs

abbrev pub decreases-loop-rest : goal.decreases-loop-rest
decreases-loop-rest l = length l.rest
