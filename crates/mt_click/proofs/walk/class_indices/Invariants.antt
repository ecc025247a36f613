use Rattle.std.proofs.Common.{◌≡◌, ◌++◌, drop, map}
use Rattle.mt_click.specs.Walk.{bodies_in}
use Rattle.mt_click.proofs.walk.class_indices.Given as goal

abbrev pub invariant-loop-at : goal.invariant-loop-at
invariant-loop-at l = map (λ at. drop at l.actions) l.indices.items ++ bodies_in (drop l.at l.actions) ≡ bodies_in l.actions
