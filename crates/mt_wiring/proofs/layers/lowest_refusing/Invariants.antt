use Rattle.mt_wiring.specs.Pushes.{IsAmong, IsLowest}
use Rattle.mt_wiring.specs.States.{ClashesAt}
use Rattle.mt_wiring.proofs.layers.lowest_refusing.Given as goal

abbrev pub invariant-loop-at : goal.invariant-loop-at
invariant-loop-at g l = IsLowest (IsAmong (λ k. ClashesAt (g.E.Elements.behavior l.elements)) l.states l.at) l.lowest
