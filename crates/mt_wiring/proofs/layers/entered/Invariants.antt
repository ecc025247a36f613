use Rattle.std.proofs.Common.{[]}
use Rattle.mt_wiring.specs.Pushes.{HasPushed, IsAmong}
use Rattle.mt_wiring.specs.States.{EntersBy}
use Rattle.mt_wiring.proofs.layers.entered.Given as goal

abbrev pub invariant-loop-at : goal.invariant-loop-at
invariant-loop-at g l = HasPushed [] l.states.keys (IsAmong (λ k. EntersBy (g.E.Elements.behavior l.elements)) l.wires l.at)
