use Rattle.mt_wiring.specs.Pushes.{HasPushed, IsAmong}
use Rattle.mt_wiring.specs.Numbers.{Grows}
use Rattle.mt_wiring.specs.States.{GoesOnBy}
use Rattle.mt_wiring.proofs.WiresLeaving.{AtPlace}
use Rattle.mt_wiring.proofs.layers.push_onward.Given as goal

abbrev pub invariant-loop-at : goal.invariant-loop-at
invariant-loop-at g l = record {
  pushed : HasPushed l.initial.states.keys l.states.keys (IsAmong (AtPlace (λ k. GoesOnBy (g.E.Elements.behavior l.elements) l.from) l.wires) l.places l.at);
  grows : Grows l.initial.states.keys l.states.keys;
}
