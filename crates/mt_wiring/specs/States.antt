-- The states of packets: the input port that they come to, and their layer.
use Rattle.std.specs.Prelude.{◌≡◌, ℕ, true, false}
use Rattle.mt_graph.specs.declared.Wire.{Wire}
use Rattle.mt_packet.specs.declared.layer.Layer.{Layer}
use Rattle.mt_packet.specs.declared.layer.Layer.TheVariants.{Frame}
use Rattle.mt_wiring.specs.declared.layers.State.{State}
use Rattle.mt_wiring.specs.Ways.{Behavior, IsLeft}

-- a packet comes to an input port by a wire
abbrev pub state_at : Wire → Layer → State
state_at w l = record { element = w.to; input = w.into; layer = l }

-- packets enter the chain by a wire
abbrev pub EntersBy : Behavior → Wire → State → Type 0
EntersBy b w t = (b.enters w.from ≡ true) × (state_at w Frame ≡ t)

-- packets go on from a state by a wire
abbrev pub GoesOnBy : Behavior → State → Wire → State → Type 0
GoesOnBy b s w t = (b.takes s.element s.layer ≡ true) × IsLeft b.leads (s.element, s.input) w × (state_at w (b.behind s.element s.layer w.out) ≡ t)

-- the element of a state does not take its layer
abbrev pub ClashesAt : Behavior → State → ℕ → Type 0
ClashesAt b s element = (s.element ≡ element) × (b.takes s.element s.layer ≡ false)
