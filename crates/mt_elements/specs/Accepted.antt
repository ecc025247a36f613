-- Which chains are accepted.
use Rattle.std.specs.Prelude.{◌≡◌, ◌<◌, ◌⊎◌, ℕ, Bool, true, false, List, length, slice_get, Option, Some, None}
use Rattle.mt_packet.specs.declared.layer.Layer.{Layer}
use Rattle.mt_kinds.specs.Layers.{takes, layer_behind}
use Rattle.mt_kinds.specs.Ports.{leads}
use Rattle.mt_kinds.specs.declared.kind.Kind.{Kind}
use Rattle.mt_kinds.specs.declared.kind.Kind.TheVariants.{FromDevice}
use Rattle.mt_kinds.specs.declared.rewriter.Template.{Template}
use Rattle.mt_wiring.specs.Ways.{Behavior, OnRing, Clashes}
use Rattle.mt_elements.specs.ChainState.{ChainState, mappers_of}
use Rattle.mt_elements.specs.Overlaps.{Overlaps}
use Rattle.mt_elements.specs.Wired.{AreWired, HasOpen}

-- ---- what elements do with packets

abbrev pub leads_at : List (List Template) → Option Kind → ℕ → ℕ → Bool
leads_at mappers (Some kind) input out = leads mappers kind input out
leads_at mappers None input out = false

abbrev pub enters_at : Option Kind → Bool
enters_at (Some (FromDevice device)) = true
enters_at kind = false

abbrev pub takes_at : Option Kind → Layer → Bool
takes_at (Some kind) layer = takes kind layer
takes_at None layer = false

abbrev pub behind_at : Option Kind → Layer → ℕ → Layer
behind_at (Some kind) layer out = layer_behind kind layer out
behind_at None layer out = layer

-- what the elements do with packets, by their numbers
abbrev pub behavior_of : List Kind → Behavior
behavior_of kinds = record {
  leads = λ element input out. leads_at (mappers_of kinds) (slice_get kinds element) input out;
  enters = λ element. enters_at (slice_get kinds element);
  takes = λ element layer. takes_at (slice_get kinds element) layer;
  behind = λ element layer out. behind_at (slice_get kinds element) layer out;
}

-- an input of the element is on a ring
abbrev pub Rings : ChainState → ℕ → Type 0
Rings chain element = OnRing (behavior_of chain.kinds).leads chain.wires element

-- packets reach the element at a layer that it does not take
abbrev pub Misfits : ChainState → ℕ → Type 0
Misfits chain element = Clashes (behavior_of chain.kinds) chain.wires element

-- ---- devices

-- frames enter by no device, or there are more than 32
abbrev pub LacksDevices : ChainState → Type 0
LacksDevices chain = (chain.entries ≡ 0) ⊎ (32 < length chain.devices)

-- ---- all of them

pub record IsAccepted (chain : ChainState) : Type 0 where
  -- each wire joins ports that are there, and each output is wired once or may be open
  pub wired : AreWired chain
  pub closed : (element : ℕ) → HasOpen chain element → ⊥
  -- no input port is on a ring
  pub acyclic : (element : ℕ) → Rings chain element → ⊥
  -- each element takes the layers at which it is reached
  pub fits : (element : ℕ) → Misfits chain element → ⊥
  -- unequal pools have no port in common
  pub apart : (element : ℕ) → Overlaps chain element → ⊥
  -- there are 1 to 32 devices, and frames enter by one of them
  pub devices : LacksDevices chain → ⊥
