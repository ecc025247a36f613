-- Rings along the wires of a chain of network elements, and the layers at which its elements are reached.
use Rattle.std.specs.Prelude.{◌≡◌, ℕ, ◌<◌, ◌≤◌, Bool, true, false, List, length, Contains}
use Rattle.mt_graph.specs.declared.Wire.{Wire}
use Rattle.mt_packet.specs.declared.layer.Layer.{Layer}
use Rattle.mt_packet.specs.declared.layer.Layer.TheVariants.{Frame}

-- What elements do with packets, by their numbers: whether a packet that entered an element by an input can leave it by
-- an output, whether packets enter the chain at an element, whether an element takes packets of a layer, and of which
-- layer a packet is that an element gives on at an output.
pub record Behavior : Type 0 where
  pub leads : ℕ → ℕ → ℕ → Bool
  pub enters : ℕ → Bool
  pub takes : ℕ → Layer → Bool
  pub behind : ℕ → Layer → ℕ → Layer

-- the input port that a wire leads to: an element and its input
abbrev pub target : Wire → ℕ × ℕ
target w = (w.to, w.into)

-- a packet that entered an element by an input can leave it by the output that a wire leaves
abbrev pub IsLeft : (ℕ → ℕ → ℕ → Bool) → ℕ × ℕ → Wire → Type 0
IsLeft leads p w = (w.from ≡ p.0) × (leads p.0 p.1 w.out ≡ true)

-- such a wire, of these
pub record IsStep (leads : ℕ → ℕ → ℕ → Bool) (wires : List Wire) (p : ℕ × ℕ) (w : Wire) : Type 0 where
  pub there : Contains wires w
  pub left : IsLeft leads p w

-- a way of one wire or more from an input port to an input port
pub data Passes : (ℕ → ℕ → ℕ → Bool) → List Wire → ℕ × ℕ → ℕ × ℕ → Type 0 where
  one : (leads : ℕ → ℕ → ℕ → Bool) (wires : List Wire) (p q : ℕ × ℕ) (w : Wire) → IsStep leads wires p w → target w ≡ q → Passes leads wires p q
  on : (leads : ℕ → ℕ → ℕ → Bool) (wires : List Wire) (p q r : ℕ × ℕ) (w : Wire) → Passes leads wires p q → IsStep leads wires q w → target w ≡ r → Passes leads wires p r

-- an element by one of whose inputs a packet can come again
abbrev pub OnRing : (ℕ → ℕ → ℕ → Bool) → List Wire → ℕ → Type 0
OnRing leads wires element = (input : ℕ) × Passes leads wires (element, input) (element, input)

-- The layers at which input ports are reached. Packets leave the elements where they enter the chain as frames, and an
-- element gives on no packet of a layer that it does not take.
pub data Reached : Behavior → List Wire → ℕ × ℕ → Layer → Type 0 where
  enters : (b : Behavior) (wires : List Wire) (p : ℕ × ℕ) (l : Layer) (w : Wire) → Contains wires w → b.enters w.from ≡ true → target w ≡ p → Frame ≡ l → Reached b wires p l
  onward : (b : Behavior) (wires : List Wire) (p q : ℕ × ℕ) (l m : Layer) (w : Wire) → Reached b wires p l → b.takes p.0 l ≡ true → IsStep b.leads wires p w
      → target w ≡ q → b.behind p.0 l w.out ≡ m → Reached b wires q m

-- an element that is reached at a layer which it does not take
abbrev pub Clashes : Behavior → List Wire → ℕ → Type 0
Clashes b wires element = (input : ℕ) × (l : Layer) × Reached b wires (element, input) l × (b.takes element l ≡ false)

-- ranks of input ports that every step lowers
pub record IsRank (leads : ℕ → ℕ → ℕ → Bool) (wires : List Wire) (rank : ℕ × ℕ → ℕ) : Type 0 where
  pub falls : (p : ℕ × ℕ) (w : Wire) → IsStep leads wires p w → rank (target w) < rank p
  pub bounded : (p : ℕ × ℕ) → rank p ≤ length wires
