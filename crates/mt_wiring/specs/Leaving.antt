-- The wires by the element that they leave.
use Rattle.std.specs.Prelude.{◌≡◌, ℕ, ◌<◌, List, length, slice_get, Some, Contains}
use Rattle.mt_graph.specs.declared.Wire.{Wire}
use Rattle.mt_reach.specs.Reach.{targets_of}

-- the wire at a place leaves an element
pub record IsExit (wires : List Wire) (element place : ℕ) : Type 0 where
  pub wire : Wire
  pub is : slice_get wires place ≡ Some wire
  pub leaves : wire.from ≡ element

-- places of wires, those of all that leave an element among them
pub record LeaveAll (wires : List Wire) (element : ℕ) (places : List ℕ) : Type 0 where
  pub within : (place : ℕ) → Contains places place → place < length wires
  pub all : (place : ℕ) → IsExit wires element place → Contains places place

-- for each element the places of the wires that leave it
abbrev pub AreLeaving : List Wire → List (List ℕ) → Type 0
AreLeaving wires groups = (element : ℕ) → LeaveAll wires element (targets_of groups element)
