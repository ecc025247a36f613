-- The first refusal of a graph. It is looked at the elements, at the wires, at outputs, rings, layers and pools, and at
-- the devices, in this order.
use Rattle.std.specs.Prelude.{◌≡◌, List}
use Rattle.mt_graph.specs.declared.Element.{Element}
use Rattle.mt_graph.specs.declared.Wire.{Wire}
use Rattle.mt_elements.specs.declared.fault.ChainFault.{ChainFault}
use Rattle.mt_elements.specs.declared.fault.ChainWhy.TheVariants.{Unwired, Cycle, LayerClash, PoolOverlap, NoDevice}
use Rattle.mt_elements.specs.ChainState.{ChainState}
use Rattle.mt_elements.specs.Described.{IsChainOf}
use Rattle.mt_elements.specs.Wired.{AreWired, HasOpen}
use Rattle.mt_elements.specs.Overlaps.{Overlaps}
use Rattle.mt_elements.specs.Accepted.{Rings, Misfits, LacksDevices}
use Rattle.mt_elements.specs.Told.{IsUnread, IsMiswired, IsLowest, Nowhere}

-- of a chain whose elements are these
pub data IsRefusedChain (elements : List Element) (chain : ChainState) (fault : ChainFault) : Type 0 where
  miswired : IsMiswired chain fault → IsRefusedChain elements chain fault
  unwired : AreWired chain → IsLowest elements Unwired (HasOpen chain) fault → IsRefusedChain elements chain fault
  rings : AreWired chain → Nowhere (HasOpen chain) → IsLowest elements Cycle (Rings chain) fault → IsRefusedChain elements chain fault
  layers : AreWired chain → Nowhere (HasOpen chain) → Nowhere (Rings chain) → IsLowest elements LayerClash (Misfits chain) fault
      → IsRefusedChain elements chain fault
  pools : AreWired chain → Nowhere (HasOpen chain) → Nowhere (Rings chain) → Nowhere (Misfits chain) → IsLowest elements PoolOverlap (Overlaps chain) fault
      → IsRefusedChain elements chain fault
  devices : AreWired chain → Nowhere (HasOpen chain) → Nowhere (Rings chain) → Nowhere (Misfits chain) → Nowhere (Overlaps chain) → LacksDevices chain
      → fault ≡ record { why = NoDevice; element = 0; line = 1 } → IsRefusedChain elements chain fault

-- the first refusal of a graph
pub data IsRefused (elements : List Element) (wires : List Wire) (fault : ChainFault) : Type 0 where
  unread : IsUnread elements fault → IsRefused elements wires fault
  refused : (chain : ChainState) → IsChainOf elements wires chain → IsRefusedChain elements chain fault → IsRefused elements wires fault
