-- What is told of a graph that is refused: a cause, an element and a line.
use Rattle.std.specs.Prelude.{◌≡◌, ⊤, ℕ, ◌<◌, List, take, slice_get, Option, Some, None}
use Rattle.mt_graph.specs.declared.Element.{Element}
use Rattle.mt_graph.specs.declared.Wire.{Wire}
use Rattle.mt_kinds.specs.declared.description.Misread.{Misread}
use Rattle.mt_kinds.specs.declared.description.Misread.TheVariants as misread
use Rattle.mt_elements.specs.declared.fault.ChainFault.{ChainFault}
use Rattle.mt_elements.specs.declared.fault.ChainWhy.{ChainWhy}
use Rattle.mt_elements.specs.declared.fault.ChainWhy.TheVariants.{UnknownClass, BadArgs}
use Rattle.mt_elements.specs.declared.fault.Refusal.{Refusal}
use Rattle.mt_elements.specs.declared.fault.Refusal.TheVariants.{Fault, Memory}
use Rattle.mt_elements.specs.ChainState.{ChainState}
use Rattle.mt_elements.specs.Described.{element_fault}
use Rattle.mt_elements.specs.Wired.{wire_fault}

-- ---- what is told

abbrev pub line_in : Option Element → ℕ
line_in (Some element) = element.line
line_in None = 0

-- the line of an element
abbrev pub line_of : List Element → ℕ → ℕ
line_of elements number = line_in (slice_get elements number)

-- a cause at an element, with the element's line
abbrev pub told_of : List Element → ChainWhy → ℕ → ChainFault
told_of elements why number = record { why = why; element = number; line = line_of elements number }

abbrev pub cause_of : Misread → ChainWhy
cause_of misread.UnknownClass = UnknownClass
cause_of misread.BadArgs = BadArgs

-- ---- the first of its kind

-- something is wrong with an element, and with none before it
pub record IsUnread (elements : List Element) (fault : ChainFault) : Type 0 where
  pub number : ℕ
  pub element : Element
  pub why : Misread
  pub stands : slice_get elements number ≡ Some element
  pub wrong : element_fault elements number element ≡ Some why
  pub first : (other : ℕ) (before : Element) → other < number → slice_get elements other ≡ Some before → element_fault elements other before ≡ None
  pub told : fault ≡ told_of elements (cause_of why) number

-- something is wrong with a wire, and with none before it
pub record IsMiswired (chain : ChainState) (fault : ChainFault) : Type 0 where
  pub number : ℕ
  pub wire : Wire
  pub why : ChainWhy
  pub element : ℕ
  pub stands : slice_get chain.wires number ≡ Some wire
  pub wrong : wire_fault chain (take number chain.wires) wire ≡ Some (why, element)
  pub first : (other : ℕ) (before : Wire) → other < number → slice_get chain.wires other ≡ Some before → wire_fault chain (take other chain.wires) before ≡ None
  pub told : fault ≡ record { why = why; element = element; line = wire.line }

abbrev pub Nowhere : (ℕ → Type 0) → Type 0
Nowhere P = (element : ℕ) → P element → ⊥

-- the lowest element of which something holds is told, with that cause
pub record IsLowest (elements : List Element) (why : ChainWhy) (P : ℕ → Type 0) (fault : ChainFault) : Type 0 where
  pub element : ℕ
  pub holds : P element
  pub lowest : (other : ℕ) → other < element → P other → ⊥
  pub told : fault ≡ told_of elements why element

-- the fault that is told is this one, or memory ran out
abbrev pub Tells : (ChainFault → Type 0) → Refusal → Type 0
Tells P (Fault fault) = P fault
Tells P Memory = ⊤

-- the cause is this one
abbrev pub IsCause : ChainWhy → ChainFault → Type 0
IsCause why fault = fault.why ≡ why
