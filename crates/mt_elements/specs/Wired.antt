-- Wires between ports that are there, and outputs that are wired.
use Rattle.std.specs.Prelude.{◌≡◌, ℕ, ◌<◌, Bool, true, false, nat_lt, not, if◌then◌else◌, List, take, slice_get, Option, Some, None}
use Rattle.std.specs.List.{list_any}
use Rattle.mt_graph.specs.declared.Wire.{Wire}
use Rattle.mt_kinds.specs.Ports.{may_be_open}
use Rattle.mt_kinds.specs.declared.kind.Kind.{Kind}
use Rattle.mt_elements.specs.declared.fault.ChainWhy.{ChainWhy}
use Rattle.mt_elements.specs.declared.fault.ChainWhy.TheVariants.{NoSuchPort, TwiceWired}
use Rattle.mt_elements.specs.declared.wires.Output.{Output}
use Rattle.mt_elements.specs.ChainState.{ChainState, is_from, next_of, inputs_of, outputs_of}

-- the element that a wire names a port of which it does not have: the one that it leaves, or else the one that it
-- comes to
abbrev pub missing_port : ChainState → Wire → Option ℕ
missing_port chain wire =
    if not (nat_lt wire.out (outputs_of chain wire.from)) then Some wire.from
    else (if not (nat_lt wire.into (inputs_of chain wire.to)) then Some wire.to else None)

abbrev pub or_twice : ℕ → Bool → Option ℕ → Option (ChainWhy × ℕ)
or_twice from again (Some element) = Some (NoSuchPort, element)
or_twice from true None = Some (TwiceWired, from)
or_twice from false None = None

-- What is wrong with a wire behind others, and at which element: it joins a port that is not there, or leaves an output
-- that another before it leaves.
abbrev pub wire_fault : ChainState → List Wire → Wire → Option (ChainWhy × ℕ)
wire_fault chain before wire = or_twice wire.from (list_any (is_from wire.from wire.out) before) (missing_port chain wire)

-- each wire joins ports that are there, and no two leave one output
abbrev pub AreWired : ChainState → Type 0
AreWired chain = (number : ℕ) (wire : Wire) → slice_get chain.wires number ≡ Some wire → wire_fault chain (take number chain.wires) wire ≡ None

abbrev pub free_at : Option Kind → ℕ → Bool
free_at (Some kind) out = may_be_open kind out
free_at None out = false

-- an output of an element is not wired, though it has to be
pub record HasOpen (chain : ChainState) (element : ℕ) : Type 0 where
  pub out : ℕ
  pub there : out < outputs_of chain element
  pub unwired : next_of chain element out ≡ None
  pub bound : free_at (slice_get chain.kinds element) out ≡ false

-- the output that a wire leaves
abbrev pub output_of : Wire → Output
output_of wire = record { element = wire.from; out = wire.out }
