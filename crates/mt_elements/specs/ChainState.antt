-- A chain as contracts see it: its elements, the wires between them, its devices and its pools.
use Rattle.std.specs.Prelude.{◌≡◌, ℕ, suc, max, ◌==◌, ◌&&◌, Bool, false, if◌then◌else◌, List, [], ◌∷◌, ◌++◌, slice_get, position, Option, Some, None, option_map}
use Rattle.std.specs.List.{find}
use Rattle.mt_graph.specs.declared.Wire.{Wire}
use Rattle.mt_kinds.specs.declared.kind.Kind.{Kind}
use Rattle.mt_kinds.specs.declared.kind.Kind.TheVariants.{FromDevice, IPRewriter, RoundRobinIPMapper}
use Rattle.mt_kinds.specs.declared.rewriter.Pool.{Pool}
use Rattle.mt_kinds.specs.declared.rewriter.Spec.{Spec}
use Rattle.mt_kinds.specs.declared.rewriter.Template.{Template}
use Rattle.mt_kinds.specs.Ports.{input_count, output_count}

-- The elements by number, from 0; the wires in the order of the text; the names of the devices, of which the
-- first, as many as the entries, are those on which frames arrive, device 1 first; the pools by number, from 0.
pub record ChainState : Type 0 where
  pub kinds : List Kind
  pub wires : List Wire
  pub devices : List (List ℕ)
  pub entries : ℕ
  pub pools : List Pool

-- the element of that number is of that kind
abbrev pub IsKind : ChainState → ℕ → Kind → Type 0
IsKind chain element kind = slice_get chain.kinds element ≡ Some kind

-- ---- mappers

-- the patterns of a mapper
abbrev pub patterns_in : Kind → List (List Template)
patterns_in (RoundRobinIPMapper templates) = templates ∷ []
patterns_in kind = []

-- the patterns of each mapper, by the mappers' numbers, from 0 in the order of the elements
unfoldable pub mappers_of : List Kind → List (List Template)
mappers_of [] = []
mappers_of (kind ∷ kinds) = patterns_in kind ++ mappers_of kinds

-- ---- rewriters

-- the specifications of an element, none where it is no rewriter
abbrev pub specs_in : Kind → List Spec
specs_in (IPRewriter specs) = specs
specs_in kind = []

-- ---- wires

-- the wire leaves the element by that output
abbrev pub is_from : ℕ → ℕ → Wire → Bool
is_from element out wire = element == wire.from && out == wire.out

-- the input port that a wire leads to: an element and its input
abbrev pub target : Wire → ℕ × ℕ
target wire = (wire.to, wire.into)

-- where an output leads, where it is wired
abbrev pub next_of : ChainState → ℕ → ℕ → Option (ℕ × ℕ)
next_of chain element out = option_map target (find (is_from element out) chain.wires)

-- one more than the output by which a wire leaves an element, 0 where it leaves another
abbrev pub wired_by : Wire → ℕ → ℕ
wired_by wire element = if wire.from == element then suc wire.out else 0

-- one more than the greatest output of an element that is wired, 0 where none is
unfoldable pub wired_of : List Wire → ℕ → ℕ
wired_of [] element = 0
wired_of (wire ∷ wires) element = max (wired_by wire element) (wired_of wires element)

-- ---- ports

abbrev pub inputs_in : Option Kind → ℕ
inputs_in None = 0
inputs_in (Some kind) = input_count kind

-- how many inputs an element has
abbrev pub inputs_of : ChainState → ℕ → ℕ
inputs_of chain element = inputs_in (slice_get chain.kinds element)

abbrev pub outputs_in : List (List Template) → ℕ → Option Kind → ℕ
outputs_in mappers wired None = 0
outputs_in mappers wired (Some kind) = output_count mappers kind wired

-- how many outputs it has
abbrev pub outputs_of : ChainState → ℕ → ℕ
outputs_of chain element = outputs_in (mappers_of chain.kinds) (wired_of chain.wires element) (slice_get chain.kinds element)

-- ---- devices

-- frames of that device enter by this element
abbrev pub is_entry : ℕ → Kind → Bool
is_entry device (FromDevice number) = number == device
is_entry device kind = false

-- the element by which the frames of a device enter
abbrev pub entry_of : ChainState → ℕ → Option ℕ
entry_of chain device = position (is_entry device) chain.kinds
