-- What the elements of a graph are: their arguments read, mappers looked for by name, and then devices, mappers and
-- pools numbered.
use Rattle.std.specs.Prelude.{◌≡◌, ◌≤◌, ℕ, suc, ◌==◌, ◌&&◌, not, Bool, true, false, if◌then◌else◌, List, [], ◌∷◌, ◌++◌, fold, length, take, map, codes, slice_get, Option, Some, None, Result, Ok, Err}
use Rattle.std.specs.List.{list_any, list_all, filter, flat_map, position_or_len}
use Rattle.std.specs.Str.{bytes_eq}
use Rattle.mt_graph.specs.declared.Element.{Element}
use Rattle.mt_graph.specs.declared.Wire.{Wire}
use Rattle.mt_kinds.specs.Descriptions.{description_of}
use Rattle.mt_kinds.specs.declared.description.Description.{Description}
use Rattle.mt_kinds.specs.declared.description.Description.TheVariants.{FromDevice, ToDevice, Rewriter, Mapper, Settled}
use Rattle.mt_kinds.specs.declared.description.Misread.{Misread}
use Rattle.mt_kinds.specs.declared.description.Misread.TheVariants.{BadArgs}
use Rattle.mt_kinds.specs.declared.kind.Kind.{Kind}
use Rattle.mt_kinds.specs.declared.kind.Kind.TheVariants as kind
use Rattle.mt_kinds.specs.declared.rewriter.Pool.{Pool}
use Rattle.mt_kinds.specs.declared.rewriter.SourcePort.{SourcePort}
use Rattle.mt_kinds.specs.declared.rewriter.SourcePort.TheVariants as port
use Rattle.mt_kinds.specs.declared.rewriter.Spec.{Spec}
use Rattle.mt_kinds.specs.declared.rewriter.Spec.TheVariants as spec
use Rattle.mt_kinds.specs.declared.rewriter.Template.{Template}
use Rattle.mt_kinds.specs.declared.written.WrittenPort.{WrittenPort}
use Rattle.mt_kinds.specs.declared.written.WrittenPort.TheVariants.{Same, One, Range}
use Rattle.mt_kinds.specs.declared.written.WrittenSpec.{WrittenSpec}
use Rattle.mt_kinds.specs.declared.written.WrittenSpec.TheVariants as written
use Rattle.mt_kinds.specs.declared.written.WrittenTemplate.{WrittenTemplate}
use Rattle.mt_elements.specs.ChainState.{ChainState}

-- ---- names

-- what an element's class and arguments say
abbrev pub describe : Element → Result Description Misread
describe element = description_of element.class element.args

abbrev pub is_slash : ℕ → Bool
is_slash byte = byte == 47

-- how many bytes stand up to the last `/`, and that
unfoldable pub scope_length : List ℕ → ℕ
scope_length [] = 0
scope_length (byte ∷ bytes) = if list_any is_slash (byte ∷ bytes) then suc (scope_length bytes) else 0

-- the scope of an element, of its name
abbrev pub scope_of : List ℕ → List ℕ
scope_of name = take (scope_length name) name

abbrev pub is_mapper : Element → Bool
is_mapper element = bytes_eq element.class (codes "RoundRobinIPMapper")

-- the names of the mappers, in the order of the elements
abbrev pub mapper_names : List Element → List (List ℕ)
mapper_names elements = map (λ e. e.name) (filter is_mapper elements)

-- ---- what is wrong with an element

-- a specification names no mapper, or one of these names in the scope
abbrev pub is_known : List (List ℕ) → List ℕ → WrittenSpec → Bool
is_known names scope (written.Mapper name) = list_any (bytes_eq (scope ++ name)) names
is_known names scope spec = true

-- the device by which frames enter
abbrev pub entry_in : Description → List (List ℕ)
entry_in (FromDevice name) = name ∷ []
entry_in other = []

-- the device on which frames are sent
abbrev pub exit_in : Description → List (List ℕ)
exit_in (ToDevice name) = name ∷ []
exit_in other = []

abbrev pub when : Bool → Option Misread
when true = Some BadArgs
when false = None

-- what is wrong with an element that can be read by itself: a mapper that is not in its scope, or a device by which
-- frames enter at an element before it
abbrev pub misfit : List (List ℕ) → List (List ℕ) → List ℕ → Description → Option Misread
misfit names devices scope (FromDevice name) = when (list_any (bytes_eq name) devices)
misfit names devices scope (Rewriter specs) = when (not (list_all (is_known names scope) specs))
misfit names devices scope other = None

abbrev pub fault_in : List (List ℕ) → List (List ℕ) → List ℕ → Result Description Misread → Option Misread
fault_in names devices scope (Err why) = Some why
fault_in names devices scope (Ok description) = misfit names devices scope description

abbrev pub entry_read : Result Description Misread → List (List ℕ)
entry_read (Ok description) = entry_in description
entry_read (Err why) = []

-- the devices by which frames enter at some elements
abbrev pub entry_names : List Element → List (List ℕ)
entry_names elements = flat_map (λ e. entry_read (describe e)) elements

-- what is wrong with the element of that number, if anything is
abbrev pub element_fault : List Element → ℕ → Element → Option Misread
element_fault elements number element =
    fault_in (mapper_names elements) (entry_names (take number elements)) (scope_of element.name) (describe element)

-- nothing is wrong with any element
abbrev pub AreFaultless : List Element → Type 0
AreFaultless elements = (number : ℕ) (element : Element) → slice_get elements number ≡ Some element → element_fault elements number element ≡ None

-- an element has at most 1,048,576 arguments
abbrev pub HasFewArguments : Element → Type 0
HasFewArguments element = length element.args ≤ 1048576

-- ---- numbers

-- a value behind others, where it is not among them
abbrev pub added : {A : Type 0} → (A → A → Bool) → List A → A → List A
added same values value = if list_any (same value) values then values else values ++ value ∷ []

-- each value once, in the order of first appearance
abbrev pub firsts : {A : Type 0} → (A → A → Bool) → List A → List A
firsts same values = fold (added same) [] values

abbrev pub is_pool : Pool → Pool → Bool
is_pool pool other = pool.address == other.address && (pool.lo == other.lo && pool.hi == other.hi)

-- the pool of a template: a range of ports of an address
abbrev pub pool_at : Option ℕ → WrittenPort → List Pool
pool_at (Some address) (Range lo hi) = record { address = address; lo = lo; hi = hi } ∷ []
pool_at address port = []

abbrev pub pool_in : WrittenTemplate → List Pool
pool_in template = pool_at template.sa template.sp

abbrev pub spec_pool : WrittenSpec → List Pool
spec_pool (written.Pattern template) = pool_in template
spec_pool spec = []

-- the pools of an element, in the order of its arguments
abbrev pub pools_in : Description → List Pool
pools_in (Rewriter specs) = flat_map spec_pool specs
pools_in (Mapper templates) = flat_map pool_in templates
pools_in other = []

-- the devices by which frames enter, and all devices
abbrev pub entries_of : List Description → List (List ℕ)
entries_of descriptions = firsts bytes_eq (flat_map entry_in descriptions)

abbrev pub devices_of : List Description → List (List ℕ)
devices_of descriptions = firsts bytes_eq (flat_map entry_in descriptions ++ flat_map exit_in descriptions)

abbrev pub pools_of : List Description → List Pool
pools_of descriptions = firsts is_pool (flat_map pools_in descriptions)

-- ---- elements with their numbers

-- a source port, where these are the pools
abbrev pub port_of : List Pool → Option ℕ → WrittenPort → SourcePort
port_of pools address Same = port.Same
port_of pools address (One number) = port.One number
port_of pools (Some address) (Range lo hi) = port.Pool (position_or_len (is_pool (record { address = address; lo = lo; hi = hi })) pools)
port_of pools None (Range lo hi) = port.Same

abbrev pub template_of : List Pool → WrittenTemplate → Template
template_of pools t = record { sa = t.sa; sp = port_of pools t.sa t.sp; da = t.da; dp = t.dp; fout = t.fout; rout = t.rout }

-- a specification in a scope, where these are the names of the mappers
abbrev pub spec_of : List Pool → List (List ℕ) → List ℕ → WrittenSpec → Spec
spec_of pools names scope written.Drop = spec.Drop
spec_of pools names scope (written.Pass out) = spec.Pass out
spec_of pools names scope (written.Keep fout rout) = spec.Keep fout rout
spec_of pools names scope (written.Pattern template) = spec.Pattern (template_of pools template)
spec_of pools names scope (written.Mapper name) = spec.Mapper (position_or_len (bytes_eq (scope ++ name)) names)

-- the number of a device
abbrev pub device_of : List (List ℕ) → List ℕ → ℕ
device_of devices name = suc (position_or_len (bytes_eq name) devices)

-- an element of a scope
abbrev pub kind_of : List (List ℕ) → List Pool → List (List ℕ) → List ℕ → Description → Kind
kind_of devices pools names scope (FromDevice name) = kind.FromDevice (device_of devices name)
kind_of devices pools names scope (ToDevice name) = kind.ToDevice (device_of devices name)
kind_of devices pools names scope (Rewriter specs) = kind.IPRewriter (map (spec_of pools names scope) specs)
kind_of devices pools names scope (Mapper templates) = kind.RoundRobinIPMapper (map (template_of pools) templates)
kind_of devices pools names scope (Settled kind) = kind

-- the elements with these descriptions
unfoldable pub kinds_of : List (List ℕ) → List Pool → List (List ℕ) → List Element → List Description → List Kind
kinds_of devices pools names (element ∷ elements) (description ∷ descriptions) =
    kind_of devices pools names (scope_of element.name) description ∷ kinds_of devices pools names elements descriptions
kinds_of devices pools names elements descriptions = []

-- the chain that elements and wires make
abbrev pub chain_of : List Element → List Wire → List Description → ChainState
chain_of elements wires descriptions = record {
  kinds = kinds_of (devices_of descriptions) (pools_of descriptions) (mapper_names elements) elements descriptions;
  wires = wires;
  devices = devices_of descriptions;
  entries = length (entries_of descriptions);
  pools = pools_of descriptions;
}

-- Each element is one of these descriptions, and nothing is wrong with it; then this is the chain that they make.
pub record IsChainOf (elements : List Element) (wires : List Wire) (chain : ChainState) : Type 0 where
  pub descriptions : List Description
  pub described : map describe elements ≡ map Ok descriptions
  pub faultless : AreFaultless elements
  pub chain_is : chain ≡ chain_of elements wires descriptions
