-- Unequal pools of one address that have a port in common.
use Rattle.std.specs.Prelude.{◌≡◌, ◌≢◌, ℕ, ◌≤◌, List, [], ◌∷◌, slice_get, Contains, Some}
use Rattle.std.specs.List.{flat_map}
use Rattle.mt_kinds.specs.declared.kind.Kind.{Kind}
use Rattle.mt_kinds.specs.declared.kind.Kind.TheVariants.{IPRewriter, RoundRobinIPMapper}
use Rattle.mt_kinds.specs.declared.rewriter.Pool.{Pool}
use Rattle.mt_kinds.specs.declared.rewriter.SourcePort.{SourcePort}
use Rattle.mt_kinds.specs.declared.rewriter.SourcePort.TheVariants as port
use Rattle.mt_kinds.specs.declared.rewriter.Spec.{Spec}
use Rattle.mt_kinds.specs.declared.rewriter.Spec.TheVariants.{Pattern}
use Rattle.mt_elements.specs.ChainState.{ChainState, IsKind}

abbrev pub pool_number : SourcePort → List ℕ
pool_number (port.Pool number) = number ∷ []
pool_number port = []

abbrev pub spec_numbers : Spec → List ℕ
spec_numbers (Pattern template) = pool_number template.sp
spec_numbers spec = []

-- the numbers of the pools that an element holds
abbrev pub pool_numbers : Kind → List ℕ
pool_numbers (IPRewriter specs) = flat_map spec_numbers specs
pool_numbers (RoundRobinIPMapper templates) = flat_map (λ t. pool_number t.sp) templates
pool_numbers kind = []

-- two pools of one address have a port in common
pub record ShareAPort (first second : Pool) : Type 0 where
  pub address : first.address ≡ second.address
  pub below : first.lo ≤ second.hi
  pub above : second.lo ≤ first.hi

-- two pools by their numbers, which are not one
pub record SharesWith (pools : List Pool) (number other : ℕ) : Type 0 where
  pub apart : number ≢ other
  pub first : Pool
  pub first_is : slice_get pools number ≡ Some first
  pub second : Pool
  pub second_is : slice_get pools other ≡ Some second
  pub shared : ShareAPort first second

-- a pool has a port in common with another
abbrev pub IsShared : List Pool → ℕ → Type 0
IsShared pools number = (other : ℕ) × SharesWith pools number other

-- an element holds a pool that has a port in common with another
pub record Overlaps (chain : ChainState) (element : ℕ) : Type 0 where
  pub kind : Kind
  pub stands : IsKind chain element kind
  pub number : ℕ
  pub holds : Contains (pool_numbers kind) number
  pub shared : IsShared chain.pools number
