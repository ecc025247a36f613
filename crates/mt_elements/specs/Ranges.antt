-- The numbers of a chain are in the ranges of the fields that they are written to.
use Rattle.std.specs.Prelude.{◌≡◌, ⊤, ℕ, ◌≤◌, ◌==◌, false, Contains, IfSome, Some, slice_get}
use Rattle.mt_kinds.specs.Ports.{mapper_at}
use Rattle.mt_kinds.specs.declared.kind.Kind.{Kind}
use Rattle.mt_kinds.specs.declared.kind.Kind.TheVariants.{EtherEncap, StoreIPAddress, IPRewriter}
use Rattle.mt_kinds.specs.declared.rewriter.Pool.{Pool}
use Rattle.mt_kinds.specs.declared.rewriter.SourcePort.{SourcePort}
use Rattle.mt_kinds.specs.declared.rewriter.SourcePort.TheVariants as port
use Rattle.mt_kinds.specs.declared.rewriter.Spec.{Spec}
use Rattle.mt_kinds.specs.declared.rewriter.Spec.TheVariants as spec
use Rattle.mt_kinds.specs.declared.rewriter.Template.{Template}
use Rattle.mt_elements.specs.ChainState.{ChainState, IsKind, mappers_of}

-- addresses have 32 bits, ports 16
abbrev pub IsAddress : ℕ → Type 0
IsAddress n = n ≤ 4294967295

abbrev pub IsPort : ℕ → Type 0
IsPort n = n ≤ 65535

abbrev pub SourceFits : SourcePort → Type 0
SourceFits port.Same = ⊤
SourceFits (port.One given) = IsPort given
SourceFits (port.Pool number) = ⊤

pub record TemplateFits (template : Template) : Type 0 where
  pub sa : IfSome template.sa IsAddress
  pub sp : SourceFits template.sp
  pub da : IfSome template.da IsAddress
  pub dp : IfSome template.dp IsPort

abbrev pub SpecFits : Spec → Type 0
SpecFits (spec.Pattern template) = TemplateFits template
SpecFits other = ⊤

-- An EtherType that is written is not that of ARP, 0x0806. An Ethernet address has 48 bits.
abbrev pub KindFits : Kind → Type 0
KindFits (EtherEncap ether_type src dst) = (ether_type ≤ 65535) × ((ether_type == 2054) ≡ false) × (src ≤ 281474976710655) × (dst ≤ 281474976710655)
KindFits (StoreIPAddress address which) = IsAddress address
KindFits (IPRewriter specs) = (s : Spec) → Contains specs s → SpecFits s
KindFits kind = ⊤

pub record IsInRange (chain : ChainState) : Type 0 where
  pub kinds : (element : ℕ) (kind : Kind) → IsKind chain element kind → KindFits kind
  pub mappers : (number : ℕ) (template : Template) → Contains (mapper_at (mappers_of chain.kinds) number) template → TemplateFits template
  pub pools : (number : ℕ) (pool : Pool) → slice_get chain.pools number ≡ Some pool → IsPort pool.hi
