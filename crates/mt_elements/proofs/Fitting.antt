-- The numbers of a chain are in their ranges, since those that its elements are read from are.
use Rattle.std.proofs.Common.{◌≡◌, ap, sym, subst, ⊎_elim, ℕ, zero, suc, List, [], ◌∷◌, map, refl}
use Rattle.std.specs.Prelude.{Option, Some, None, Ok, slice_get, Contains}
use Rattle.std.specs.List.{flat_map}
use Rattle.std.proofs.lemmas.List.Elements.{Contains-append_cases}
use Rattle.std.proofs.lemmas.Option.{same_Some}
use Rattle.mt_graph.specs.declared.Element.{Element}
use Rattle.mt_graph.specs.declared.Wire.{Wire}
use Rattle.mt_kinds.specs.Ports.{mapper_at, templates_at}
use Rattle.mt_kinds.specs.declared.description.Description.{Description}
use Rattle.mt_kinds.specs.declared.description.Description.TheVariants.{FromDevice, ToDevice, Rewriter, Mapper, Settled}
use Rattle.mt_kinds.specs.declared.kind.Kind.{Kind}
use Rattle.mt_kinds.specs.declared.kind.Kind.TheVariants as kind
use Rattle.mt_kinds.specs.declared.rewriter.Pool.{Pool}
use Rattle.mt_kinds.specs.declared.rewriter.Template.{Template}
use Rattle.mt_kinds.specs.declared.written.WrittenPort.{WrittenPort}
use Rattle.mt_kinds.specs.declared.written.WrittenPort.TheVariants.{Same, One, Range}
use Rattle.mt_kinds.specs.declared.written.WrittenSpec.{WrittenSpec}
use Rattle.mt_kinds.specs.declared.written.WrittenSpec.TheVariants as written
use Rattle.mt_kinds.specs.declared.written.WrittenTemplate.{WrittenTemplate}
use Rattle.mt_lists.proofs.Members.{first_in, later_in, cases_in, none_in}
use Rattle.mt_elements.specs.ChainState.{ChainState, IsKind, patterns_in, mappers_of}
use Rattle.mt_elements.specs.Described.{describe, scope_of, mapper_names, is_pool, pool_at, pool_in, spec_pool, pools_in, pools_of, devices_of, port_of, template_of, spec_of, kind_of, chain_of}
use Rattle.mt_elements.specs.Ranges.{IsPort, SourceFits, TemplateFits, SpecFits, KindFits, IsInRange}
use Rattle.mt_elements.proofs.Classes.{IsPlain, settled_is, fits}
use Rattle.mt_elements.proofs.Firsts.{source}
use Rattle.mt_elements.proofs.Made.{made, element_at, from_flat, from_map}
use Rattle.mt_elements.proofs.Ranges.{WrittenPortFits, WrittenFits, WrittenSpecFits}

member : {X : Type 0} (xs : List X) (n : ℕ) (x : X) → slice_get xs n ≡ Some x → Contains xs x
member [] n x h = absurd cc
member (y ∷ ys) zero x h = subst (Contains (y ∷ ys)) (same_Some y x h) (first_in y ys)
member (y ∷ ys) (suc n) x h = later_in y ys x (member ys n x h)

-- ---- templates and specifications

source_fits : (pools : List Pool) (address : Option ℕ) (port : WrittenPort) → WrittenPortFits port → SourceFits (port_of pools address port)
source_fits pools None Same h = tt
source_fits pools None (One number) h = h
source_fits pools None (Range lo hi) h = tt
source_fits pools (Some address) Same h = tt
source_fits pools (Some address) (One number) h = h
source_fits pools (Some address) (Range lo hi) h = tt

template_fits : (pools : List Pool) (t : WrittenTemplate) → WrittenFits t → TemplateFits (template_of pools t)
template_fits pools t h = record { sa = h.sa; sp = source_fits pools t.sa t.sp h.sp; da = h.da; dp = h.dp }

spec_fits : (pools : List Pool) (names : List (List ℕ)) (scope : List ℕ) (s : WrittenSpec) → WrittenSpecFits s → SpecFits (spec_of pools names scope s)
spec_fits pools names scope written.Drop h = tt
spec_fits pools names scope (written.Pass out) h = tt
spec_fits pools names scope (written.Keep fout rout) h = tt
spec_fits pools names scope (written.Pattern t) h = template_fits pools t h
spec_fits pools names scope (written.Mapper name) h = tt

-- ---- elements

plain_fits : (k : Kind) → IsPlain k → KindFits k
plain_fits (kind.IPRewriter specs) h = absurd h
plain_fits (kind.EtherEncap ether_type src dst) h = h
plain_fits (kind.StoreIPAddress address which) h = h
plain_fits other h = tt

module _ (devices : List (List ℕ)) (pools : List Pool) (names : List (List ℕ)) (scope : List ℕ) where
  kind_fits : (d : Description) → settled_is d → KindFits (kind_of devices pools names scope d)
  kind_fits (FromDevice name) h = tt
  kind_fits (ToDevice name) h = tt
  kind_fits (Rewriter specs) h = λ s c.
      let from = from_map (spec_of pools names scope) specs s c in
      subst SpecFits from.2 (spec_fits pools names scope from.0 (h from.0 from.1))
  kind_fits (Mapper templates) h = tt
  kind_fits (Settled k) h = plain_fits k h

  mapped_fit : (d : Description) (ts : List Template) → settled_is d → kind_of devices pools names scope d ≡ kind.RoundRobinIPMapper ts → (t : Template) → Contains ts t → TemplateFits t
  mapped_fit (FromDevice name) ts s h t c = absurd cc
  mapped_fit (ToDevice name) ts s h t c = absurd cc
  mapped_fit (Rewriter specs) ts s h t c = absurd cc
  mapped_fit (Mapper templates) ts s h t c =
      let e : map (template_of pools) templates ≡ ts = cc in
      let from = from_map (template_of pools) templates t (subst (λ l. Contains l t) (sym e) c) in
      subst TemplateFits from.2 (template_fits pools from.0 (s from.0 from.1))
  mapped_fit (Settled k) ts s h t c = absurd (subst IsPlain h s)

-- ---- mappers

of_patterns : (k : Kind) (ts : List Template) → Contains (patterns_in k) ts → k ≡ kind.RoundRobinIPMapper ts
of_patterns (kind.RoundRobinIPMapper own) ts c = ⊎_elim (λ here. ap kind.RoundRobinIPMapper here) (λ later. none_in ts later) (cases_in own [] ts c)
of_patterns other ts c = none_in ts c

of_mappers : (kinds : List Kind) (ts : List Template) → Contains (mappers_of kinds) ts → (n : ℕ) × (slice_get kinds n ≡ Some (kind.RoundRobinIPMapper ts))
unfolding mappers_of
of_mappers [] ts c = none_in ts c
of_mappers (k ∷ ks) ts c =
    ⊎_elim (λ here. (0, ap Some (of_patterns k ts here))) (λ later. let rest = of_mappers ks ts later in (suc rest.0, rest.1))
    (Contains-append_cases (patterns_in k) (mappers_of ks) ts c)

-- ---- pools

at_fits : (address : Option ℕ) (port : WrittenPort) (pool : Pool) → WrittenPortFits port → Contains (pool_at address port) pool → IsPort pool.hi
at_fits None Same pool h c = none_in pool c
at_fits None (One number) pool h c = none_in pool c
at_fits None (Range lo hi) pool h c = none_in pool c
at_fits (Some address) Same pool h c = none_in pool c
at_fits (Some address) (One number) pool h c = none_in pool c
at_fits (Some address) (Range lo hi) pool h c = ⊎_elim (λ here. subst (λ (p : Pool). IsPort p.hi) here h) (λ later. none_in pool later) (cases_in _ [] pool c)

spec_pool_fits : (s : WrittenSpec) (pool : Pool) → WrittenSpecFits s → Contains (spec_pool s) pool → IsPort pool.hi
spec_pool_fits written.Drop pool h c = none_in pool c
spec_pool_fits (written.Pass out) pool h c = none_in pool c
spec_pool_fits (written.Keep fout rout) pool h c = none_in pool c
spec_pool_fits (written.Pattern t) pool h c = at_fits t.sa t.sp pool h.sp c
spec_pool_fits (written.Mapper name) pool h c = none_in pool c

pool_fits : (d : Description) (pool : Pool) → settled_is d → Contains (pools_in d) pool → IsPort pool.hi
pool_fits (FromDevice name) pool h c = none_in pool c
pool_fits (ToDevice name) pool h c = none_in pool c
pool_fits (Rewriter specs) pool h c =
    let from = from_flat spec_pool specs pool c in
    spec_pool_fits from.1 pool (h from.1 (member specs from.0 from.1 from.2)) from.3
pool_fits (Mapper templates) pool h c =
    let from = from_flat pool_in templates pool c in
    let good = h from.1 (member templates from.0 from.1 from.2) in
    at_fits from.1.sa from.1.sp pool good.sp from.3
pool_fits (Settled k) pool h c = none_in pool c

-- ---- a chain

module _ (elements : List Element) (wires : List Wire) (descriptions : List Description) (described : map describe elements ≡ map Ok descriptions) where
  abbrev devices : List (List ℕ)
  devices = devices_of descriptions

  abbrev pools : List Pool
  pools = pools_of descriptions

  abbrev names : List (List ℕ)
  names = mapper_names elements

  abbrev chain : ChainState
  chain = chain_of elements wires descriptions

  settled : (n : ℕ) (d : Description) → slice_get descriptions n ≡ Some d → settled_is d
  settled n d at =
      let e = element_at elements descriptions described n d at in
      let known = fits e.0.class e.0.args d e.2 in
      known.settled

  kinds_fit : (element : ℕ) (k : Kind) → IsKind chain element k → KindFits k
  kinds_fit element k h =
      let m = made devices pools names elements descriptions element k h in
      subst KindFits m.kind_is (kind_fits devices pools names (scope_of m.element.name) m.description (settled element m.description m.description_is))

  templates_fit : (ts : List Template) → Contains (mappers_of chain.kinds) ts → (t : Template) → Contains ts t → TemplateFits t
  templates_fit ts c =
      let of = of_mappers chain.kinds ts c in
      let m = made devices pools names elements descriptions of.0 (kind.RoundRobinIPMapper ts) of.1 in
      mapped_fit devices pools names (scope_of m.element.name) m.description ts (settled of.0 m.description m.description_is) m.kind_is

  mappers_fit : (number : ℕ) (t : Template) → Contains (mapper_at (mappers_of chain.kinds) number) t → TemplateFits t
  mappers_fit number t c = of_one (slice_get (mappers_of chain.kinds) number) refl c
    where
      of_one : (o : Option (List Template)) → slice_get (mappers_of chain.kinds) number ≡ o → Contains (templates_at o) t → TemplateFits t
      of_one None at c = none_in t c
      of_one (Some ts) at c = templates_fit ts (member (mappers_of chain.kinds) number ts at) t c

  pools_fit : (number : ℕ) (pool : Pool) → slice_get pools number ≡ Some pool → IsPort pool.hi
  pools_fit number pool at =
      let c : Contains (flat_map pools_in descriptions) pool =
      ⊎_elim (λ old. none_in pool old) (λ new. new) (source is_pool [] (flat_map pools_in descriptions) pool (member pools number pool at)) in
      let from = from_flat pools_in descriptions pool c in
      pool_fits from.1 pool (settled from.0 from.1 from.2) from.3

  pub fitting : IsInRange chain
  fitting = record { kinds = kinds_fit; mappers = mappers_fit; pools = pools_fit }
