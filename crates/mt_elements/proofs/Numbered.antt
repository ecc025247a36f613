-- What the numbers in the elements of a chain stand for, where nothing is wrong with the elements.
use Rattle.std.proofs.Common.{◌≡◌, ◌∙◌, ap, refl, sym, subst, ⊎_elim, ℕ, ◌+◌, ◌-◌, ◌<◌, ◌≤◌, cond, not, Bool, true, false, List, [], ◌∷◌, ◌++◌, length, get_or, take, map, arith}
use Rattle.std.specs.Prelude.{Some, None, Ok, slice_get, Contains}
use Rattle.std.specs.List.{flat_map, filter, list_all, position_or_len}
use Rattle.std.specs.Str.{bytes_eq}
use Rattle.std.proofs.lemmas.List.{length-append}
use Rattle.std.proofs.lemmas.List.Elements.{Contains-append_right, Contains-get_or}
use Rattle.std.proofs.lemmas.List.Sums.{fold-append}
use Rattle.std.proofs.lemmas.Option.{slice_get-get_or}
use Rattle.std.proofs.lemmas.Slice.Eq.{bytes_eq-Decides}
use Rattle.mt_graph.specs.declared.Element.{Element}
use Rattle.mt_graph.specs.declared.Wire.{Wire}
use Rattle.mt_kinds.specs.declared.description.Description.{Description}
use Rattle.mt_kinds.specs.declared.description.Description.TheVariants.{FromDevice, ToDevice, Rewriter, Mapper, Settled}
use Rattle.mt_kinds.specs.declared.kind.Kind.{Kind}
use Rattle.mt_kinds.specs.declared.kind.Kind.TheVariants as kind
use Rattle.mt_kinds.specs.declared.rewriter.Pool.{Pool}
use Rattle.mt_kinds.specs.declared.rewriter.Spec.{Spec}
use Rattle.mt_kinds.specs.declared.rewriter.Spec.TheVariants as spec
use Rattle.mt_kinds.specs.declared.written.WrittenSpec.{WrittenSpec}
use Rattle.mt_kinds.specs.declared.written.WrittenSpec.TheVariants as written
use Rattle.mt_lists.proofs.Members.{first_in, cases_in, none_in}
use Rattle.mt_elements.specs.ChainState.{ChainState, IsKind, patterns_in, mappers_of}
use Rattle.mt_elements.specs.Described.{describe, scope_of, is_mapper, mapper_names, is_known, entry_in, exit_in, entry_names, when, fault_in, AreFaultless, added, entries_of, devices_of, pools_of, spec_of, device_of, kind_of, kinds_of, chain_of}
use Rattle.mt_elements.specs.Numbered.{IsNumbered}
use Rattle.mt_elements.proofs.Classes.{IsPlain, settled_is, mappers_in, one_where, fits}
use Rattle.mt_elements.proofs.Fitting.{fitting}
use Rattle.mt_elements.proofs.Firsts.{kept, source, has_each, apart, place_in_front}
use Rattle.mt_elements.proofs.Made.{Made, made, kind_at, says, element_at, in_flat, from_flat, from_map, all_at, place_within}

itself : (name : List ℕ) → bytes_eq name name ≡ true
itself name = (bytes_eq-Decides name name).1 refl

-- ---- mappers

plain_patterns : (k : Kind) → IsPlain k → length (patterns_in k) ≡ 0
plain_patterns (kind.RoundRobinIPMapper templates) h = absurd h
plain_patterns other h = refl

patterns_counted : (devices : List (List ℕ)) (pools : List Pool) (names : List (List ℕ)) (scope : List ℕ) (d : Description) → settled_is d
    → length (patterns_in (kind_of devices pools names scope d)) ≡ mappers_in d
patterns_counted devices pools names scope (FromDevice name) h = refl
patterns_counted devices pools names scope (ToDevice name) h = refl
patterns_counted devices pools names scope (Rewriter specs) h = refl
patterns_counted devices pools names scope (Mapper templates) h = refl
patterns_counted devices pools names scope (Settled k) h = plain_patterns k h

pub head_says : (e : Element) (es : List Element) (d : Description) (ds : List Description) → map describe (e ∷ es) ≡ map Ok (d ∷ ds) → describe e ≡ Ok d
head_says e es d ds h = cc

pub tail_says : (e : Element) (es : List Element) (d : Description) (ds : List Description) → map describe (e ∷ es) ≡ map Ok (d ∷ ds) → map describe es ≡ map Ok ds
tail_says e es d ds h = cc

filter_counted : (b : Bool) (e : Element) (es : List Element) → length (map (λ (x : Element). x.name) (cond b (e ∷ es) es)) ≡ one_where b + length (map (λ (x : Element). x.name) es)
filter_counted true e es = omega arith
filter_counted false e es = omega arith

pub mappers_counted : (devices : List (List ℕ)) (pools : List Pool) (names : List (List ℕ)) (es : List Element) (ds : List Description) → map describe es ≡ map Ok ds
    → length (mappers_of (kinds_of devices pools names es ds)) ≡ length (mapper_names es)
unfolding kinds_of mappers_of
mappers_counted devices pools names [] ds h = refl
mappers_counted devices pools names (e ∷ es) [] h = absurd cc
mappers_counted devices pools names (e ∷ es) (d ∷ ds) h =
    let known = fits e.class e.args d (head_says e es d ds h) in
    let here : length (patterns_in (kind_of devices pools names (scope_of e.name) d)) ≡ one_where (is_mapper e) = patterns_counted devices pools names (scope_of e.name) d known.settled ∙ known.mappers in
    let later = mappers_counted devices pools names es ds (tail_says e es d ds h) in
    let all = length-append (patterns_in (kind_of devices pools names (scope_of e.name) d)) (mappers_of (kinds_of devices pools names es ds)) in
    let rest = filter_counted (is_mapper e) e (filter is_mapper es) in
    omega (arith, here, later, all, rest)

-- ---- the elements of one chain

when_none : (b : Bool) → when (not b) ≡ None → b ≡ true
when_none true h = refl
when_none false h = absurd cc

entry_case : (d : Description) (name : List ℕ) → Contains (entry_in d) name → d ≡ FromDevice name
entry_case (FromDevice other) name c = ⊎_elim (λ here. ap FromDevice here) (λ later. none_in name later) (cases_in other [] name c)
entry_case (ToDevice other) name c = none_in name c
entry_case (Rewriter specs) name c = none_in name c
entry_case (Mapper templates) name c = none_in name c
entry_case (Settled k) name c = none_in name c

module _ (devices : List (List ℕ)) (pools : List Pool) (names : List (List ℕ)) (scope : List ℕ) where
  from_case : (d : Description) (device : ℕ) → settled_is d → kind_of devices pools names scope d ≡ kind.FromDevice device
      → (name : List ℕ) × (d ≡ FromDevice name) × (device_of devices name ≡ device)
  from_case (FromDevice name) device s h = (name, refl, cc)
  from_case (ToDevice name) device s h = absurd cc
  from_case (Rewriter specs) device s h = absurd cc
  from_case (Mapper templates) device s h = absurd cc
  from_case (Settled k) device s h = absurd (subst IsPlain h s)

  to_case : (d : Description) (device : ℕ) → settled_is d → kind_of devices pools names scope d ≡ kind.ToDevice device
      → (name : List ℕ) × (d ≡ ToDevice name) × (device_of devices name ≡ device)
  to_case (FromDevice name) device s h = absurd cc
  to_case (ToDevice name) device s h = (name, refl, cc)
  to_case (Rewriter specs) device s h = absurd cc
  to_case (Mapper templates) device s h = absurd cc
  to_case (Settled k) device s h = absurd (subst IsPlain h s)

  point_case : (d : Description) (point : ℕ) → settled_is d → kind_of devices pools names scope d ≡ kind.SetIPDSCP point → point ≤ 63
  point_case (FromDevice name) point s h = absurd cc
  point_case (ToDevice name) point s h = absurd cc
  point_case (Rewriter specs) point s h = absurd cc
  point_case (Mapper templates) point s h = absurd cc
  point_case (Settled k) point s h = subst IsPlain h s

  rewriter_case : (d : Description) (specs : List Spec) → settled_is d → kind_of devices pools names scope d ≡ kind.IPRewriter specs
      → (ss : List WrittenSpec) × (d ≡ Rewriter ss) × (map (spec_of pools names scope) ss ≡ specs)
  rewriter_case (FromDevice name) specs s h = absurd cc
  rewriter_case (ToDevice name) specs s h = absurd cc
  rewriter_case (Rewriter ss) specs s h = (ss, refl, cc)
  rewriter_case (Mapper templates) specs s h = absurd cc
  rewriter_case (Settled k) specs s h = absurd (subst IsPlain h s)

  mapper_case : (w : WrittenSpec) (number : ℕ) → is_known names scope w ≡ true → spec_of pools names scope w ≡ spec.Mapper number → number < length names
  mapper_case written.Drop number k h = absurd cc
  mapper_case (written.Pass out) number k h = absurd cc
  mapper_case (written.Keep fout rout) number k h = absurd cc
  mapper_case (written.Pattern t) number k h = absurd cc
  mapper_case (written.Mapper name) number k h =
      let same : position_or_len (bytes_eq (scope ++ name)) names ≡ number = cc in
      subst (λ n. n < length names) same (place_within (bytes_eq (scope ++ name)) names k)

module _ (elements : List Element) (wires : List Wire) (descriptions : List Description) (described : map describe elements ≡ map Ok descriptions) (faultless : AreFaultless elements) where
  abbrev coming : List (List ℕ)
  coming = flat_map entry_in descriptions

  abbrev going : List (List ℕ)
  going = flat_map exit_in descriptions

  abbrev entries : List (List ℕ)
  entries = entries_of descriptions

  abbrev devices : List (List ℕ)
  devices = devices_of descriptions

  abbrev names : List (List ℕ)
  names = mapper_names elements

  abbrev chain : ChainState
  chain = chain_of elements wires descriptions

  -- all devices begin with those by which frames enter
  others : (more : List (List ℕ)) × (devices ≡ entries ++ more)
  others =
      let rest = kept bytes_eq entries going in
      (rest.0, fold-append (added bytes_eq) [] coming going ∙ rest.1)

  entry_place : (name : List ℕ) → Contains coming name → (position_or_len (bytes_eq name) entries < length entries) × (position_or_len (bytes_eq name) devices ≡ position_or_len (bytes_eq name) entries)
  entry_place name c =
      let within = place_within (bytes_eq name) entries (has_each bytes_eq itself [] coming name c) in
      let rest = others in
      (within, ap (position_or_len (bytes_eq name)) rest.1 ∙ place_in_front (bytes_eq name) entries rest.0 within)

  settled : (number : ℕ) (e : Element) (d : Description) → slice_get elements number ≡ Some e → slice_get descriptions number ≡ Some d → settled_is d
  settled number e d at_e at_d = let known = fits e.class e.args d (says elements descriptions described number e d at_e at_d) in known.settled

  arrives_at : (element device : ℕ) → Made devices (pools_of descriptions) names elements descriptions element (kind.FromDevice device) → (0 < device) × (device ≤ length entries)
  arrives_at element device m =
      let from = from_case devices (pools_of descriptions) names (scope_of m.element.name) m.description device (settled element m.element m.description m.element_is m.description_is) m.kind_is in
      let c : Contains coming from.0 = in_flat entry_in descriptions element m.description from.0 m.description_is (subst (λ d. Contains (entry_in d) from.0) (sym from.1) (first_in from.0 [])) in
      let place = entry_place from.0 c in
      let one = from.2 in
      let within = place.0 in
      let same = place.1 in
      (omega (arith, one), omega (arith, one, within, same))

  sends_at : (element device : ℕ) → Made devices (pools_of descriptions) names elements descriptions element (kind.ToDevice device) → (0 < device) × (device ≤ length devices)
  sends_at element device m =
      let to = to_case devices (pools_of descriptions) names (scope_of m.element.name) m.description device (settled element m.element m.description m.element_is m.description_is) m.kind_is in
      let c : Contains going to.0 = in_flat exit_in descriptions element m.description to.0 m.description_is (subst (λ d. Contains (exit_in d) to.0) (sym to.1) (first_in to.0 [])) in
      let within = place_within (bytes_eq to.0) devices (has_each bytes_eq itself [] (coming ++ going) to.0 (Contains-append_right coming going to.0 c)) in
      let one = to.2 in
      (omega (arith, one), omega (arith, one, within))

  points_at : (element point : ℕ) → Made devices (pools_of descriptions) names elements descriptions element (kind.SetIPDSCP point) → point ≤ 63
  points_at element point m = point_case devices (pools_of descriptions) names (scope_of m.element.name) m.description point (settled element m.element m.description m.element_is m.description_is) m.kind_is

  knows : (number : ℕ) (e : Element) (specs : List WrittenSpec) → slice_get elements number ≡ Some e → describe e ≡ Ok (Rewriter specs) → list_all (is_known names (scope_of e.name)) specs ≡ true
  knows number e specs at_e h =
      when_none (list_all (is_known names (scope_of e.name)) specs)
      (ap (fault_in names (entry_names (take number elements)) (scope_of e.name)) (sym h) ∙ faultless number e at_e)

  mapped_at : (element : ℕ) (specs : List Spec) (number : ℕ) → Made devices (pools_of descriptions) names elements descriptions element (kind.IPRewriter specs) → Contains specs (spec.Mapper number)
      → number < length (mappers_of chain.kinds)
  mapped_at element specs number m c =
      let r = rewriter_case devices (pools_of descriptions) names (scope_of m.element.name) m.description specs (settled element m.element m.description m.element_is m.description_is) m.kind_is in
      let s = from_map (spec_of (pools_of descriptions) names (scope_of m.element.name)) r.0 (spec.Mapper number) (subst (λ ss. Contains ss (spec.Mapper number)) (sym r.2) c) in
      let all = knows element m.element r.0 m.element_is (says elements descriptions described element m.element m.description m.element_is m.description_is ∙ ap Ok r.1) in
      let known = all_at (is_known names (scope_of m.element.name)) r.0 s.0 all s.1 in
      subst (λ n. number < n) (sym (mappers_counted devices (pools_of descriptions) names elements descriptions described))
      (mapper_case devices (pools_of descriptions) names (scope_of m.element.name) s.0 number known s.2)

  entry_stands : (number : ℕ) (e : Element) (d : Description) (name : List ℕ) (device : ℕ) → slice_get elements number ≡ Some e → slice_get descriptions number ≡ Some d → d ≡ FromDevice name
      → device_of devices name ≡ device → IsKind chain number (kind.FromDevice device)
  entry_stands number e d name device at_e at_d is same =
      kind_at devices (pools_of descriptions) names elements descriptions number e d at_e at_d
      ∙ ap (λ (d : Description). Some (kind_of devices (pools_of descriptions) names (scope_of e.name) d)) is
      ∙ ap (λ n. Some (kind.FromDevice n)) same

  entered_at : (device : ℕ) → 0 < device → device ≤ length entries → (element : ℕ) × IsKind chain element (kind.FromDevice device)
  entered_at device some within =
      let lt : device - 1 < length entries = omega (arith, some, within) in
      let name = get_or entries (device - 1) [] in
      let there : Contains coming name = ⊎_elim (λ old. none_in name old) (λ new. new) (source bytes_eq [] coming name (Contains-get_or entries (device - 1) [] lt)) in
      let from = from_flat entry_in descriptions name there in
      let is = entry_case from.1 name from.3 in
      let e = element_at elements descriptions described from.0 from.1 from.2 in
      let place : position_or_len (bytes_eq name) entries ≡ device - 1 = apart bytes_eq itself [] coming (λ i y h. absurd cc) (device - 1) name (slice_get-get_or entries (device - 1) [] lt) in
      let same = entry_place name there in
      let number : device_of devices name ≡ device = (let in_all = same.1 in omega (arith, some, place, in_all)) in
      (from.0, entry_stands from.0 e.0 from.1 name device e.1 from.2 is number)

  pub numbered : IsNumbered chain
  numbered = record {
    arrives = λ element device h. arrives_at element device (made devices (pools_of descriptions) names elements descriptions element (kind.FromDevice device) h);
    entered = entered_at;
    among = (let rest = others in let e : length devices ≡ length entries + length rest.0 = ap length rest.1 ∙ length-append entries rest.0 in omega (arith, e));
    sends = λ element device h. sends_at element device (made devices (pools_of descriptions) names elements descriptions element (kind.ToDevice device) h);
    points = λ element point h. points_at element point (made devices (pools_of descriptions) names elements descriptions element (kind.SetIPDSCP point) h);
    mapped = λ element specs number h c. mapped_at element specs number (made devices (pools_of descriptions) names elements descriptions element (kind.IPRewriter specs) h) c;
    in_range = fitting elements wires descriptions described;
  }
