-- How many outputs are wired, wire by wire; and elements by which devices enter, one after the other.
use Rattle.std.proofs.Common.{◌≡◌, ◌∙◌, ap, sym, subst, inl, inr, ℕ, ◌+◌, ◌<◌, ◌≤◌, max, List, [], ◌∷◌, ◌++◌, drop, length, get_or, position, slice_get, Option, Some, None, arith}
use Rattle.std.proofs.lemmas.List.{length_push, at_drop_more, at_drop_all}
use Rattle.mt_graph.specs.declared.Wire.{Wire}
use Rattle.mt_kinds.specs.declared.kind.Kind.{Kind}
use Rattle.mt_kinds.specs.Ports.{output_count}
use Rattle.mt_elements.specs.ChainState.{ChainState, is_entry, mappers_of, outputs_in, outputs_of, wired_by, wired_of}
use Rattle.mt_elements.specs.Table.{AreCounts}
use Rattle.mt_elements.proofs.TableBuilt.{push_cases}

max_three : (a b c : ℕ) → max (max a b) c ≡ max a (max b c)
max_three a b c = omega arith

pub counts_more : (wire : Wire) (after : List Wire) (old new : List ℕ) (e total : ℕ) → get_or new e 0 ≡ max (get_or old e 0) (wired_by wire e)
    → max (get_or old e 0) (wired_of (wire ∷ after) e) ≡ total → max (get_or new e 0) (wired_of after e) ≡ total
unfolding wired_of
counts_more wire after old new e total raised so_far =
    ap (λ n. max n (wired_of after e)) raised ∙ max_three (get_or old e 0) (wired_by wire e) (wired_of after e) ∙ so_far

pub counts_all : (counts : List ℕ) (e total : ℕ) → max (get_or counts e 0) (wired_of [] e) ≡ total → get_or counts e 0 ≡ total
unfolding wired_of
counts_all counts e total h = let none : max (get_or counts e 0) 0 ≡ get_or counts e 0 = omega arith in sym none ∙ h

pub counts_step : (wires : List Wire) (number : ℕ) (d : Wire) (old new : List ℕ) (e total : ℕ) → number < length wires → get_or new e 0 ≡ max (get_or old e 0) (wired_by (get_or wires number d) e)
    → max (get_or old e 0) (wired_of (drop number wires) e) ≡ total → max (get_or new e 0) (wired_of (drop (number + 1) wires) e) ≡ total
counts_step wires number d old new e total lt raised so_far =
    counts_more (get_or wires number d) (drop (number + 1) wires) old new e total raised
    (ap (max (get_or old e 0)) (sym (at_drop_more (λ ws. wired_of ws e) wires number d lt)) ∙ so_far)

pub counts_end : (wires : List Wire) (number : ℕ) (counts : List ℕ) (e total : ℕ) → length wires ≤ number → max (get_or counts e 0) (wired_of (drop number wires) e) ≡ total → get_or counts e 0 ≡ total
counts_end wires number counts e total le h = counts_all counts e total (ap (max (get_or counts e 0)) (sym (at_drop_all (λ ws. wired_of ws e) wires number le)) ∙ h)

-- the numbers of outputs of the first elements
pub record CountsTo (chain : ChainState) (counts : List ℕ) (bound : ℕ) : Type 0 where
  pub whole : length counts ≡ bound
  pub each : (element : ℕ) (count : ℕ) → slice_get counts element ≡ Some count → (count ≡ outputs_of chain element) × (count ≤ 4294967296)

pub counts_begin : (chain : ChainState) (counts : List ℕ) → counts ≡ [] → CountsTo chain counts 0
counts_begin chain counts e = record { whole = ap length e; each = λ element count is. absurd (let q : None ≡ Some count = ap (λ xs. slice_get xs element) (sym e) ∙ is in cc) }

pub counts_push : (chain : ChainState) (old new : List ℕ) (element count wired : ℕ) (kind : Kind) → slice_get chain.kinds element ≡ Some kind → wired ≡ wired_of chain.wires element
    → count ≡ output_count (mappers_of chain.kinds) kind wired → count ≤ 4294967296 → new ≡ old ++ count ∷ [] → CountsTo chain old element → CountsTo chain new (element + 1)
counts_push chain old new element count wired kind is w e few pushed h = record {
  whole = (let a = ap length pushed in let b = length_push old count in let c = h.whole in omega (arith, a, b, c));
  each = λ other found at. elim (push_cases old count other found (ap (λ xs. slice_get xs other) (sym pushed) ∙ at)) [
    | inl before ↦ h.each other found before
    | inr last ↦
        let value : count ≡ outputs_of chain element = e ∙ ap (output_count (mappers_of chain.kinds) kind) w ∙ ap (outputs_in (mappers_of chain.kinds) (wired_of chain.wires element)) (sym is) in
        subst (λ n. (n ≡ outputs_of chain other) × (n ≤ 4294967296)) last.1
        (value ∙ ap (outputs_of chain) (sym (last.0 ∙ h.whole)), few)
  ];
}

pub counts_whole : (chain : ChainState) (counts : List ℕ) (element : ℕ) → element ≡ length chain.kinds → CountsTo chain counts element → AreCounts chain counts
counts_whole chain counts element e h = record { whole = h.whole ∙ e; each = λ other count is. (h.each other count is).0; few = λ other count is. (h.each other count is).1 }

-- for the first numbers, the elements by which their devices enter
pub record ArrivalsTo (kinds : List Kind) (arrivals : List (Option ℕ)) (bound : ℕ) : Type 0 where
  pub whole : length arrivals ≡ bound
  pub each : (device : ℕ) (entry : Option ℕ) → slice_get arrivals device ≡ Some entry → entry ≡ position (is_entry device) kinds

pub arrivals_begin : (kinds : List Kind) (arrivals : List (Option ℕ)) → arrivals ≡ [] → ArrivalsTo kinds arrivals 0
arrivals_begin kinds arrivals e = record { whole = ap length e; each = λ device entry is. absurd (let q : None ≡ Some entry = ap (λ xs. slice_get xs device) (sym e) ∙ is in cc) }

pub arrivals_more : (kinds : List Kind) (old new : List (Option ℕ)) (device : ℕ) (entry : Option ℕ) → entry ≡ position (is_entry device) kinds → new ≡ old ++ entry ∷ [] → ArrivalsTo kinds old device
    → ArrivalsTo kinds new (device + 1)
arrivals_more kinds old new device entry e pushed h = record {
  whole = (let a = ap length pushed in let b = length_push old entry in let c = h.whole in omega (arith, a, b, c));
  each = λ other found is. elim (push_cases old entry other found (ap (λ xs. slice_get xs other) (sym pushed) ∙ is)) [
    | inl before ↦ h.each other found before
    | inr last ↦ sym last.1 ∙ e ∙ ap (λ d. position (is_entry d) kinds) (sym (last.0 ∙ h.whole))
  ];
}
