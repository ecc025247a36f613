-- Tables behind what was decided.
use Rattle.std.proofs.Common.{◌≡◌, ◌∙◌, sym, ap, subst, refl, ◌⊎◌, inl, inr, ℕ, zero, suc, ◌-◌, ◌≤◌, true, List, [], ◌∷◌, length, get_or, AllPairs, Contains}
use Rattle.std.specs.Prelude.{Option, Some, None, Result, Ok, Err, slice_get, slice_set, IfSome, IfOk}
use Rattle.std.specs.List.{find}
use Rattle.std.proofs.lemmas.Option.{none-some, same_Some}
use Rattle.mt_packet.specs.declared.flow.Flow.{Flow}
use Rattle.mt_flow.specs.Mappings.{reversed}
use Rattle.mt_flow.specs.declared.keys.ForwardKey.{ForwardKey}
use Rattle.mt_flow.specs.declared.mapping.Meeting.{Meeting}
use Rattle.mt_kinds.specs.Ports.{mapper_at}
use Rattle.mt_kinds.specs.declared.kind.Kind.TheVariants.{IPRewriter}
use Rattle.mt_kinds.specs.declared.rewriter.Pool.{Pool}
use Rattle.mt_kinds.specs.declared.rewriter.Spec.{Spec}
use Rattle.mt_kinds.specs.declared.rewriter.Template.{Template}
use Rattle.mt_elements.specs.ChainState.{ChainState, IsKind, mappers_of}
use Rattle.mt_rewriter.specs.declared.passage.Decision.{Decision}
use Rattle.mt_rewriter.specs.declared.passage.Passage.TheVariants.{Rewritten}
use Rattle.mt_rewriter.specs.declared.translation.HeldPort.{HeldPort}
use Rattle.mt_rewriter.specs.Kept.{IsBefore, AnswerApart, HoldApart, Fits, AreTables}
use Rattle.mt_rewriter.specs.Mappings.{Mapping, TablesState, answers, key_of, is_free, meets_forward, turn_of, with_opened, with_turn}
use Rattle.mt_rewriter.specs.Passages.{is_reply, meets, met_or, by_spec, decide, decide_for, settled, unported, remembered}
use Rattle.mt_rewriter.proofs.Decisions.{Opens, IsDecided, IsFresh, decide_is, spec_is, spec_fresh, fresh_for}
use Rattle.mt_rewriter.proofs.Openings.{HoldsFree}
use Rattle.mt_rewriter.proofs.KeptTables.{IsNew, is_new, among_inserted, still_there, pairs_inserted, ordered_inserted, holds_apart, answers_apart}
use Rattle.mt_rewriter.proofs.Undoing.{not_there}

-- turns that are bounded, and one of them moved
set_within : (turns : List ℕ) (mapper turn : ℕ) (most : ℕ → ℕ) → turn ≤ most mapper → ((other : ℕ) → get_or turns other 0 ≤ most other)
    → (other : ℕ) → get_or (slice_set turns mapper turn) other 0 ≤ most other
set_within [] mapper turn most small all other = all other
set_within (first ∷ turns) zero turn most small all zero = small
set_within (first ∷ turns) zero turn most small all (suc other) = all (suc other)
set_within (first ∷ turns) (suc mapper) turn most small all zero = all zero
set_within (first ∷ turns) (suc mapper) turn most small all (suc other) = set_within turns mapper turn (λ n. most (suc n)) small (λ n. all (suc n)) other

module _ (chain : ChainState) (tables : TablesState) (kept : AreTables chain tables) where
  abbrev most : ℕ → ℕ
  most mapper = length (mapper_at (mappers_of chain.kinds) mapper) - 1

  turned : (moved : Option (ℕ × ℕ)) → IfSome moved (λ m. m.1 ≤ most m.0) → (mapper : ℕ) → turn_of (with_turn moved tables.turns) mapper ≤ most mapper
  turned None small = kept.turns
  turned (Some moved) small = set_within tables.turns moved.0 moved.1 most small kept.turns

  -- nothing is opened
  unopened : (decision : Decision) → IfSome decision.moved (λ m. m.1 ≤ most m.0) → decision.opened ≡ None → AreTables chain (remembered decision tables)
  unopened decision small none =
      let same : tables.mappings ≡ with_opened decision.opened tables.mappings = ap (λ o. with_opened o tables.mappings) (sym none) in
      record {
        ordered = subst (AllPairs IsBefore) same kept.ordered;
        replies = subst (AllPairs AnswerApart) same kept.replies;
        ports = subst (AllPairs HoldApart) same kept.ports;
        fit = subst (λ l. (m : Mapping) → Contains l m → Fits chain m) same kept.fit;
        turns = turned decision.moved small;
      }

  -- a mapping is opened that its input makes
  opened : (picks : List ℕ) (key : ForwardKey) (decision : Decision) (mapping : Mapping) → IfSome decision.moved (λ m. m.1 ≤ most m.0) → decision.opened ≡ Some mapping
      → Opens (mappers_of chain.kinds) chain.pools picks tables key (Some mapping) → meets_forward tables.mappings mapping.0 ≡ None → Fits chain mapping → AreTables chain (remembered decision tables)
  opened picks key decision mapping small is opens unmet fits =
      let new : IsNew mapping.0 mapping.1 tables.mappings = is_new mapping.0 mapping.1 tables.mappings (not_there mapping.0 tables.mappings unmet) in
      let same : with_opened (Some mapping) tables.mappings ≡ with_opened decision.opened tables.mappings = ap (λ o. with_opened o tables.mappings) (sym is) in
      record {
        ordered = subst (AllPairs IsBefore) same (ordered_inserted mapping.0 mapping.1 tables.mappings new kept.ordered);
        replies = subst (AllPairs AnswerApart) same (pairs_inserted mapping.0 mapping.1 AnswerApart tables.mappings new kept.replies
            (answers_apart tables.mappings mapping.0 mapping.1 (subst (λ (k : ForwardKey). find (answers k.element (reversed mapping.1.after)) tables.mappings ≡ None) (sym opens.0) opens.1.unanswered)));
        ports = subst (AllPairs HoldApart) same (pairs_inserted mapping.0 mapping.1 HoldApart tables.mappings new kept.ports (holds_apart tables.mappings mapping.1 mapping.0 opens.1.free));
        fit = subst (λ l. (m : Mapping) → Contains l m → Fits chain m) same (λ m c. among m (among_inserted mapping.0 mapping.1 tables.mappings m new c));
        turns = turned decision.moved small;
      }
    where
      among : (m : Mapping) → (mapping ≡ m) ⊎ Contains tables.mappings m → Fits chain m
      among m (inl same) = subst (Fits chain) same fits
      among m (inr there) = kept.fit m there

  module _ (element input : ℕ) (specs : List Spec) (spec : Spec) (stands : IsKind chain element (IPRewriter specs)) (at : slice_get specs input ≡ Some spec) (picks : List ℕ) (used : ℕ) (flow : Flow) where
    abbrev key : ForwardKey
    key = key_of element input flow

    by_opened : (decision : Decision) → by_spec (mappers_of chain.kinds) chain.pools picks tables key used spec ≡ Ok decision → IsDecided (mappers_of chain.kinds) chain.pools picks tables key used decision
        → (found : Option Mapping) → decision.opened ≡ found → Opens (mappers_of chain.kinds) chain.pools picks tables key found → IfSome found (λ m. meets_forward tables.mappings m.0 ≡ None)
        → AreTables chain (remembered decision tables)
    by_opened decision is decided None none opens unmet = unopened decision (decided.moved kept.turns) none
    by_opened decision is decided (Some mapping) some opens unmet = opened picks key decision mapping (decided.moved kept.turns) some opens unmet (fits opens.0)
      where
        fits : mapping.0 ≡ key → Fits chain mapping
        fits same = record {
          specs = specs;
          stands = ap (λ (k : ForwardKey). slice_get chain.kinds k.element) same ∙ stands;
          spec = spec;
          at = ap (λ (k : ForwardKey). slice_get specs k.input) same ∙ at;
          tables = tables;
          picks = picks;
          used = used;
          decision = decision;
          tried = ap (λ k. by_spec (mappers_of chain.kinds) chain.pools picks tables k used spec) same ∙ is;
          opened = some;
        }

    by_result : (result : Result Decision ℕ) → by_spec (mappers_of chain.kinds) chain.pools picks tables key used spec ≡ result → IfOk result (IsDecided (mappers_of chain.kinds) chain.pools picks tables key used)
        → IfOk result (IsFresh tables.mappings) → IfOk result (λ decision. AreTables chain (remembered decision tables))
    by_result (Ok decision) is decided fresh = by_opened decision is decided decision.opened refl decided.opened fresh
    by_result (Err place) is decided fresh = tt

    by_met : (found : Option Meeting) → (found ≡ None → IfOk (by_spec (mappers_of chain.kinds) chain.pools picks tables key used spec) (IsFresh tables.mappings))
        → IfOk (met_or used (by_spec (mappers_of chain.kinds) chain.pools picks tables key used spec) found) (λ decision. AreTables chain (remembered decision tables))
    by_met (Some meeting) fresh = unopened (settled used (Rewritten meeting)) tt refl
    by_met None fresh = by_result _ refl (spec_is (mappers_of chain.kinds) chain.pools picks tables key used spec) (fresh refl)

  by_flow : (element input : ℕ) (specs : List Spec) (spec : Spec) → IsKind chain element (IPRewriter specs) → slice_get specs input ≡ Some spec → (picks : List ℕ) (used : ℕ) (flow : Option Flow)
      → IfOk (decide_for (mappers_of chain.kinds) chain.pools picks tables element input used spec flow) (λ decision. AreTables chain (remembered decision tables))
  unfolding decide
  by_flow element input specs spec stands at picks used None = unopened (settled used (unported spec)) tt refl
  by_flow element input specs spec stands at picks used (Some flow) =
      by_met element input specs spec stands at picks used flow (meets tables.mappings (key_of element input flow) (is_reply spec))
      (spec_fresh (mappers_of chain.kinds) chain.pools picks tables (key_of element input flow) used spec)

if_ok : {A E : Type 0} (P : A → Type 0) (result : Result A E) (value : A) → IfOk result P → result ≡ Ok value → P value
if_ok P result value h is = subst (λ r. IfOk r P) is h

pub keeps : (chain : ChainState) (element input : ℕ) (specs : List Spec) (spec : Spec) → IsKind chain element (IPRewriter specs) → slice_get specs input ≡ Some spec
    → (tables : TablesState) (picks : List ℕ) (used : ℕ) (flow : Option Flow) (decision : Decision) → AreTables chain tables
    → decide_for (mappers_of chain.kinds) chain.pools picks tables element input used spec flow ≡ Ok decision → AreTables chain (remembered decision tables)
keeps chain element input specs spec stands at tables picks used flow decision kept is =
    if_ok (λ d. AreTables chain (remembered d tables)) _ decision (by_flow chain tables kept element input specs spec stands at picks used flow) is

-- ---- mappings stay

module _ (mappers : List (List Template)) (pools : List Pool) (picks : List ℕ) (tables : TablesState) (element input used : ℕ) (spec : Spec) where
  stays_opened : (opened : Option Mapping) → IfSome opened (λ m. meets_forward tables.mappings m.0 ≡ None) → (mapping : Mapping) → Contains tables.mappings mapping → Contains (with_opened opened tables.mappings) mapping
  stays_opened None fresh mapping there = there
  stays_opened (Some m) fresh mapping there = still_there m.0 m.1 tables.mappings mapping (is_new m.0 m.1 tables.mappings (not_there m.0 tables.mappings fresh)) there

  pub stays : (flow : Option Flow) (decision : Decision) → decide_for mappers pools picks tables element input used spec flow ≡ Ok decision
      → (mapping : Mapping) → Contains tables.mappings mapping → Contains (remembered decision tables).mappings mapping
  stays flow decision is mapping there =
      stays_opened decision.opened (if_ok (IsFresh tables.mappings) _ decision (fresh_for mappers pools picks tables element input used spec flow) is) mapping there

  -- ---- ports were free

  abbrev HeldFree : Option Mapping → Type 0
  HeldFree opened = (mapping : Mapping) (held : HeldPort) → opened ≡ Some mapping → mapping.1.held ≡ Some held → is_free tables.mappings held.pool held.port ≡ true

  free_opened : (of : ForwardKey) (opened : Option Mapping) → Opens mappers pools picks tables of opened → HeldFree opened
  free_opened of None opens mapping held is port = absurd (none-some mapping is)
  free_opened of (Some m) opens mapping held is port =
      subst (HoldsFree tables.mappings) (ap (λ (x : Mapping). x.1.held) (same_Some m mapping is) ∙ port) opens.1.free

  free_result : (flow : Flow) (result : Result Decision ℕ) → IfOk result (IsDecided mappers pools picks tables (key_of element input flow) used) → IfOk result (λ d. HeldFree d.opened)
  free_result flow (Ok decision) decided = free_opened (key_of element input flow) decision.opened decided.opened
  free_result flow (Err place) decided = tt

  free_flow : (flow : Option Flow) → IfOk (decide_for mappers pools picks tables element input used spec flow) (λ d. HeldFree d.opened)
  free_flow None = free_opened (key_of element input (record { proto = 0; sa = 0; sp = 0; da = 0; dp = 0 })) None tt
  free_flow (Some flow) = free_result flow _ (decide_is mappers pools picks tables (key_of element input flow) used spec)

  pub were_free : (flow : Option Flow) (decision : Decision) → decide_for mappers pools picks tables element input used spec flow ≡ Ok decision
      → (mapping : Mapping) (held : HeldPort) → decision.opened ≡ Some mapping → mapping.1.held ≡ Some held → is_free tables.mappings held.pool held.port ≡ true
  were_free flow decision is = if_ok (λ d. HeldFree d.opened) _ decision (free_flow flow) is
