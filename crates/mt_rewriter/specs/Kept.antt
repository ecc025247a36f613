-- What holds of the tables of a chain, from the first on.
use Rattle.std.specs.Prelude.{◌≡◌, ◌≢◌, ⊤, ℕ, ◌-◌, ◌≤◌, Bool, true, false, List, length, slice_get, Option, Some, Ok, AllPairs, Contains}
use Rattle.std.specs.declared.cmp.Ordering.TheVariants.{Less}
use Rattle.mt_packet.specs.declared.flow.Flow.{Flow}
use Rattle.mt_flow.specs.Keys.{forward_cmp}
use Rattle.mt_flow.specs.Mappings.{reversed}
use Rattle.mt_flow.specs.declared.keys.ForwardKey.{ForwardKey}
use Rattle.mt_flow.specs.declared.keys.ReplyKey.{ReplyKey}
use Rattle.mt_kinds.specs.Ports.{leads, mapper_at}
use Rattle.mt_kinds.specs.declared.kind.Kind.TheVariants.{IPRewriter}
use Rattle.mt_kinds.specs.declared.rewriter.Pool.{Pool}
use Rattle.mt_kinds.specs.declared.rewriter.SourcePort.TheVariants as source
use Rattle.mt_kinds.specs.declared.rewriter.Spec.{Spec}
use Rattle.mt_kinds.specs.declared.rewriter.Template.{Template}
use Rattle.mt_elements.specs.ChainState.{ChainState, IsKind, mappers_of}
use Rattle.mt_rewriter.specs.Mappings.{Mapping, TablesState, is_free, turn_of}
use Rattle.mt_rewriter.specs.Tries.{try_template}
use Rattle.mt_rewriter.specs.declared.attempt.Attempt.TheVariants.{Exhausted}
use Rattle.mt_rewriter.specs.Passages.{by_spec, decide_for, remembered}
use Rattle.mt_rewriter.specs.declared.passage.Decision.{Decision}
use Rattle.mt_rewriter.specs.declared.passage.Passage.{Passage}
use Rattle.mt_rewriter.specs.declared.passage.Passage.TheVariants.{Rewritten, Passed, Dropped}
use Rattle.mt_rewriter.specs.declared.translation.HeldPort.{HeldPort}

-- the rewriter, and the flow of replies
abbrev pub reply_key : Mapping → ReplyKey
reply_key mapping = record { element = mapping.0.element; flow = reversed mapping.1.after }

abbrev pub IsBefore : Mapping → Mapping → Type 0
IsBefore x y = forward_cmp x.0 y.0 ≡ Less

abbrev pub AnswerApart : Mapping → Mapping → Type 0
AnswerApart x y = reply_key x ≢ reply_key y

abbrev pub HoldApart : Mapping → Mapping → Type 0
HoldApart x y = (held : HeldPort) → x.1.held ≡ Some held → y.1.held ≡ Some held → ⊥

-- On some tables, with some picks, a try at its input makes the mapping from its flow before.
pub record Fits (chain : ChainState) (mapping : Mapping) : Type 0 where
  pub specs : List Spec
  pub stands : IsKind chain mapping.0.element (IPRewriter specs)
  pub spec : Spec
  pub at : slice_get specs mapping.0.input ≡ Some spec
  pub tables : TablesState
  pub picks : List ℕ
  pub used : ℕ
  pub decision : Decision
  pub tried : by_spec (mappers_of chain.kinds) chain.pools picks tables mapping.0 used spec ≡ Ok decision
  pub opened : decision.opened ≡ Some mapping

pub record AreTables (chain : ChainState) (tables : TablesState) : Type 0 where
  -- forward keys ascend, so that no two are one
  pub ordered : AllPairs IsBefore tables.mappings
  -- no two mappings of one rewriter have the same replies
  pub replies : AllPairs AnswerApart tables.mappings
  -- no two mappings hold one port of one pool
  pub ports : AllPairs HoldApart tables.mappings
  -- each mapping is one that its input makes
  pub fit : (mapping : Mapping) → Contains tables.mappings mapping → Fits chain mapping
  -- the turn of each mapper is that of one of its patterns
  pub turns : (mapper : ℕ) → turn_of tables.turns mapper ≤ length (mapper_at (mappers_of chain.kinds) mapper) - 1

-- what is decided at an input of a rewriter keeps that
abbrev pub DecisionsKeep : Type 0
DecisionsKeep =
    (chain : ChainState) (element input : ℕ) (specs : List Spec) (spec : Spec) → IsKind chain element (IPRewriter specs) → slice_get specs input ≡ Some spec
    → (tables : TablesState) (picks : List ℕ) (used : ℕ) (flow : Option Flow) (decision : Decision) → AreTables chain tables
    → decide_for (mappers_of chain.kinds) chain.pools picks tables element input used spec flow ≡ Ok decision → AreTables chain (remembered decision tables)

-- no mapping ever leaves
abbrev pub MappingsStay : Type 0
MappingsStay =
    (mappers : List (List Template)) (pools : List Pool) (picks : List ℕ) (tables : TablesState) (element input used : ℕ) (spec : Spec) (flow : Option Flow) (decision : Decision)
    → decide_for mappers pools picks tables element input used spec flow ≡ Ok decision
    → (mapping : Mapping) → Contains tables.mappings mapping → Contains (remembered decision tables).mappings mapping

-- a port that a mapping gets from a pool was free, and is one of the pool's
abbrev pub PortsWereFree : Type 0
PortsWereFree =
    (mappers : List (List Template)) (pools : List Pool) (picks : List ℕ) (tables : TablesState) (element input used : ℕ) (spec : Spec) (flow : Option Flow) (decision : Decision)
    → decide_for mappers pools picks tables element input used spec flow ≡ Ok decision
    → (mapping : Mapping) (held : HeldPort) → decision.opened ≡ Some mapping → mapping.1.held ≡ Some held → is_free tables.mappings held.pool held.port ≡ true

-- a packet leaves only by an output to which the input leads
abbrev pub PassageLeads : (ℕ → Bool) → Passage → Type 0
PassageLeads leads (Rewritten meeting) = leads meeting.output ≡ true
PassageLeads leads (Passed out) = leads out ≡ true
PassageLeads leads (Dropped why) = ⊤

abbrev pub PassagesLead : Type 0
PassagesLead =
    (chain : ChainState) (element input : ℕ) (specs : List Spec) (spec : Spec) → IsKind chain element (IPRewriter specs) → slice_get specs input ≡ Some spec
    → (tables : TablesState) (picks : List ℕ) (used : ℕ) (flow : Option Flow) (decision : Decision) → AreTables chain tables
    → decide_for (mappers_of chain.kinds) chain.pools picks tables element input used spec flow ≡ Ok decision
    → PassageLeads (leads (mappers_of chain.kinds) (IPRewriter specs) input) decision.passage

-- a try is exhausted only where no port of the pool is free
abbrev pub ExhaustedPoolsAreHeld : Type 0
ExhaustedPoolsAreHeld =
    (pools : List Pool) (picks : List ℕ) (mappings : List Mapping) (key : ForwardKey) (used : ℕ) (template : Template) → try_template pools picks mappings key used template ≡ Exhausted
    → (number port : ℕ) (pool : Pool) → template.sp ≡ source.Pool number → slice_get pools number ≡ Some pool → pool.lo ≤ port → port ≤ pool.hi → is_free mappings number port ≡ false
