-- A passage at a rewriter, where ports are taken from a share: what is decided for a flow, and what the call does to the
-- mappings, the ports and the turns. The picks are those that the turn has taken so far; what is said of them holds
-- whatever picks follow.
use Rattle.std.specs.Prelude.{◌≡◌, ◌<◌, ℕ, List, [], ◌++◌, length, map, Some, Ok, Contains}
use Rattle.mt_packet.specs.declared.flow.Flow.{Flow}
use Rattle.mt_kinds.specs.declared.rewriter.Spec.{Spec}
use Rattle.mt_elements.specs.declared.chain.Rewriters.{Rewriters}
use Rattle.mt_ledger.specs.Ledger.{LedgerState}
use Rattle.mt_ledger.specs.Pools.{ports_at}
use Rattle.mt_rewriter.specs.Mappings.{TablesState}
use Rattle.mt_rewriter.specs.Passages.{decide_for, remembered}
use Rattle.mt_rewriter.specs.declared.passage.Decision.{Decision}
use Rattle.mt_rewriter.specs.declared.passage.Passage.{Passage}
use Rattle.mt_pipeline.specs.Standing.{AreGone, AreWhole, IsSince, held_ports, tables_of}
use Rattle.mt_pipeline.specs.declared.journal.Journal.{Journal}
use Rattle.mt_pipeline.specs.declared.passage.Passed.{Passed}
use Rattle.mt_pipeline.specs.declared.passage.Passed.TheVariants.{Through, Starved}
use Rattle.mt_pipeline.specs.declared.resources.Resources.{Resources}

-- what a call begins with
pub record IsReady (rewriters : Rewriters) (gone : List ℕ) (resources : Resources) (ledger : LedgerState) : Type 0 where
  pub whole : AreWhole rewriters.pools.items ledger resources.shares (held_ports resources.store)
  pub none_left : AreGone gone ledger
  pub patterns : ledger.patterns ≡ map length rewriters.mappers.items
  pub turns : length ledger.turns ≡ length ledger.patterns

-- what every call keeps, also one that is refused
pub record IsStep (rewriters : Rewriters) (gone : List ℕ) (resources resources' : Resources) (ledger ledger' : LedgerState) (journal journal' : Journal) : Type 0 where
  pub ready : IsReady rewriters gone resources' ledger'
  -- more picks stand behind those so far
  pub picks : List ℕ
  pub picks_are : journal'.picks.items ≡ journal.picks.items ++ picks
  -- what was done before, and now, can be taken back
  pub since : (mappings : _) (turns : List ℕ) → IsSince mappings turns journal.opened journal.moved.items resources.store ledger → IsSince mappings turns journal'.opened journal'.moved.items resources'.store ledger'

-- that is decided for a flow at an input, by the picks behind those that were taken before, whatever picks follow
abbrev pub IsDecided : Rewriters → TablesState → ℕ → ℕ → Spec → Flow → List ℕ → List ℕ → Decision → Type 0
IsDecided rewriters tables element input spec flow before after decision =
    (decision.used ≡ length after)
    × ((more : List ℕ) → decide_for rewriters.mappers.items rewriters.pools.items (after ++ more) tables element input (length before) spec (Some flow) ≡ Ok decision)

-- a flow passed, and what is remembered then
pub record HasPassed (rewriters : Rewriters) (element input : ℕ) (spec : Spec) (flow : Flow) (resources resources' : Resources) (ledger ledger' : LedgerState) (before after : List ℕ) (passage : Passage) : Type 0 where
  pub decision : Decision
  pub passage_is : decision.passage ≡ passage
  pub decided : IsDecided rewriters (tables_of resources.store ledger) element input spec flow before after decision
  pub tables_are : tables_of resources'.store ledger' ≡ remembered decision (tables_of resources.store ledger)

-- a try met a pool that is not gone, while its share and its stock were empty
pub record IsStarved (rewriters : Rewriters) (gone : List ℕ) (resources : Resources) (ledger : LedgerState) (pool : ℕ) : Type 0 where
  pub known : pool < length rewriters.pools.items
  pub not_gone : Contains gone pool → ⊥
  pub share : ports_at resources.shares pool ≡ []
  pub stock : ports_at ledger.stocks pool ≡ []

-- how a passage ends
abbrev pub EndsPassage : Rewriters → List ℕ → ℕ → ℕ → Spec → Flow → Resources → Resources → LedgerState → LedgerState → List ℕ → List ℕ → Passed → Type 0
EndsPassage rewriters gone element input spec flow resources resources' ledger ledger' before after (Through passage) =
    HasPassed rewriters element input spec flow resources resources' ledger ledger' before after passage
EndsPassage rewriters gone element input spec flow resources resources' ledger ledger' before after (Starved pool) =
    IsStarved rewriters gone resources' ledger' pool
