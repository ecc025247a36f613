-- What a turn does: a try of the head of the queue, and what is told of it.
use Rattle.std.specs.Prelude.{◌≡◌, ⊤, ℕ, ◌+◌, false, List, [], ◌∷◌, ◌++◌, length, None, Some, Ok}
use Rattle.mt_packet.specs.Header.{header_of}
use Rattle.mt_elements.specs.ChainState.{ChainState}
use Rattle.mt_elements.specs.declared.chain.Rewriters.{Rewriters}
use Rattle.mt_ledger.specs.Ledger.{LedgerState}
use Rattle.mt_ledger.specs.Pools.{ports_at}
use Rattle.mt_flow.specs.declared.mapping.Mapping.{Mapping}
use Rattle.mt_chain.specs.Fates.{packet_of}
use Rattle.mt_chain.specs.Known.{RunsAreThere, RunsKeepTables}
use Rattle.mt_chain.specs.Run.{stamped_of}
use Rattle.mt_chain.specs.declared.run.Fate.{Fate}
use Rattle.mt_chain.specs.declared.run.Fate.TheVariants as fate
use Rattle.mt_packet.specs.declared.flow.Flow.{Flow}
use Rattle.mt_packet.specs.Packet.{PacketState}
use Rattle.mt_packet.specs.declared.span.Span.{Span}
use Rattle.mt_cuts.specs.declared.cut.Cut.{Cut}
use Rattle.mt_terms.specs.declared.tree.Tree.{Tree}
use Rattle.mt_trees.specs.Laws.{RunsStayInRange, TreesCanBeServed, TreesMeanRuns}
use Rattle.mt_terms.specs.Trees.{TreeForm, leaf, drop, rewrite_form}
use Rattle.mt_trees.specs.Elements.{tree_of}
use Rattle.mt_trees.specs.Meaning.{CanRewrite, Under, first_under, rewriters_of, rewritten}
use Rattle.mt_pipeline.specs.Contexts.{IsContextOf}
use Rattle.mt_pipeline.specs.Passing.{IsReady, IsStarved}
use Rattle.mt_pipeline.specs.Reached.{Place, reached, writes_of}
use Rattle.mt_pipeline.specs.Standing.{tables_of}
use Rattle.mt_pipeline.specs.Turns.{AreExpected, HasServed, HasStarved, IsAsBefore, IsStanding, ServerState}
use Rattle.mt_pipeline.specs.Walking.{EndsIn, known, state_of}
use Rattle.mt_pipeline.specs.declared.resources.Resources.{Resources}
use Rattle.mt_pipeline.specs.declared.server.Queued.{Queued}
use Rattle.mt_pipeline.specs.declared.server.Turn.{Turn}
use Rattle.mt_pipeline.specs.declared.server.Turn.TheVariants as turn
use Rattle.mt_pipeline.specs.declared.steps.End.{End}
use Rattle.mt_pipeline.specs.declared.steps.End.TheVariants.{Leaf, Drop, Starved}

-- ---- a try of the head

-- mappings and turns are as before
pub record IsLeft (resources resources' : Resources) (ledger ledger' : LedgerState) : Type 0 where
  pub mappings : resources'.store ≡ resources.store
  pub turns : ledger'.turns ≡ ledger.turns
  pub patterns : ledger'.patterns ≡ ledger.patterns

-- on the way a try met a pool while its share and its stock were empty; all was taken back then
pub record HasMet (rewriters : Rewriters) (gone : List ℕ) (resources : Resources) (ledger' : LedgerState) (pool : ℕ) : Type 0 where
  pub moment : Resources
  pub ledger_then : LedgerState
  pub ready : IsReady rewriters gone moment ledger_then
  pub starved : IsStarved rewriters gone moment ledger_then pool
  pub more : List Mapping
  pub opened : moment.store ≡ resources.store ++ more
  pub stock : ports_at ledger'.stocks pool ≡ []

-- how a try ends
abbrev pub EndsTry : Rewriters → List ℕ → List ℕ → List ℕ → TreeForm → Resources → Resources → LedgerState → LedgerState → Under → End → Type 0
EndsTry rewriters gone picks header tree resources resources' ledger ledger' under' (Leaf rewrite device) =
    EndsIn (state_of rewriters) picks header tree (known [] resources.store ledger []) (leaf (rewrite_form rewrite.now) device) under'
EndsTry rewriters gone picks header tree resources resources' ledger ledger' under' (Drop why) =
    EndsIn (state_of rewriters) picks header tree (known [] resources.store ledger []) (drop why) under'
EndsTry rewriters gone picks header tree resources resources' ledger ledger' under' (Starved pool) =
    HasMet rewriters gone resources ledger' pool × IsLeft resources resources' ledger ledger'

-- ---- behind a try

-- at a leaf the head's frame can be rewritten
abbrev pub MayFinish : List ℕ → List Flow → List Queued → End → Type 0
MayFinish header passed queue (Leaf rewrite device) =
    (rewrite.now.untag ≡ false) × (rewrite.now.tag ≡ None) × ((head : Queued) (rest : List Queued) → queue ≡ head ∷ rest → CanRewrite header passed (rewrite_form rewrite.now) (packet_of head.stamped))
MayFinish header passed queue (Drop why) = ⊤
MayFinish header passed queue (Starved pool) = ⊤

-- the head left the queue, with a fate that is worked out from its packet
pub record IsFinished (picks : List ℕ) (queue queue' : List Queued) (writes' count : ℕ) (fate_of : PacketState → Fate) (ended : Turn) : Type 0 where
  pub head : Queued
  pub queue_was : queue ≡ head ∷ queue'
  pub turn_is : ended ≡ turn.Served (record { number = head.stamped.number; fate = fate_of (packet_of head.stamped); picks = picks })
  pub counted : writes' ≡ count

-- what is made of the end of a try
abbrev pub Finishes : List ℕ → List Flow → List ℕ → List Queued → List Queued → ℕ → ℕ → End → Turn → Type 0
Finishes header passed picks queue queue' writes writes' (Leaf rewrite device) ended =
    IsFinished picks queue queue' writes' (writes + length rewrite.now.writes) (λ packet. fate.Sent device (stamped_of (rewritten header passed (rewrite_form rewrite.now) packet))) ended
Finishes header passed picks queue queue' writes writes' (Drop why) ended = IsFinished picks queue queue' writes' writes (λ packet. fate.Dropped why) ended
Finishes header passed picks queue queue' writes writes' (Starved pool) ended = (queue' ≡ queue) × (ended ≡ turn.Starved pool) × (writes' ≡ writes)

-- ---- the laws that a turn needs

pub record TurnLaws : Type 0 where
  pub mean : TreesMeanRuns
  pub serve : TreesCanBeServed
  pub stay : RunsStayInRange
  pub there : RunsAreThere
  pub keep : RunsKeepTables

-- ---- a turn

abbrev pub server_of : List Queued → Resources → ServerState
server_of queue resources = record { queue = queue; mappings = resources.store; shares = resources.shares }

-- the server stands for tables of the chain of which the context is made, and its frames for packets of the chain
pub record CanTurn (chain : ChainState) (rewriters : Rewriters) (classes : List (List (List Span) × Tree)) (index : ℕ × Cut) (server : ServerState) (ledger : LedgerState) : Type 0 where
  pub made : IsContextOf chain rewriters classes index
  pub standing : IsStanding chain server ledger
  pub expected : AreExpected chain server.queue

-- what is written is counted: the writes of the place that the tree of the head's header leads to
pub record HasCounted (chain : ChainState) (old : ServerState) (ledger : LedgerState) (picks : List ℕ) (writes writes' : ℕ) : Type 0 where
  pub head : Queued
  pub rest : List Queued
  pub queue_was : old.queue ≡ head ∷ rest
  pub tree : TreeForm
  pub tree_is : tree_of chain (header_of head.stamped.device head.stamped.frame) ≡ Some tree
  pub place : Place
  pub leads : (more : List ℕ) → reached (rewriters_of chain) (picks ++ more) (packet_of head.stamped) (header_of head.stamped.device head.stamped.frame) tree (first_under (tables_of old.mappings ledger)) ≡ Some (Ok place)
  pub counted : writes' ≡ writes + writes_of place.0

-- how a turn ends
module _ (rewriters : Rewriters) (classes : List (List (List Span) × Tree)) (index : ℕ × Cut) where
  abbrev pub EndsTurn : ServerState → ServerState → LedgerState → LedgerState → List ℕ → ℕ → ℕ → Turn → Type 0
  EndsTurn old new ledger ledger' gone writes writes' turn.Idle = (new ≡ old) × (ledger' ≡ ledger) × (writes' ≡ writes)
  EndsTurn old new ledger ledger' gone writes writes' (turn.Served service) =
      (chain : ChainState) → CanTurn chain rewriters classes index old ledger → HasServed chain old new ledger ledger' service × HasCounted chain old ledger service.picks writes writes'
  EndsTurn old new ledger ledger' gone writes writes' (turn.Starved pool) =
      ((chain : ChainState) → CanTurn chain rewriters classes index old ledger → HasStarved chain old ledger' gone pool) × IsAsBefore old new ledger ledger' × (writes' ≡ writes)
