-- The parts of a passage: a port is taken or given back, a template is tried, and the templates of a mapper are tried in
-- their ring.
use Rattle.std.specs.Prelude.{◌≡◌, ◌<◌, ◌⊎◌, ℕ, Bool, true, false, List, [], ◌∷◌, ◌++◌, length, Option, Some, None, is_some, Result, Ok, Err, Contains, slice_get, slice_index, slice_set, if◌then◌else◌}
use Rattle.std.specs.BTreeMap.{insert_entry}
use Rattle.mt_ledger.specs.Ledger.{LedgerState, turn_after}
use Rattle.mt_ledger.specs.Pools.{PoolPorts, ports_at, IsPortOf}
use Rattle.mt_ledger.specs.Ports.{HeldPort, NoneTwice}
use Rattle.mt_kinds.specs.declared.rewriter.Pool.{Pool}
use Rattle.mt_kinds.specs.declared.rewriter.SourcePort.{SourcePort}
use Rattle.mt_kinds.specs.declared.rewriter.SourcePort.TheVariants as wanted
use Rattle.mt_kinds.specs.declared.rewriter.Spec.{Spec}
use Rattle.mt_kinds.specs.declared.rewriter.Template.{Template}
use Rattle.mt_kinds.specs.Ports.{mapper_at}
use Rattle.mt_elements.specs.declared.chain.Rewriters.{Rewriters}
use Rattle.mt_packet.specs.declared.cause.Cause.TheVariants as cause
use Rattle.mt_flow.specs.Keys.{forward_cmp}
use Rattle.mt_flow.specs.Mappings.{StandsReply, met_forward, reply_key, reversed}
use Rattle.mt_flow.specs.declared.keys.ForwardKey.{ForwardKey}
use Rattle.mt_flow.specs.declared.mapping.Mapping.{Mapping}
use Rattle.mt_flow.specs.declared.mapping.Meeting.{Meeting}
use Rattle.mt_flow.specs.declared.mapping.OpenFault.{OpenFault}
use Rattle.mt_flow.specs.declared.mapping.OpenFault.TheVariants as fault
use Rattle.mt_rewriter.specs.Mappings.{TablesState, forward_meeting, meets_reply}
use Rattle.mt_rewriter.specs.Mappings.{Mapping as Entry}
use Rattle.mt_rewriter.specs.Passages.{by_attempt, by_mapper, by_round, by_spec, remembered}
use Rattle.mt_rewriter.specs.Tries.{by_source, from_pool, made_or_clashed, rewritten, ring, try_template}
use Rattle.mt_rewriter.specs.declared.passage.Decision.{Decision}
use Rattle.mt_rewriter.specs.declared.passage.Passage.{Passage}
use Rattle.mt_rewriter.specs.declared.passage.Passage.TheVariants as becomes
use Rattle.mt_rewriter.specs.declared.translation.Translation.{Translation}
use Rattle.mt_pipeline.specs.Passing.{IsReady, IsStarved}
use Rattle.mt_pipeline.specs.Standing.{AreGone, AreWhole, entries_of, tables_of, with_held}
use Rattle.mt_pipeline.specs.declared.passage.Passed.{Passed}
use Rattle.mt_pipeline.specs.declared.passage.Passed.TheVariants as passed
use Rattle.mt_pipeline.specs.declared.ports.Sourced.{Sourced}
use Rattle.mt_pipeline.specs.declared.ports.Sourced.TheVariants as sourced
use Rattle.mt_pipeline.specs.declared.resources.Resources.{Resources}
use Rattle.mt_pipeline.specs.declared.ring.Led.{Led}
use Rattle.mt_pipeline.specs.declared.ring.Led.TheVariants as led
use Rattle.mt_pipeline.specs.declared.tries.Tried.{Tried}
use Rattle.mt_pipeline.specs.declared.tries.Tried.TheVariants as tried

-- ---- ports

-- Ports changed their places: one more is held, where there is a token. Turns stay, and so does what is gone.
pub record HasMoved (token : Option HeldPort) (ledger ledger' : LedgerState) (shares shares' : List PoolPorts) : Type 0 where
  pub whole : (pools : List Pool) (held : List HeldPort) → AreWhole pools ledger shares held → AreWhole pools ledger' shares' (with_held token held)
  pub gone : (gone : List ℕ) → AreGone gone ledger → AreGone gone ledger'
  pub turns : ledger'.turns ≡ ledger.turns
  pub patterns : ledger'.patterns ≡ ledger.patterns

-- a port of a pool that is there may be put back
abbrev pub IsGivable : List Pool → List PoolPorts → Option HeldPort → Type 0
IsGivable pools shares None = Unit {0}
IsGivable pools shares (Some held) = held.pool < length pools → IsPortOf shares held.pool held.port × NoneTwice (held.port ∷ ports_at shares held.pool)

-- it was put back
abbrev pub IsGivenBack : List Pool → List PoolPorts → List PoolPorts → Option HeldPort → Type 0
IsGivenBack pools shares shares' token =
    (ledger : LedgerState) (held : List HeldPort) → AreWhole pools ledger shares (with_held token held) → AreWhole pools ledger shares' held

-- the port that is held then
abbrev pub token_of : Sourced → Option HeldPort
token_of (sourced.Port port held) = held
token_of sourced.Exhausted = None
token_of (sourced.Starved pool) = None

abbrev pub token_in : {E : Type 0} → Result Sourced E → Option HeldPort
token_in (Ok found) = token_of found
token_in (Err e) = None

-- no port of the pool stands in the share or the stock
pub record IsEmpty (ledger : LedgerState) (shares : List PoolPorts) (pool : ℕ) : Type 0 where
  pub share : ports_at shares pool ≡ []
  pub stock : ports_at ledger.stocks pool ≡ []

-- the port that a flow gets is its own, one that is given, or one of a pool, which is picked
abbrev pub IsSource : List Pool → ℕ → SourcePort → ℕ → Option HeldPort → List ℕ → List ℕ → Type 0
IsSource pools own wanted.Same port held before after = (port ≡ own) × (held ≡ None) × (after ≡ before)
IsSource pools own (wanted.One fixed) port held before after = (port ≡ fixed) × (held ≡ None) × (after ≡ before)
IsSource pools own (wanted.Pool number) port held before after =
    (number < length pools) × (held ≡ Some (record { pool = number; port = port })) × (after ≡ before ++ port ∷ [])

-- a pool that is not there, or has no port but those that are held
abbrev pub IsExhausted : List Pool → LedgerState → List PoolPorts → SourcePort → Type 0
IsExhausted pools ledger shares (wanted.Pool number) = (slice_get pools number ≡ None) ⊎ IsEmpty ledger shares number
IsExhausted pools ledger shares other = ⊥

-- how a source port is found
abbrev pub EndsSource : {E : Type 0} → List Pool → List ℕ → LedgerState → List PoolPorts → ℕ → SourcePort → List ℕ → List ℕ → Result Sourced E → Type 0
EndsSource pools gone ledger shares own wanted before after (Ok (sourced.Port port held)) = IsSource pools own wanted port held before after
EndsSource pools gone ledger shares own wanted before after (Ok sourced.Exhausted) = (after ≡ before) × IsExhausted pools ledger shares wanted
EndsSource pools gone ledger shares own wanted before after (Ok (sourced.Starved pool)) =
    (after ≡ before) × (pool < length pools) × (Contains gone pool → ⊥) × IsEmpty ledger shares pool
EndsSource pools gone ledger shares own wanted before after (Err e) = after ≡ before

-- ---- a try of a template

-- the mapping that a template makes, with a source port and the port that it holds
abbrev pub mapping_of : ForwardKey → Template → ℕ → Option HeldPort → Mapping
mapping_of key template port held = record {
  element = key.element;
  input = key.input;
  before = key.before;
  after = rewritten template key.before port;
  fout = template.fout;
  rout = template.rout;
  group = 0;
  bucket = 0;
  port = held;
}

-- it was opened, or its replies are those of another, or there was no memory
abbrev pub EndsOpening : {E : Type 0} → List Pool → Mapping → Resources → Resources → Result Tried E → Type 0
EndsOpening pools mapping resources resources' (Ok (tried.Made meeting)) =
    (resources'.store ≡ resources.store ++ mapping ∷ []) × (resources'.shares ≡ resources.shares) × (StandsReply resources.store (reply_key mapping) → ⊥) × (meeting ≡ met_forward mapping)
EndsOpening pools mapping resources resources' (Ok tried.Clashed) =
    (resources'.store ≡ resources.store) × StandsReply resources.store (reply_key mapping) × IsGivenBack pools resources.shares resources'.shares mapping.port
EndsOpening pools mapping resources resources' (Ok tried.Exhausted) = ⊥
EndsOpening pools mapping resources resources' (Ok (tried.Starved pool)) = ⊥
EndsOpening pools mapping resources resources' (Err e) = (resources'.store ≡ resources.store) × IsGivenBack pools resources.shares resources'.shares mapping.port

-- a refusal, and what it makes of a try
abbrev pub IsRefusal : {E : Type 0} → OpenFault → Result Tried E → Type 0
IsRefusal (fault.Clash mapping) (Ok (tried.Made meeting)) = ⊥
IsRefusal (fault.Clash mapping) (Ok tried.Clashed) = Unit {0}
IsRefusal (fault.Clash mapping) (Ok tried.Exhausted) = ⊥
IsRefusal (fault.Clash mapping) (Ok (tried.Starved pool)) = ⊥
IsRefusal (fault.Clash mapping) (Err e) = ⊥
IsRefusal (fault.NoMemory mapping) (Ok other) = ⊥
IsRefusal (fault.NoMemory mapping) (Err e) = Unit {0}

-- what becomes of a source port that was found, or was not
abbrev pub EndsSourced : {E : Type 0} → List Pool → ForwardKey → Template → Sourced → Resources → Resources → Result Tried E → Type 0
EndsSourced pools key template (sourced.Port port held) resources resources' result = EndsOpening pools (mapping_of key template port held) resources resources' result
EndsSourced pools key template sourced.Exhausted resources resources' (Ok tried.Exhausted) = (resources'.store ≡ resources.store) × (resources'.shares ≡ resources.shares)
EndsSourced pools key template sourced.Exhausted resources resources' (Ok (tried.Made meeting)) = ⊥
EndsSourced pools key template sourced.Exhausted resources resources' (Ok tried.Clashed) = ⊥
EndsSourced pools key template sourced.Exhausted resources resources' (Ok (tried.Starved other)) = ⊥
EndsSourced pools key template sourced.Exhausted resources resources' (Err e) = ⊥
EndsSourced pools key template (sourced.Starved pool) resources resources' (Ok (tried.Starved other)) = (other ≡ pool) × (resources'.store ≡ resources.store) × (resources'.shares ≡ resources.shares)
EndsSourced pools key template (sourced.Starved pool) resources resources' (Ok (tried.Made meeting)) = ⊥
EndsSourced pools key template (sourced.Starved pool) resources resources' (Ok tried.Clashed) = ⊥
EndsSourced pools key template (sourced.Starved pool) resources resources' (Ok tried.Exhausted) = ⊥
EndsSourced pools key template (sourced.Starved pool) resources resources' (Err e) = ⊥

-- how many mappings a try opened
abbrev pub opened_by : Tried → ℕ
opened_by (tried.Made meeting) = 1
opened_by tried.Clashed = 0
opened_by tried.Exhausted = 0
opened_by (tried.Starved pool) = 0

abbrev pub opened_in : {E : Type 0} → Result Tried E → ℕ
opened_in (Ok found) = opened_by found
opened_in (Err e) = 0

-- what a try keeps, which opened so many mappings
pub record IsTry (rewriters : Rewriters) (gone : List ℕ) (resources resources' : Resources) (ledger ledger' : LedgerState) (before after : List ℕ) (opened : ℕ) : Type 0 where
  pub ready : IsReady rewriters gone resources' ledger'
  pub turns : ledger'.turns ≡ ledger.turns
  pub patterns : ledger'.patterns ≡ ledger.patterns
  pub picks : List ℕ
  pub picks_are : after ≡ before ++ picks
  pub more : List Mapping
  pub store_is : resources'.store ≡ resources.store ++ more
  pub counted : length more ≡ opened

-- By the picks behind those that were taken before, whatever picks follow, the try comes to a translation, which clashes or
-- is made.
pub record ComesTo (pools : List Pool) (entries : List Entry) (key : ForwardKey) (template : Template) (before after : List ℕ) (clashes : Bool) (translation : Translation) : Type 0 where
  pub met : is_some (meets_reply entries key.element (reversed translation.after)) ≡ clashes
  pub tried_is : (more : List ℕ) → try_template pools (after ++ more) entries key (length before) template ≡ made_or_clashed entries key.element translation (length after)

-- a mapping was opened
pub record HasMade (pools : List Pool) (key : ForwardKey) (template : Template) (store store' : List Mapping) (before after : List ℕ) (meeting : Meeting) : Type 0 where
  pub translation : Translation
  pub comes : ComesTo pools (entries_of store) key template before after false translation
  pub entries : entries_of store' ≡ insert_entry forward_cmp (entries_of store) key translation
  pub meeting_is : meeting ≡ forward_meeting translation

-- no port of the pool is free, whatever picks follow
abbrev pub FindsNone : List Pool → List Entry → ForwardKey → Template → List ℕ → Type 0
FindsNone pools entries key template before =
    (more : List ℕ) → try_template pools (before ++ more) entries key (length before) template ≡ by_source entries key.element template key.before (from_pool entries [] 0 0 None)

-- how a try of a template ends
abbrev pub EndsTry : {E : Type 0} → Rewriters → List ℕ → ForwardKey → Template → Resources → Resources → LedgerState → List ℕ → List ℕ → Result Tried E → Type 0
EndsTry rewriters gone key template resources resources' ledger' before after (Ok (tried.Made meeting)) =
    HasMade rewriters.pools.items key template resources.store resources'.store before after meeting
EndsTry rewriters gone key template resources resources' ledger' before after (Ok tried.Clashed) =
    (translation : Translation) × ComesTo rewriters.pools.items (entries_of resources.store) key template before after true translation
EndsTry rewriters gone key template resources resources' ledger' before after (Ok tried.Exhausted) =
    (after ≡ before) × FindsNone rewriters.pools.items (entries_of resources.store) key template before
EndsTry rewriters gone key template resources resources' ledger' before after (Ok (tried.Starved pool)) = IsStarved rewriters gone resources' ledger' pool
EndsTry rewriters gone key template resources resources' ledger' before after (Err e) = Unit {0}

-- ---- how a passage or a part of it ends

-- What is decided by the picks that were taken, whatever picks follow, is remembered.
pub record HasEnded (decide : List ℕ → Result Decision ℕ) (tables tables' : TablesState) (after : List ℕ) (passage : Passage) : Type 0 where
  pub decision : Decision
  pub passage_is : decision.passage ≡ passage
  pub used : decision.used ≡ length after
  pub decided : (more : List ℕ) → decide (after ++ more) ≡ Ok decision
  pub tables_are : tables' ≡ remembered decision tables

abbrev pub EndsBy : (List ℕ → Result Decision ℕ) → Rewriters → List ℕ → Resources → Resources → LedgerState → LedgerState → List ℕ → Passed → Type 0
EndsBy decide rewriters gone resources resources' ledger ledger' after (passed.Through passage) = HasEnded decide (tables_of resources.store ledger) (tables_of resources'.store ledger') after passage
EndsBy decide rewriters gone resources resources' ledger ledger' after (passed.Starved pool) = IsStarved rewriters gone resources' ledger' pool

-- ---- the ring of a mapper

-- where a try of a template leads
abbrev pub led_by : Bool → Tried → Led
led_by clashed (tried.Made meeting) = led.Ends (passed.Through (becomes.Rewritten meeting))
led_by clashed tried.Clashed = led.Along true
led_by clashed tried.Exhausted = led.Along clashed
led_by clashed (tried.Starved pool) = led.Ends (passed.Starved pool)

-- the template whose turn it is was tried, and the turn moved on
pub record HasTurned {E : Type 0} (rewriters : Rewriters) (gone : List ℕ) (key : ForwardKey) (mapper : ℕ) (templates : List Template) (resources resources' : Resources) (ledger ledger' : LedgerState) (before after : List ℕ) (result : Result Tried E) : Type 0 where
  pub template : Template
  pub at : slice_get templates (slice_index ledger.turns mapper) ≡ Some template
  pub turns : ledger'.turns ≡ slice_set ledger.turns mapper (turn_after (length templates) (slice_index ledger.turns mapper))
  pub stays : opened_in result ≡ 0 → resources'.store ≡ resources.store
  pub ends : EndsTry rewriters gone key template resources resources' ledger' before after result

-- the decision for one template
abbrev pub once_decision : List Pool → List Entry → ForwardKey → Template → List ℕ → List ℕ → Result Decision ℕ
once_decision pools entries key template before picks = by_attempt key (length before) (try_template pools picks entries key (length before) template)

-- how a passage ends for which one template was tried
abbrev pub ended_by : Tried → Passed
ended_by (tried.Made meeting) = passed.Through (becomes.Rewritten meeting)
ended_by tried.Clashed = passed.Through (becomes.Dropped cause.Clash)
ended_by tried.Exhausted = passed.Through (becomes.Dropped cause.Exhausted)
ended_by (tried.Starved pool) = passed.Starved pool

-- the decision for a mapper, and for what an input says
abbrev pub mapper_decision : Rewriters → TablesState → ForwardKey → ℕ → List ℕ → List ℕ → Result Decision ℕ
mapper_decision rewriters tables key mapper before picks = by_mapper rewriters.mappers.items rewriters.pools.items picks tables key (length before) mapper (mapper_at rewriters.mappers.items mapper)

abbrev pub spec_decision : Rewriters → TablesState → ForwardKey → Spec → List ℕ → List ℕ → Result Decision ℕ
spec_decision rewriters tables key spec before picks = by_spec rewriters.mappers.items rewriters.pools.items picks tables key (length before) spec

-- the decision for the ring of a mapper from the turn of a ledger on
abbrev pub ring_decision : List Pool → List Entry → ForwardKey → ℕ → List Template → LedgerState → List ℕ → List ℕ → Result Decision ℕ
ring_decision pools entries key mapper templates ledger before picks =
    by_round key mapper (ring (try_template pools picks entries key) templates (length templates) (slice_index ledger.turns mapper) false (length before))

-- no template of a ring made a mapping
abbrev pub none_made : Bool → Passed
none_made clashed = passed.Through (if clashed then becomes.Dropped cause.Clash else becomes.Dropped cause.Exhausted)

-- ---- what is taken back

-- so many mappings were opened behind these
pub record IsOpenedSince (mappings : List Mapping) (count : ℕ) (store : List Mapping) : Type 0 where
  pub more : List Mapping
  pub store_is : store ≡ mappings ++ more
  pub counted : length more ≡ count

abbrev pub with_turns : LedgerState → List ℕ → LedgerState
with_turns ledger turns = record ledger { turns = turns }
