-- A turn of a server: what it serves, and what stays as it was where it serves nothing.
use Rattle.std.specs.Prelude.{◌≡◌, ◌<◌, ◌≤◌, ◌+◌, ℕ, List, [], ◌∷◌, ◌++◌, length, map, Some, Ok, Contains}
use Rattle.mt_elements.specs.ChainState.{ChainState, mappers_of}
use Rattle.mt_ledger.specs.Ledger.{LedgerState}
use Rattle.mt_ledger.specs.Pools.{PoolPorts, ports_at}
use Rattle.mt_flow.specs.declared.mapping.Mapping.{Mapping}
use Rattle.mt_rewriter.specs.Kept.{AreTables}
use Rattle.mt_chain.specs.Fates.{packet_of}
use Rattle.mt_chain.specs.Run.{run_answer}
use Rattle.mt_chain.specs.declared.run.Fate.{Fate}
use Rattle.mt_trees.specs.Ranges.{AreInRange}
use Rattle.mt_pipeline.specs.Standing.{AreWhole, held_ports, tables_of}
use Rattle.mt_pipeline.specs.declared.server.Queued.{Queued}

-- a server's queue, its mappings in the order of opening, and its share of each pool
pub record ServerState : Type 0 where
  pub queue : List Queued
  pub mappings : List Mapping
  pub shares : List PoolPorts

-- what became of a frame: its number, its fate, and the ports that were picked for it
pub record ServiceState : Type 0 where
  pub number : ℕ
  pub fate : Fate
  pub picks : List ℕ

-- One server and the ledger stand for tables of a chain: stock, share and the ports that mappings hold are together each
-- pool, and the mappings and turns are tables of the chain.
pub record IsStanding (chain : ChainState) (server : ServerState) (ledger : LedgerState) : Type 0 where
  pub whole : AreWhole chain.pools ledger server.shares (held_ports server.mappings)
  pub patterns : ledger.patterns ≡ map length (mappers_of chain.kinds)
  pub turns : length ledger.turns ≡ length ledger.patterns
  pub kept : AreTables chain (tables_of server.mappings ledger)
  pub range : AreInRange (tables_of server.mappings ledger)

-- the frames of a queue arrived on devices on which frames of the chain arrive
abbrev pub AreExpected : ChainState → List Queued → Type 0
AreExpected chain [] = Unit {0}
AreExpected chain (queued ∷ queue) = ((0 < queued.stamped.device) × (queued.stamped.device ≤ chain.entries)) × AreExpected chain queue

-- The head of the queue was served: element by element, with the picks of its service and whatever picks follow, the chain
-- makes of it the fate of its service, takes those picks, and then has the tables for which server and ledger stand.
pub record HasServed (chain : ChainState) (old new : ServerState) (ledger ledger' : LedgerState) (service : ServiceState) : Type 0 where
  pub head : Queued
  pub queue_was : old.queue ≡ head ∷ new.queue
  pub number_is : service.number ≡ head.stamped.number
  pub run : (more : List ℕ) → run_answer chain (tables_of old.mappings ledger) (packet_of head.stamped) (service.picks ++ more)
      ≡ Some (Ok (record { fate = service.fate; tables = tables_of new.mappings ledger'; picks = more }))

-- nothing was served: but for places of ports between stock and share all is as it was
pub record IsAsBefore (old new : ServerState) (ledger ledger' : LedgerState) : Type 0 where
  pub queue : new.queue ≡ old.queue
  pub mappings : new.mappings ≡ old.mappings
  pub turns : ledger'.turns ≡ ledger.turns
  pub patterns : ledger'.patterns ≡ ledger.patterns

-- A try of the head met a pool that is not gone, while share and stock were empty: mappings held all its ports then, those
-- of the server and those that the try had opened. What the try did is taken back, so a port that it had picked may stand
-- in the share again; the stock is empty still.
pub record HasStarved (chain : ChainState) (old : ServerState) (ledger' : LedgerState) (gone : List ℕ) (pool : ℕ) : Type 0 where
  pub known : pool < length chain.pools
  pub not_gone : Contains gone pool → ⊥
  pub opened : List Mapping
  pub shares : List PoolPorts
  pub ledger_then : LedgerState
  pub whole : AreWhole chain.pools ledger_then shares (held_ports (old.mappings ++ opened))
  pub share : ports_at shares pool ≡ []
  pub stock_then : ports_at ledger_then.stocks pool ≡ []
  pub stock : ports_at ledger'.stocks pool ≡ []
