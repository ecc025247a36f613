-- What stands between two frames: the server that serves the chain, its ledger, and the count of what was written.
use Rattle.std.specs.Prelude.{◌≡◌, ◌<◌, ℕ, ◌+◌, List, [], ◌∷◌, ◌++◌, length, Contains}
use Rattle.mt_packet.specs.declared.frame.Stamped.{Stamped}
use Rattle.mt_elements.specs.ChainState.{ChainState}
use Rattle.mt_rewriter.specs.Mappings.{TablesState, first_tables}
use Rattle.mt_packet.specs.declared.span.Span.{Span}
use Rattle.mt_cuts.specs.declared.cut.Cut.{Cut}
use Rattle.mt_elements.specs.declared.chain.Rewriters.{Rewriters}
use Rattle.mt_terms.specs.declared.tree.Tree.{Tree}
use Rattle.mt_pipeline.specs.Serving.{CanTurn}
use Rattle.mt_pipeline.specs.Standing.{AreGone, tables_of}
use Rattle.mt_pipeline.specs.Turns.{ServiceState}
use Rattle.mt_pipeline.specs.declared.server.Queued.{Queued}
use Rattle.mt_pipeline.specs.declared.server.Turn.{Turn}
use Rattle.mt_pipeline.specs.declared.server.Turn.TheVariants as turn
use Rattle.metron.specs.Serving.{HasRunOne}
use Rattle.metron.specs.declared.worker.Worker.{Worker}

-- the tables for which server and ledger stand
abbrev pub tables_at : Worker → TablesState
tables_at worker = tables_of worker.server.mappings worker.ledger

-- The server can serve frames of the chain, and none is queued. What serving needs is made of the chain.
pub record IsAtRest (chain : ChainState) (rewriters : Rewriters) (classes : List (List (List Span) × Tree)) (index : ℕ × Cut) (worker : Worker) : Type 0 where
  pub can : CanTurn chain rewriters classes index worker.server worker.ledger
  pub waits_none : worker.server.queue ≡ []

-- nothing was served yet
pub record IsBegun (chain : ChainState) (rewriters : Rewriters) (classes : List (List (List Span) × Tree)) (index : ℕ × Cut) (worker : Worker) : Type 0 where
  pub rest : IsAtRest chain rewriters classes index worker
  pub first : tables_at worker ≡ first_tables chain
  pub none_written : worker.writes ≡ 0

-- A frame was served: what became of it is its run, and what was written is counted.
pub record HasServedFrame (chain : ChainState) (old new : Worker) (frame : Stamped) (service : ServiceState) : Type 0 where
  pub number_is : service.number ≡ frame.number
  pub count : ℕ
  pub counted : new.writes ≡ old.writes + count
  pub run : HasRunOne chain (tables_at old) (tables_at new) frame service.fate service.picks count

-- ---- a turn

-- the one frame that is queued
abbrev pub IsWaiting : Worker → Stamped → Type 0
IsWaiting worker frame = (queued : Queued) × (queued.stamped ≡ frame) × (worker.server.queue ≡ queued ∷ [])

-- The frame waits still: a pool was met empty that is not among those, and its stock is empty. The rest is as it was.
pub record HasMissed (chain : ChainState) (old new : Worker) (gone : List ℕ) (pool : ℕ) : Type 0 where
  pub known : pool < length chain.pools
  pub not_gone : Contains gone pool → ⊥
  pub gone_too : AreGone (gone ++ pool ∷ []) new.ledger
  pub queue : new.server.queue ≡ old.server.queue
  pub tables : tables_at new ≡ tables_at old
  pub writes : new.writes ≡ old.writes

-- how a turn ends of a server that has one frame queued
abbrev pub HasTurned : ChainState → Worker → Worker → List ℕ → Turn → Type 0
HasTurned chain old new gone turn.Idle = ⊥
HasTurned chain old new gone (turn.Served service) = (frame : Stamped) → IsWaiting old frame → HasServedFrame chain old new frame service × (new.server.queue ≡ [])
HasTurned chain old new gone (turn.Starved pool) = HasMissed chain old new gone pool
