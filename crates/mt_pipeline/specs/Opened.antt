-- A server as it is opened.
use Rattle.std.specs.Prelude.{◌≡◌, ℕ, List, []}
use Rattle.mt_packet.specs.declared.span.Span.{Span}
use Rattle.mt_cuts.specs.declared.cut.Cut.{Cut}
use Rattle.mt_elements.specs.ChainState.{ChainState}
use Rattle.mt_elements.specs.declared.chain.Rewriters.{Rewriters}
use Rattle.mt_kinds.specs.declared.rewriter.Pool.{Pool}
use Rattle.mt_ledger.specs.Ledger.{LedgerState}
use Rattle.mt_ledger.specs.declared.pool.PortRange.{PortRange}
use Rattle.mt_rewriter.specs.Mappings.{first_tables}
use Rattle.mt_terms.specs.declared.tree.Tree.{Tree}
use Rattle.mt_pipeline.specs.Serving.{CanTurn}
use Rattle.mt_pipeline.specs.Standing.{tables_of}
use Rattle.mt_pipeline.specs.Turns.{ServerState}

-- the ports of a pool
abbrev pub range_in : Pool → PortRange
range_in pool = record { lo = pool.lo; hi = pool.hi }

-- the server can take turns, no frame waits, and nothing is remembered yet
pub record IsOpened (chain : ChainState) (rewriters : Rewriters) (classes : List (List (List Span) × Tree)) (index : ℕ × Cut) (ledger : LedgerState) (server : ServerState) : Type 0 where
  pub can : CanTurn chain rewriters classes index server ledger
  pub waits_none : server.queue ≡ []
  pub first : tables_of server.mappings ledger ≡ first_tables chain
