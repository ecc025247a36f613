use Rattle.std.proofs.Common.{◌≡◌, length}
use Rattle.mt_packet.specs.declared.frame.Stamped.{Stamped}
use Rattle.mt_elements.specs.ChainState.{ChainState}
use Rattle.mt_pipeline.specs.Serving.{CanTurn}
use Rattle.mt_pipeline.specs.Standing.{AreGone}
use Rattle.metron.specs.Standing.{IsWaiting, tables_at}
use Rattle.metron.proofs.Turning.{pools_left}
use Rattle.metron.proofs.worker.Worker.serve_head.Given as goal

-- the frame waits still
abbrev pub invariant-loop-service : goal.invariant-loop-service
invariant-loop-service g l = record {
  can : (chain : ChainState) → CanTurn chain l.context.rewriters l.context.classes l.context.index l.fn.self.server l.fn.self.ledger → CanTurn chain l.context.rewriters l.context.classes l.context.index l.self.server l.self.ledger;
  waiting : (frame : Stamped) → IsWaiting l.fn.self frame → IsWaiting l.self frame;
  gone : AreGone l.gone.items l.self.ledger;
  tables : tables_at l.self ≡ tables_at l.fn.self;
  writes : l.self.writes ≡ l.fn.self.writes;
}

abbrev pub decreases-loop-service : goal.decreases-loop-service
decreases-loop-service g l = pools_left l.gone.items (length l.context.rewriters.pools.items)
