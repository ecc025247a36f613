use Rattle.std.proofs.Common.{List, ◌-◌}
use Rattle.mt_flow.specs.declared.mapping.Mapping.{Mapping}
use Rattle.mt_pipeline.specs.Passing.{IsReady}
use Rattle.mt_pipeline.specs.Trying.{IsOpenedSince}
use Rattle.mt_pipeline.proofs.taking_back.close_last.Given as goal

-- so many are still to be closed
abbrev pub invariant-loop : goal.invariant-loop
invariant-loop g l = record {
  ready : IsReady l.given.rewriters.now l.given.gone.now l.resources l.ledger;
  since : (mappings : List Mapping) → IsOpenedSince mappings l.count l.fn.resources.store → IsOpenedSince mappings (l.count - l.counter) l.resources.store;
}
