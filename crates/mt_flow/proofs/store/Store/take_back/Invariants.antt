use Rattle.std.proofs.Common.{◌≤◌, vec_capacity}
use Rattle.mt_flow.specs.Mappings.{IsTakenBack}
use Rattle.mt_flow.proofs.store.Store.take_back.Given as goal

abbrev pub invariant-loop-back : goal.invariant-loop-back
invariant-loop-back l = record {
  taken : IsTakenBack l.fn.self l.self l.fn.mappings.items l.mappings.items l.back;
  room : vec_capacity l.fn.mappings ≤ vec_capacity l.mappings;
}
