use Rattle.std.proofs.Common.{◌≤◌, min, filter, length, vec_capacity}
use Rattle.mt_flow.specs.Lanes.{is_of}
use Rattle.mt_flow.proofs.Oldest.{IsTaking}
use Rattle.mt_flow.proofs.store.Store.take_lanes.Given as goal

abbrev pub invariant-loop-count : goal.invariant-loop-count
invariant-loop-count l = record {
  taking : IsTaking (is_of l.group l.buckets) l.fn.self l.self l.taken.items l.count;
  room : min (length (filter (is_of l.group l.buckets) l.fn.self)) l.most ≤ vec_capacity l.taken;
}
