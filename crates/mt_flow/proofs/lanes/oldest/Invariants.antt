use Rattle.std.specs.BTreeMap as tree
use Rattle.mt_flow.specs.Keys.{lane_cmp}
use Rattle.mt_flow.specs.Lanes.{IsFound}
use Rattle.mt_flow.proofs.lanes.oldest.Given as goal

abbrev pub invariant-loop-bucket : goal.invariant-loop-bucket
invariant-loop-bucket l = IsFound (tree.get lane_cmp l.by_lane) l.group l.buckets l.bucket l.best
