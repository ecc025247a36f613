use Rattle.std.proofs.Common.{◌≡◌}
use Rattle.mt_flow.proofs.Counted.{how_many, is_below}
use Rattle.mt_flow.proofs.store.Store.kept.Given as goal

abbrev pub invariant-loop-bucket : goal.invariant-loop-bucket
invariant-loop-bucket l = l.kept ≡ how_many (is_below l.group l.buckets l.bucket) l.self
