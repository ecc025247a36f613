use Rattle.std.proofs.Common.{◌∙◌, sym}
use Rattle.mt_flow.proofs.Firsts.{skipped, looked_at}
use Rattle.mt_flow.proofs.lanes.oldest.Goals as goal
use Rattle.mt_flow.proofs.lanes.oldest.Goals.{then-has_bucket, else-has_bucket}

pub loop-bucket-preserved : goal.loop-bucket-preserved
loop-bucket-preserved c = elim c.if-has_bucket.branch [
  | then-has_bucket w ↦ rw (w.best-is, w.older-best.ensures) (looked_at _ c.args.group c.args.buckets c.loop-bucket.bucket c.loop-bucket.best w.first_of.result c.loop-bucket.invariant w.first_of.ensures (sym c.has_bucket.ensures ∙ w.if-has_bucket.true))
  | else-has_bucket w ↦ rw w.best-is (skipped _ c.args.group c.args.buckets c.loop-bucket.bucket c.loop-bucket.best c.loop-bucket.invariant (sym c.has_bucket.ensures ∙ w.if-has_bucket.false))
]
