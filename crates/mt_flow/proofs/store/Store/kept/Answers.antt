use Rattle.std.proofs.Common.{◌≡◌, ◌+◌, ◌∙◌, ℕ, List, length, sym, ap, arith}
use Rattle.std.specs.BTreeMap as tree
use Rattle.mt_flow.specs.declared.keys.LaneKey.{LaneKey}
use Rattle.mt_flow.specs.declared.mapping.Mapping.{Mapping}
use Rattle.mt_flow.specs.Counts.{Counts, count_of, is_at, AreCounted}
use Rattle.mt_flow.specs.Keys.{forward_cmp}
use Rattle.mt_flow.proofs.Counted.{how_many, is_below, key_of, none_below, counted_below, skipped_below, many_le}
use Rattle.mt_flow.proofs.Oldest.{length_listed}
use Rattle.mt_flow.proofs.store.Store.kept.Goals as goal
use Rattle.mt_flow.proofs.store.Store.kept.Goals.{then-has_bucket, else-has_bucket}

lane_count : (counts : Counts) (list now : List Mapping) (lane : LaneKey) (count : ℕ) → AreCounted counts list → list ≡ now → count ≡ count_of counts lane → count ≡ how_many (is_at lane) now
lane_count counts list now lane count h same e = e ∙ h lane ∙ ap (how_many (is_at lane)) same

pub loop-bucket-init : goal.loop-bucket-init
loop-bucket-init c = sym (none_below c.args.group c.args.buckets c.args.self.now)

pub overflow_add-kept : goal.overflow_add-kept
overflow_add-kept c =
    let one = lane_count c.self.inside.indexes.counts _ c.args.self.now (key_of c.args.group c.loop-bucket.bucket) c.count_of.result c.self.invariant.2 c.self.view_is c.count_of.ensures in
    let both = counted_below c.args.group c.args.buckets c.loop-bucket.bucket c.args.self.now (sym c.has_bucket.ensures ∙ c.if-has_bucket.true) in
    let few = many_le (is_below c.args.group c.args.buckets (c.loop-bucket.bucket + 1)) c.args.self.now in
    let all = length_listed (tree.get forward_cmp c.self.inside.by_forward) c.self.inside.indexes.by_age.entries in
    let same = ap length c.self.view_is in
    let len = c.len-all.ensures.len in
    let small = c.len-all.ensures.small in
    let kept = c.loop-bucket.invariant in
    omega (arith, one, both, few, all, same, len, small, kept)

pub loop-bucket-preserved : goal.loop-bucket-preserved
loop-bucket-preserved c = elim c.if-has_bucket.branch [
  | then-has_bucket w ↦ (
      let one = lane_count c.self.inside.indexes.counts _ c.args.self.now (key_of c.args.group c.loop-bucket.bucket) w.count_of.result c.self.invariant.2 c.self.view_is w.count_of.ensures in
      let both = counted_below c.args.group c.args.buckets c.loop-bucket.bucket c.args.self.now (sym c.has_bucket.ensures ∙ w.if-has_bucket.true) in
      let kept = c.loop-bucket.invariant in let is = w.kept-is in omega (arith, one, both, kept, is))
  | else-has_bucket w ↦ (
      let both = skipped_below c.args.group c.args.buckets c.loop-bucket.bucket c.args.self.now (sym c.has_bucket.ensures ∙ w.if-has_bucket.false) in
      let kept = c.loop-bucket.invariant in let is = w.kept-is in omega (arith, both, kept, is))
]
