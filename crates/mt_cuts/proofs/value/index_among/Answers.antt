-- The index is the partition point of ends that rise.
use Rattle.std.proofs.Common.{ℕ, ltb, arith, rules}
use Rattle.std.proofs.lemmas.List.Sorted.{IsPartitionPoint-from_clause, IsPartitionedBy-ltb}
use Rattle.mt_cuts.proofs.Places.{place_is, never_falls}
use Rattle.mt_cuts.proofs.value.index_among.Goals as goal

pub returns : goal.returns
returns c =
    let parted = IsPartitionedBy-ltb (λ (n : ℕ). n) c.args.ends.now c.args.value (never_falls c.args.ends.now c.requires) in
    let found = IsPartitionPoint-from_clause (λ (y : ℕ). ltb y c.args.value) _ _ c.partition_point.ensures.partitioned parted (λ a r q k. search rules) in
    place_is c.args.value c.args.ends.now c.partition_point.result c.partition_point.ensures.bound (λ k d lt. found.0 k d (omega arith) lt) (λ k d le lt. found.1 k d le lt)
