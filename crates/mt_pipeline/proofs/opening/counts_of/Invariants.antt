use Rattle.std.proofs.Common.{◌≡◌, ◌++◌, ◌≤◌, length, map, All}
use Rattle.mt_pipeline.proofs.opening.counts_of.Given as goal

abbrev pub invariant-loop-rest : goal.invariant-loop-rest
invariant-loop-rest l = record {
  counts : l.counts.items ++ map length l.rest ≡ map length l.mappers;
  some : All (λ count. 1 ≤ count) l.counts.items;
}

abbrev pub decreases-loop-rest : goal.decreases-loop-rest
decreases-loop-rest l = length l.rest
