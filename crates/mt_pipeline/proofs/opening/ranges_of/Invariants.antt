use Rattle.std.proofs.Common.{◌≡◌, ◌++◌, length, map}
use Rattle.mt_pipeline.specs.Opened.{range_in}
use Rattle.mt_pipeline.proofs.opening.ranges_of.Given as goal

abbrev pub invariant-loop-rest : goal.invariant-loop-rest
invariant-loop-rest l = l.ranges.items ++ map range_in l.rest ≡ map range_in l.pools

abbrev pub decreases-loop-rest : goal.decreases-loop-rest
decreases-loop-rest l = length l.rest
