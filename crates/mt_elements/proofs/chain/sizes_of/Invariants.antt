use Rattle.std.proofs.Common.{◌≡◌, ◌++◌, ◌<◌, ◌^◌, length, map, All}
use Rattle.mt_elements.proofs.chain.sizes_of.Given as goal

abbrev pub invariant-loop-rest : goal.invariant-loop-rest
invariant-loop-rest l = record {
  sizes : l.sizes.items ++ map length l.rest ≡ map length l.mappers;
  short : All (λ templates. length templates < 2 ^ 32) l.rest;
}

abbrev pub decreases-loop-rest : goal.decreases-loop-rest
decreases-loop-rest l = length l.rest
