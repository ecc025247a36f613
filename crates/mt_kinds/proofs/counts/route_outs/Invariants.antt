use Rattle.std.proofs.Common.{◌≡◌, ◌+◌, ◌≤◌, drop}
use Rattle.std.specs.Prelude.{max}
use Rattle.mt_kinds.specs.Outputs.{greatest}
use Rattle.mt_kinds.proofs.counts.route_outs.Given as goal

abbrev pub invariant-loop-hop : goal.invariant-loop-hop
invariant-loop-hop l = record {
  so_far : greatest (λ hop. hop.out + 1) l.hops ≡ max l.count (greatest (λ hop. hop.out + 1) (drop l.hop-index l.hops));
  few : l.count ≤ 512;
}
