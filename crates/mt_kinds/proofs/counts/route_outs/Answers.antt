use Rattle.std.proofs.Common.{◌+◌, refl, arith}
use Rattle.std.specs.Prelude.{None}
use Rattle.mt_kinds.specs.declared.hop.Hop.{Hop}
use Rattle.mt_kinds.proofs.Greatest.{greatest_more, greatest_done}
use Rattle.mt_kinds.proofs.counts.route_outs.Goals as goal

pub loop-hop-preserved : goal.loop-hop-preserved
loop-hop-preserved c = record {
  so_far = greatest_more (λ (hop : Hop). hop.out + 1) c.args.hops.now c.loop-hop.hop-index (record { address = 0; length = 0; gateway = None; out = 0 }) c.loop-hop.count _ _ c.loop-hop-test.true refl c.greater-count.ensures c.loop-hop.invariant.so_far;
  few = grind (arith, c.greater-count.ensures, c.loop-hop.invariant.few, c.requires);
}

pub returns-clause-value : goal.returns-clause-value
returns-clause-value c = greatest_done (λ (hop : Hop). hop.out + 1) c.args.hops.now c.loop-hop.hop-index c.loop-hop.count (omega arith) c.loop-hop.invariant.so_far
