use Rattle.std.proofs.Common.{arith}
use Rattle.mt_kinds.specs.declared.rewriter.Spec.TheVariants as spec
use Rattle.mt_kinds.specs.Ports.{spec_outs}
use Rattle.mt_kinds.proofs.Greatest.{greatest_more, greatest_done}
use Rattle.mt_kinds.proofs.ports.rewriter_outs.Goals as goal

pub loop-spec-preserved : goal.loop-spec-preserved
loop-spec-preserved c =
    let of = spec_outs c.args.mappers.now in
    record {
      so_far = greatest_more of c.args.specs.now c.loop-spec.spec-index spec.Drop c.loop-spec.count c.spec_outs.result _ c.loop-spec-test.true c.spec_outs.ensures.value c.greater-count.ensures c.loop-spec.invariant.so_far;
      few = grind (arith, c.greater-count.ensures, c.loop-spec.invariant.few, c.spec_outs.ensures.few);
    }

pub returns-clause-value : goal.returns-clause-value
returns-clause-value c = greatest_done (spec_outs c.args.mappers.now) c.args.specs.now c.loop-spec.spec-index c.loop-spec.count (omega arith) c.loop-spec.invariant.so_far
