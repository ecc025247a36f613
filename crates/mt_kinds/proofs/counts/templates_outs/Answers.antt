use Rattle.std.proofs.Common.{arith}
use Rattle.std.specs.Prelude.{None}
use Rattle.mt_kinds.specs.declared.rewriter.SourcePort.TheVariants.{Same}
use Rattle.mt_kinds.specs.Outputs.{template_outs}
use Rattle.mt_kinds.proofs.Greatest.{greatest_more, greatest_done}
use Rattle.mt_kinds.proofs.counts.templates_outs.Goals as goal

pub loop-template-preserved : goal.loop-template-preserved
loop-template-preserved c = record {
  so_far = greatest_more template_outs c.args.templates.now c.loop-template.template-index (record { sa = None; sp = Same; da = None; dp = None; fout = 0; rout = 0 }) c.loop-template.count c.template_outs.result _ c.loop-template-test.true c.template_outs.ensures.value c.greater-count.ensures c.loop-template.invariant.so_far;
  few = grind (arith, c.greater-count.ensures, c.loop-template.invariant.few, c.template_outs.ensures.few);
}

pub returns-clause-value : goal.returns-clause-value
returns-clause-value c = greatest_done template_outs c.args.templates.now c.loop-template.template-index c.loop-template.count (omega arith) c.loop-template.invariant.so_far
