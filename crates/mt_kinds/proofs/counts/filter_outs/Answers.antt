use Rattle.std.proofs.Common.{◌∙◌, ap, arith}
use Rattle.mt_kinds.specs.declared.rule.Rule.{Rule}
use Rattle.mt_kinds.specs.Outputs.{action_outs}
use Rattle.mt_kinds.proofs.Greatest.{greatest_more, greatest_done}
use Rattle.mt_kinds.proofs.counts.filter_outs.Goals as goal

pub loop-rule-preserved : goal.loop-rule-preserved
loop-rule-preserved c = record {
  so_far = greatest_more (λ (rule : Rule). action_outs rule.action) c.args.rules.now c.loop-rule.rule-index c.rule-item.result c.loop-rule.count c.action_outs.result _ c.loop-rule-test.true (c.action_outs.ensures.value ∙ ap (λ (rule : Rule). action_outs rule.action) c.rule-item.is) c.greater-count.ensures c.loop-rule.invariant.so_far;
  few = grind (arith, c.greater-count.ensures, c.loop-rule.invariant.few, c.action_outs.ensures.few);
}

pub returns-clause-value : goal.returns-clause-value
returns-clause-value c = greatest_done (λ (rule : Rule). action_outs rule.action) c.args.rules.now c.loop-rule.rule-index c.loop-rule.count (omega arith) c.loop-rule.invariant.so_far
