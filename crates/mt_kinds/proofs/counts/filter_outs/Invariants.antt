use Rattle.std.proofs.Common.{◌≡◌, ◌≤◌, drop}
use Rattle.std.specs.Prelude.{max}
use Rattle.mt_kinds.specs.Outputs.{greatest, action_outs}
use Rattle.mt_kinds.proofs.counts.filter_outs.Given as goal

abbrev pub invariant-loop-rule : goal.invariant-loop-rule
invariant-loop-rule l = record {
  so_far : greatest (λ rule. action_outs rule.action) l.rules ≡ max l.count (greatest (λ rule. action_outs rule.action) (drop l.rule-index l.rules));
  few : l.count ≤ 512;
}
