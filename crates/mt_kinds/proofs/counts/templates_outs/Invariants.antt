use Rattle.std.proofs.Common.{◌≡◌, ◌≤◌, drop}
use Rattle.std.specs.Prelude.{max}
use Rattle.mt_kinds.specs.Outputs.{greatest, template_outs}
use Rattle.mt_kinds.proofs.counts.templates_outs.Given as goal

abbrev pub invariant-loop-template : goal.invariant-loop-template
invariant-loop-template l = record {
  so_far : greatest template_outs l.templates ≡ max l.count (greatest template_outs (drop l.template-index l.templates));
  few : l.count ≤ 512;
}
