use Rattle.std.proofs.Common.{◌≡◌, All, ◌++◌, drop}
use Rattle.std.specs.Prelude.{option_map}
use Rattle.mt_lists.specs.Options.{each}
use Rattle.mt_kinds.specs.Outputs.{RuleInRange}
use Rattle.mt_kinds.specs.Filters.{rule_of}
use Rattle.mt_kinds.proofs.filter.each_rule.Given as goal

abbrev pub invariant-loop-argument : goal.invariant-loop-argument
invariant-loop-argument l = record {
  so_far : each rule_of l.arguments ≡ option_map (λ more. l.rules.items ++ more) (each rule_of (drop l.argument-index l.arguments));
  range : All RuleInRange l.rules.items;
}
