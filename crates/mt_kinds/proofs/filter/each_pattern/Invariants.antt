use Rattle.std.proofs.Common.{◌≡◌, ◌++◌, length, drop}
use Rattle.std.specs.Prelude.{option_map}
use Rattle.mt_lists.specs.Options.{each}
use Rattle.mt_kinds.specs.Filters.{ip_pattern_of}
use Rattle.mt_kinds.proofs.filter.each_pattern.Given as goal

abbrev pub invariant-loop-argument : goal.invariant-loop-argument
invariant-loop-argument l = record {
  so_far : each ip_pattern_of l.arguments ≡ option_map (λ more. l.patterns.items ++ more) (each ip_pattern_of (drop l.argument-index l.arguments));
  count : length l.patterns.items ≡ l.argument-index;
}
