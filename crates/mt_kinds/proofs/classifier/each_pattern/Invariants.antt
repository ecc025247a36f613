use Rattle.std.proofs.Common.{◌≡◌, ◌++◌, length, map, drop}
use Rattle.std.specs.Prelude.{option_map}
use Rattle.mt_lists.specs.Options.{each}
use Rattle.mt_kinds.specs.Patterns.{pattern_of}
use Rattle.mt_kinds.proofs.classifier.each_pattern.Given as goal

abbrev pub invariant-loop-argument : goal.invariant-loop-argument
invariant-loop-argument l = record {
  so_far : each pattern_of l.arguments ≡ option_map (λ more. map (λ p. p.items) l.patterns.items ++ more) (each pattern_of (drop l.argument-index l.arguments));
  count : length l.patterns.items ≡ l.argument-index;
}
