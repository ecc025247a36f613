use Rattle.std.proofs.Common.{◌≡◌, All, ◌++◌, length, drop}
use Rattle.std.specs.Prelude.{option_map}
use Rattle.mt_lists.specs.Options.{each}
use Rattle.mt_kinds.specs.Written.{SpecStands}
use Rattle.mt_kinds.specs.Rewriters.{spec_of}
use Rattle.mt_kinds.proofs.rewriting.each_spec.Given as goal

abbrev pub invariant-loop-argument : goal.invariant-loop-argument
invariant-loop-argument l = record {
  so_far : each spec_of l.arguments ≡ option_map (λ more. l.specs.items ++ more) (each spec_of (drop l.argument-index l.arguments));
  count : length l.specs.items ≡ l.argument-index;
  stand : All SpecStands l.specs.items;
}
