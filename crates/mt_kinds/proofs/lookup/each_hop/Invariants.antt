use Rattle.std.proofs.Common.{◌≡◌, All, ◌++◌, drop}
use Rattle.std.specs.Prelude.{option_map}
use Rattle.mt_lists.specs.Options.{each}
use Rattle.mt_kinds.specs.Outputs.{HopInRange}
use Rattle.mt_kinds.specs.Routes.{hop_of}
use Rattle.mt_kinds.proofs.lookup.each_hop.Given as goal

abbrev pub invariant-loop-argument : goal.invariant-loop-argument
invariant-loop-argument l = record {
  so_far : each hop_of l.arguments ≡ option_map (λ more. l.hops.items ++ more) (each hop_of (drop l.argument-index l.arguments));
  range : All HopInRange l.hops.items;
}
