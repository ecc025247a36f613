use Rattle.std.proofs.Common.{◌≡◌, ◌+◌, reverse, true}
use Rattle.mt_cuts.specs.Canonical.{IsCanonical, finishes}
use Rattle.mt_cuts.specs.View.{tree_of}
use Rattle.mt_pattern.specs.Meaning.{size_of}
use Rattle.mt_trees.specs.Tests.{pattern_tried}
use Rattle.mt_synth.specs.Cuts.{TreeAt, Means, Grows}
use Rattle.mt_synth.specs.Symbols.{symbol_form}
use Rattle.mt_synth.specs.Waiting.{waiting_size, AreWholeBeside, IsUnderWay}
use Rattle.mt_synth.proofs.patterns.tried.Given as goal

abbrev pub decreases-loop-rest : goal.decreases-loop-rest
decreases-loop-rest l = size_of l.rest + waiting_size (reverse l.waiting.items)

-- what is under way comes to the trees that the pattern has with the trees of the beginning
abbrev pub invariant-loop-rest : goal.invariant-loop-rest
invariant-loop-rest l = record {
  grows : Grows l.fn.trees l.trees;
  inside : IsCanonical l.devices (tree_of l.inside);
  outside : IsCanonical l.devices (tree_of l.outside);
  first : finishes l.devices l.inside ≡ true;
  second : finishes l.devices l.outside ≡ true;
  beside : AreWholeBeside l.devices (reverse l.waiting.items);
  under_way : (f g : TreeAt) → Means l.devices l.fn.trees (tree_of l.fn.inside) f → Means l.devices l.fn.trees (tree_of l.fn.outside) g
      → IsUnderWay l.devices l.trees (symbol_form l.symbol) (λ header. pattern_tried header (symbol_form l.symbol) l.fn.pattern (f header) (g header)) l.rest l.inside l.outside (reverse l.waiting.items);
}
