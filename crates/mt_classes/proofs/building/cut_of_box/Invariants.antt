use Rattle.std.proofs.Common.{◌≤◌}
use Rattle.mt_cuts.specs.View.{tree_of}
use Rattle.mt_cuts.specs.Canonical.{IsCanonical}
use Rattle.mt_classes.proofs.Fields.{TellsFrom}
use Rattle.mt_classes.proofs.building.cut_of_box.Given as goal

-- the fields from here on decide
abbrev pub invariant-loop-at : goal.invariant-loop-at
invariant-loop-at l = record {
  below : l.at ≤ 24;
  canonical : IsCanonical l.devices (tree_of l.cut);
  tells : TellsFrom l.devices l.number l.none l.at l.spans (tree_of l.cut);
}

abbrev pub decreases-loop-at : goal.decreases-loop-at
decreases-loop-at l = l.at
