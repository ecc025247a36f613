-- The boxes of the leaves that were looked at are in the regions of their classes.
use Rattle.std.proofs.Common.{◌≡◌, ◌++◌, List, length, map}
use Rattle.mt_cuts.specs.declared.leaves.Leaf.{Leaf}
use Rattle.mt_synth.specs.Classes.{class_form}
use Rattle.mt_synth.specs.Collecting.{AreCollected}
use Rattle.mt_synth.proofs.collecting.collected.Given as goal

abbrev pub invariant-loop-rest : goal.invariant-loop-rest
invariant-loop-rest l =
    (done : List Leaf) × (done ++ l.rest ≡ l.leaves) × AreCollected l.trees l.made.order.items done (map class_form l.classes.items)

abbrev pub decreases-loop-rest : goal.decreases-loop-rest
decreases-loop-rest l = length l.rest
