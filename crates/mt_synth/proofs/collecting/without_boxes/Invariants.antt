-- The classes of the values that were looked at have no box.
use Rattle.std.proofs.Common.{◌≡◌, ◌++◌, [], ℕ, List, length, map}
use Rattle.mt_synth.specs.Classes.{class_form}
use Rattle.mt_synth.specs.Collecting.{AreCollected}
use Rattle.mt_synth.proofs.collecting.without_boxes.Given as goal

abbrev pub invariant-loop-rest : goal.invariant-loop-rest
invariant-loop-rest l =
    (done : List ℕ) × (done ++ l.rest ≡ l.order) × AreCollected l.trees done [] (map class_form l.classes.items)

abbrev pub decreases-loop-rest : goal.decreases-loop-rest
decreases-loop-rest l = length l.rest
