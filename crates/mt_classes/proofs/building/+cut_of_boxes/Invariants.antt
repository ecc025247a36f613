use Rattle.std.proofs.Common.{length}
use Rattle.mt_classes.proofs.building.+cut_of_boxes.Given as goal

abbrev pub decreases-cut_of_boxes : goal.decreases-cut_of_boxes
decreases-cut_of_boxes l = length l.boxes.now
