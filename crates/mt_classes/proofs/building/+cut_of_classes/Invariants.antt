use Rattle.std.proofs.Common.{length}
use Rattle.mt_classes.proofs.building.+cut_of_classes.Given as goal

abbrev pub decreases-cut_of_classes : goal.decreases-cut_of_classes
decreases-cut_of_classes l = length l.part.now.classes.now
