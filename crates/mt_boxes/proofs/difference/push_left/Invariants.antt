use Rattle.std.proofs.Common.{◌++◌, map}
use Rattle.mt_boxes.specs.Parts.{outside}
use Rattle.mt_boxes.proofs.Cutting.{Cutting}
use Rattle.mt_boxes.proofs.difference.push_left.Given as goal

abbrev pub invariant-loop-at : goal.invariant-loop-at
invariant-loop-at g l =
    Cutting (map g.B.Sides.sides l.left.items) (map g.B.Sides.sides l.fn.left.items ++ outside (g.B.Sides.sides l.of) (g.B.Sides.sides l.cut))
    (g.B.Sides.sides l.rest) (g.B.Sides.sides l.of) (g.B.Sides.sides l.cut) l.at
