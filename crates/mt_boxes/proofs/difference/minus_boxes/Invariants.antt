use Rattle.std.proofs.Common.{◌≡◌, map, drop}
use Rattle.mt_boxes.specs.Parts.{minus_boxes}
use Rattle.mt_boxes.proofs.difference.minus_boxes.Given as goal

-- what is left so far, without the boxes from here on
abbrev pub invariant-loop-cut : goal.invariant-loop-cut
invariant-loop-cut g l =
    minus_boxes (map g.B.Sides.sides l.left.items) (map g.B.Sides.sides (drop l.cut-index l.others)) ≡ minus_boxes (map g.B.Sides.sides l.boxes) (map g.B.Sides.sides l.others)
