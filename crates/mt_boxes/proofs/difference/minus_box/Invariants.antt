use Rattle.std.proofs.Common.{◌≡◌, ◌++◌, map, drop}
use Rattle.mt_boxes.specs.Parts.{minus_box}
use Rattle.mt_boxes.proofs.difference.minus_box.Given as goal

-- the parts so far, and those of the boxes from here on
abbrev pub invariant-loop-of : goal.invariant-loop-of
invariant-loop-of g l =
    map g.B.Sides.sides l.left.items ++ minus_box (g.B.Sides.sides l.cut) (map g.B.Sides.sides (drop l.of-index l.boxes))
    ≡ minus_box (g.B.Sides.sides l.cut) (map g.B.Sides.sides l.boxes)
