use Rattle.std.proofs.Common.{ℕ, List, map, take}
use Rattle.mt_boxes.specs.Boxes.{InBox, IsIn}
use Rattle.mt_boxes.proofs.boxes.is_apart.Given as goal

-- no header of the box is in those so far
abbrev pub invariant-loop-other : goal.invariant-loop-other
invariant-loop-other g l = (header : List ℕ) → InBox (g.B.Sides.sides l.of) header → IsIn (map g.B.Sides.sides (take l.other-index l.boxes)) header → ⊥
