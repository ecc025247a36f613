use Rattle.std.proofs.Common.{◌↔◌, map, drop}
use Rattle.mt_boxes.specs.Boxes.{IsIn}
use Rattle.mt_boxes.proofs.region.holds.Given as goal

-- the boxes from here on decide
abbrev pub invariant-loop-of : goal.invariant-loop-of
invariant-loop-of l = IsIn (map (λ of. of.spans) (drop l.of-index l.of-items)) l.header ↔ IsIn l.region l.header
