use Rattle.std.proofs.Common.{map, take}
use Rattle.mt_boxes.proofs.Lowest.{IsLowest}
use Rattle.mt_boxes.proofs.least.least_header.Given as goal

-- the least header of the boxes so far
abbrev pub invariant-loop-of : goal.invariant-loop-of
invariant-loop-of l = IsLowest l.region (map (λ of. of.spans) (take l.of-index l.boxes)) l.least
