use Rattle.std.proofs.Common.{◌≡◌, ◌++◌, map, drop}
use Rattle.mt_boxes.specs.Meets.{meet_of}
use Rattle.mt_boxes.proofs.refinement.meet_of.Given as goal

-- the boxes so far, and those of the boxes from here on
abbrev pub invariant-loop-of : goal.invariant-loop-of
invariant-loop-of l = map (λ of. of.spans) l.boxes.items ++ meet_of (map (λ of. of.spans) (drop l.of-index l.of-items)) l.b ≡ meet_of l.a l.b
