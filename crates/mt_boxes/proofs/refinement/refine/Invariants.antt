use Rattle.std.proofs.Common.{◌≡◌, ◌++◌, take, drop}
use Rattle.mt_boxes.specs.Meets.{AreMeets, pairs, refined}
use Rattle.mt_boxes.proofs.refinement.refine.Given as goal

-- the meets so far, and those of the regions from here on
abbrev pub invariant-loop-region : goal.invariant-loop-region
invariant-loop-region l = record {
  meets : AreMeets (pairs (take l.region-index l.a) l.b) l.made.items;
  boxes : l.made.items ++ refined (drop l.region-index l.a) l.b ≡ refined l.a l.b;
}
