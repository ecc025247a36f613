use Rattle.std.proofs.Common.{◌≡◌, take}
use Rattle.mt_boxes.specs.Boxes.{corner}
use Rattle.mt_boxes.proofs.least.write_lows.Given as goal

-- the values so far are those of the spans so far
abbrev pub invariant-loop-at : goal.invariant-loop-at
invariant-loop-at l = take l.at l.values ≡ corner (take l.at l.spans)
