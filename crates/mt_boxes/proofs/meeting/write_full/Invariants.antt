use Rattle.std.proofs.Common.{◌≡◌, map, take}
use Rattle.mt_boxes.specs.Boxes.{full}
use Rattle.mt_boxes.proofs.meeting.write_full.Given as goal

-- the spans so far are those of the fields so far
abbrev pub invariant-loop-at : goal.invariant-loop-at
invariant-loop-at l = take l.at l.spans ≡ map full (take l.at l.fields)
