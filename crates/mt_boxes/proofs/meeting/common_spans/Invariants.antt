use Rattle.std.proofs.Common.{◌≡◌, ◌++◌, length, take, drop}
use Rattle.mt_boxes.specs.Parts.{commons}
use Rattle.mt_boxes.proofs.meeting.common_spans.Given as goal

-- the common spans so far, and those of the fields from here on
abbrev pub invariant-loop-at : goal.invariant-loop-at
invariant-loop-at l = record {
  whole : length l.spans ≡ 24;
  spans : take l.at l.spans ++ commons (drop l.at l.spans) (drop l.at l.b.spans) ≡ commons l.a.spans l.b.spans;
}
