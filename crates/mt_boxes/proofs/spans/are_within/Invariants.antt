use Rattle.std.proofs.Common.{◌↔◌, drop}
use Rattle.mt_boxes.specs.Boxes.{InBox}
use Rattle.mt_boxes.proofs.spans.are_within.Given as goal

-- the fields from here on decide
abbrev pub invariant-loop-at : goal.invariant-loop-at
invariant-loop-at l = InBox (drop l.at l.spans) (drop l.at l.values) ↔ InBox l.spans l.values
