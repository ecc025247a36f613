use Rattle.std.proofs.Common.{◌↔◌, map, drop}
use Rattle.mt_packet.specs.Header.{greatest_of}
use Rattle.mt_boxes.specs.Boxes.{IsBox}
use Rattle.mt_boxes.proofs.spans.are_formed.Given as goal

-- the fields from here on decide
abbrev pub invariant-loop-at : goal.invariant-loop-at
invariant-loop-at l = IsBox (map greatest_of (drop l.at l.fields)) (drop l.at l.spans) ↔ IsBox (map greatest_of l.fields) l.spans
