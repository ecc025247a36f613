use Rattle.std.proofs.Common.{◌≡◌, map, take}
use Rattle.mt_boxes.specs.Visible.{span_of}
use Rattle.mt_boxes.proofs.projection.copy_spans.Given as goal

-- the spans so far are those of the fields so far
abbrev pub invariant-loop-at : goal.invariant-loop-at
invariant-loop-at l = take l.at l.spans ≡ map (span_of l.of.spans) (take l.at l.fields)
