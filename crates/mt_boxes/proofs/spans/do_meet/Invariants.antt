use Rattle.std.proofs.Common.{◌≡◌, drop}
use Rattle.mt_boxes.specs.Parts.{do_meet}
use Rattle.mt_boxes.proofs.spans.do_meet.Given as goal

-- the fields from here on decide
abbrev pub invariant-loop-at : goal.invariant-loop-at
invariant-loop-at l = do_meet (drop l.at l.a) (drop l.at l.b) ≡ do_meet l.a l.b
