use Rattle.std.proofs.Common.{◌≡◌, ◌++◌, List, take, drop}
use Rattle.mt_packet.specs.declared.span.Span.{Span}
use Rattle.mt_boxes.specs.Meets.{AreMeets, with_each, meets_with}
use Rattle.mt_boxes.proofs.refinement.push_meets.Given as goal

-- the meets so far, and those with the regions from here on
abbrev pub invariant-loop-other : goal.invariant-loop-other
invariant-loop-other l = record {
  meets : (done : List (List (List Span) × List (List Span))) → AreMeets done l.fn.made.items → AreMeets (done ++ with_each l.region (take l.other-index l.others)) l.made.items;
  boxes : l.made.items ++ meets_with l.region (drop l.other-index l.others) ≡ l.fn.made.items ++ meets_with l.region l.others;
}
