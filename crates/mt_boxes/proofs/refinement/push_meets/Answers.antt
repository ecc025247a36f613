use Rattle.std.proofs.Common.{◌++◌, arith}
use Rattle.mt_boxes.specs.Boxes.{header_ranges}
use Rattle.mt_boxes.specs.Meets.{meets_with}
use Rattle.mt_boxes.proofs.Refined.{meets_more, with_more}
use Rattle.mt_boxes.proofs.refinement.push_meets.Goals as goal

pub loop-other-preserved : goal.loop-other-preserved
loop-other-preserved c = record {
  meets = meets_more header_ranges c.args.region.now c.other-item.result c.in_ok-both.both c.args.others.now c.args.made.now.items c.loop-other.made.items c.push_some.new.made.items c.loop-other.other-index (omega arith) c.other-item.is
      c.push_some.ensures.region c.in_ok-both.ensures.headers c.in_ok-push_some.ensures.boxes c.loop-other.invariant.meets;
  boxes = with_more c.args.region.now c.other-item.result c.in_ok-both.both c.args.others.now c.loop-other.made.items c.push_some.new.made.items (c.args.made.now.items ++ meets_with c.args.region.now c.args.others.now)
      c.loop-other.other-index (omega arith) c.other-item.is c.in_ok-both.ensures.boxes c.in_ok-push_some.ensures.boxes c.loop-other.invariant.boxes;
}
