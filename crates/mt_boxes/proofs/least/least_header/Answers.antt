use Rattle.std.proofs.Common.{arith}
use Rattle.mt_boxes.proofs.Headers.{region_in_ranges}
use Rattle.mt_boxes.proofs.Lowest.{lowest_starts, lowest_kept, lowest_moved}
use Rattle.mt_boxes.proofs.least.least_header.Goals.{then-is_less, else-is_less}
use Rattle.mt_boxes.proofs.least.least_header.Goals as goal

pub loop-of-init : goal.loop-of-init
loop-of-init c =
    lowest_starts c.args.region.now c.boxes-boxes.result.now c.in_ok-first.field-0.now c.corner-least.result c.boxes-boxes.ensures.boxes c.boxes-boxes.ensures.region c.in_ok-first.ensures.value c.corner-least.ensures

pub loop-of-preserved : goal.loop-of-preserved
loop-of-preserved c =
    elim c.if-is_less.branch [
      | then-is_less w ↦ lowest_moved c.args.region.now c.boxes-boxes.result.now c.loop-of.of-index _ c.loop-of.least c.corner-other.result c.boxes-boxes.ensures.boxes c.boxes-boxes.ensures.region
          (omega arith) c.corner-other.ensures c.loop-of.invariant (c.is_less.ensures.less w.if-is_less.true) c.if-is_less.least w.least-is
      | else-is_less w ↦ lowest_kept c.args.region.now c.boxes-boxes.result.now c.loop-of.of-index _ c.loop-of.least c.corner-other.result c.boxes-boxes.ensures.boxes c.boxes-boxes.ensures.region
          (omega arith) c.corner-other.ensures c.loop-of.invariant (c.is_less.ensures.not_less w.if-is_less.false) c.if-is_less.least w.least-is
    ]

pub new-requires : goal.new-requires
new-requires c = region_in_ranges c.args.region.now c.loop-of.least c.boxes-boxes.ensures.region.formed c.loop-of.invariant.found
