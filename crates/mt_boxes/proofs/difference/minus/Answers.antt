use Rattle.std.proofs.Common.{◌∙◌}
use Rattle.mt_boxes.specs.Boxes.{header_ranges}
use Rattle.mt_boxes.proofs.Left.{region_difference, difference_is}
use Rattle.mt_boxes.proofs.difference.minus.Goals as goal

pub of-requires : goal.of-requires
of-requires c = region_difference header_ranges _ _ _ _ _ c.boxes.ensures.boxes c.boxes-2.ensures.boxes c.in_ok-boxes.ensures c.boxes.ensures.region c.boxes-2.ensures.region

pub returns : goal.returns
returns c = difference_is header_ranges _ _ _ _ _ c.boxes.ensures.boxes c.boxes-2.ensures.boxes (c.of.ensures ∙ c.in_ok-boxes.ensures) c.boxes.ensures.region c.boxes-2.ensures.region
