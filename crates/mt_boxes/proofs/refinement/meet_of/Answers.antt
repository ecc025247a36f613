use Rattle.std.proofs.Common.{◌∙◌, map, arith}
use Rattle.mt_boxes.specs.Boxes.{header_ranges}
use Rattle.mt_boxes.specs.Meets.{meet_of}
use Rattle.mt_boxes.proofs.Refined.{meet_ends, meet_region, meet_is}
use Rattle.mt_boxes.proofs.refinement.meet_of.Goals as goal

pub of-requires : goal.of-requires
of-requires c =
    meet_region header_ranges c.args.a.now c.args.b.now (map (λ of. of.spans) c.loop-of.boxes.items) c.boxes-of-items.ensures.region c.boxes-others.ensures.region
    (meet_ends c.boxes-of-items.result.now c.loop-of.of-index (map (λ of. of.spans) c.loop-of.boxes.items) (meet_of c.args.a.now c.args.b.now) c.args.b.now (omega arith) c.loop-of.invariant)

pub returns-clause-headers : goal.returns-clause-headers
returns-clause-headers c =
    meet_is header_ranges c.args.a.now c.args.b.now c.of.result c.boxes-of-items.ensures.region c.boxes-others.ensures.region
    (c.of.ensures ∙ meet_ends c.boxes-of-items.result.now c.loop-of.of-index (map (λ of. of.spans) c.loop-of.boxes.items) (meet_of c.args.a.now c.args.b.now) c.args.b.now (omega arith) c.loop-of.invariant)
