use Rattle.std.proofs.Common.{◌∙◌, ap, ◌++◌, [], ◌∷◌, List, map, arith}
use Rattle.mt_packet.specs.declared.span.Span.{Span}
use Rattle.mt_boxes.specs.Parts.{minus_boxes}
use Rattle.mt_boxes.specs.Visible.{visible_spans}
use Rattle.mt_boxes.proofs.Unseen.{seen_behind, behind_more, behind_ends, projection_region, projection_is}
use Rattle.mt_boxes.proofs.projection.project.Goals as goal

pub loop-of-preserved : goal.loop-of-preserved
loop-of-preserved c =
    behind_more c.boxes-of-items.result.now c.loop-of.of-index _ (map (λ of. of.spans) c.loop-of.seen.items) (map (λ of. of.spans) c.push_unseen.new.seen.items) (seen_behind (map visible_spans c.args.region.now) [])
    (omega arith) (c.in_ok-push_unseen.ensures ∙ ap (λ (box : List Span). map (λ of. of.spans) c.loop-of.seen.items ++ minus_boxes (box ∷ []) (map (λ of. of.spans) c.loop-of.seen.items)) c.visible_part.ensures) c.loop-of.invariant

pub of-requires : goal.of-requires
of-requires c =
    projection_region c.args.region.now (map (λ of. of.spans) c.loop-of.seen.items) c.boxes-of-items.ensures.region
    (behind_ends c.boxes-of-items.result.now c.loop-of.of-index (map (λ of. of.spans) c.loop-of.seen.items) (seen_behind (map visible_spans c.args.region.now) []) (omega arith) c.loop-of.invariant)

pub returns : goal.returns
returns c =
    projection_is c.args.region.now c.of.result c.boxes-of-items.ensures.region
    (c.of.ensures ∙ behind_ends c.boxes-of-items.result.now c.loop-of.of-index (map (λ of. of.spans) c.loop-of.seen.items) (seen_behind (map visible_spans c.args.region.now) []) (omega arith) c.loop-of.invariant)
