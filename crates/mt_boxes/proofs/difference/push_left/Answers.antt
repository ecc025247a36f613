use Rattle.std.proofs.Common.{◌∙◌, sym, ap, ◌++◌, List, length, map, arith}
use Rattle.mt_packet.specs.declared.span.Span.{Span}
use Rattle.mt_boxes.specs.Boxes.{span_at}
use Rattle.mt_boxes.specs.Parts.{outside}
use Rattle.mt_boxes.proofs.Cutting.{cutting_starts, cutting_more}
use Rattle.mt_boxes.proofs.difference.push_left.Goals as goal

pub loop-at-init : goal.loop-at-init
loop-at-init g c =
    cutting_starts (map g.B.Sides.sides c.args.left.now.items) (g.B.Sides.sides c.args.of.now) (g.B.Sides.sides c.args.cut.now) (c.spans.ensures.count ∙ sym c.spans-2.ensures.count)

pub loop-at-preserved : goal.loop-at-preserved
loop-at-preserved g c =
    let whole = ap length c.spans-at-end.ensures.sides in
    cutting_more (map g.B.Sides.sides c.loop-at.left.items) (map g.B.Sides.sides c.push_outside.new.left.items)
    (map g.B.Sides.sides c.args.left.now.items ++ outside (g.B.Sides.sides c.args.of.now) (g.B.Sides.sides c.args.cut.now))
    (g.B.Sides.sides c.loop-at.rest) (g.B.Sides.sides c.in_ok-rest.rest) (g.B.Sides.sides c.args.of.now) (g.B.Sides.sides c.args.cut.now) c.loop-at.at
    (span_at c.spans-in-loop-at.result.now c.loop-at.at) c.loop-at.invariant (omega (arith, whole))
    (ap (λ (spans : List Span). span_at spans c.loop-at.at) c.spans-in-loop-at.ensures.sides) c.in_ok-rest.ensures.within c.in_ok-rest.ensures.outside
