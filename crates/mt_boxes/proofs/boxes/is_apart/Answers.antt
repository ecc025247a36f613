use Rattle.std.proofs.Common.{◌≡◌, ◌∙◌, sym, ap, List, true, false, arith}
use Rattle.mt_packet.specs.declared.span.Span.{Span}
use Rattle.mt_boxes.specs.Parts.{do_meet}
use Rattle.mt_boxes.proofs.Apart.{not_apart, apart_more}
use Rattle.mt_boxes.proofs.boxes.is_apart.Goals as goal

pub returns-then-do_meet : goal.returns-then-do_meet
returns-then-do_meet g c =
    let same : do_meet (g.B.Sides.sides c.args.of.now) (g.B.Sides.sides c.other-item.result) ≡ true =
    sym (ap (λ (spans : List Span). do_meet spans c.spans-in-loop-other.result.now) c.spans.ensures.sides ∙ ap (do_meet (g.B.Sides.sides c.args.of.now)) c.spans-in-loop-other.ensures.sides) ∙ (sym c.do_meet.ensures ∙ c.if-do_meet.true) in (
      λ e. absurd cc,
      λ none. absurd (not_apart g.B.Sides.sides c.args.boxes.now c.loop-other.other-index c.other-item.result (g.B.Sides.sides c.args.of.now) (omega arith) c.other-item.is
          (c.spans.ensures.count ∙ sym c.spans-in-loop-other.ensures.count) same none),
    )

pub loop-other-preserved : goal.loop-other-preserved
loop-other-preserved g c =
    let same : do_meet (g.B.Sides.sides c.args.of.now) (g.B.Sides.sides c.other-item.result) ≡ false =
    sym (ap (λ (spans : List Span). do_meet spans c.spans-in-loop-other.result.now) c.spans.ensures.sides ∙ ap (do_meet (g.B.Sides.sides c.args.of.now)) c.spans-in-loop-other.ensures.sides) ∙ (sym c.do_meet.ensures ∙ c.if-do_meet.false) in
    apart_more g.B.Sides.sides c.args.boxes.now c.loop-other.other-index c.other-item.result (g.B.Sides.sides c.args.of.now) (omega arith) c.other-item.is same c.loop-other.invariant
