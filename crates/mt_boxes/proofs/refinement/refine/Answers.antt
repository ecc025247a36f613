use Rattle.std.proofs.Common.{◌++◌, List, ap}
use Rattle.mt_packet.specs.declared.span.Span.{Span}
use Rattle.mt_boxes.specs.Meets.{refined}
use Rattle.mt_boxes.proofs.Refined.{no_meets}
use Rattle.mt_boxes.proofs.refinement.refine.Goals as goal

pub loop-region-init : goal.loop-region-init
loop-region-init c = record {
  meets = no_meets c.new-made.result.items c.new-made.ensures.items;
  boxes = ap (λ (l : List (List (List Span))). l ++ refined c.args.a.now c.args.b.now) c.new-made.ensures.items;
}
