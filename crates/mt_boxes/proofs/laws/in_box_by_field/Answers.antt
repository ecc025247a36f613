use Rattle.mt_boxes.proofs.Headers.{in_box_each}
use Rattle.mt_boxes.proofs.laws.in_box_by_field.Goals as goal

pub returns : goal.returns
returns c = in_box_each c.args.of.now.spans c.args.header.now c.spans-spans.ensures.count c.values-values.ensures.whole
