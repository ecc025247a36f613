use Rattle.mt_boxes.proofs.Headers.{box_each}
use Rattle.mt_boxes.proofs.laws.formed_by_field.Goals as goal

pub returns : goal.returns
returns c = box_each c.args.of.now.spans c.spans-spans.ensures.count
