use Rattle.mt_boxes.proofs.Lowest.{less_at_most, not_less_at_most}
use Rattle.mt_boxes.proofs.least.is_less.Goals as goal

pub returns-clause-less : goal.returns-clause-less
returns-clause-less c = less_at_most c.args.values.now c.args.others.now c.lt.result c.requires c.lt.ensures

pub returns-clause-not_less : goal.returns-clause-not_less
returns-clause-not_less c = not_less_at_most c.args.values.now c.args.others.now c.lt.result c.requires c.lt.ensures
