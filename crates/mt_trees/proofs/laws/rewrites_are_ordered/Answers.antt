use Rattle.mt_trees.proofs.Ordered.{rewrites_ordered}
use Rattle.mt_trees.proofs.laws.rewrites_are_ordered.Goals as goal

pub returns : goal.returns
returns c = rewrites_ordered
