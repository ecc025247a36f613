use Rattle.mt_wiring.proofs.RingsCleared.{not_level}
use Rattle.mt_wiring.proofs.clearing.rises.Goals as goal

pub returns : goal.returns
returns c = not_level c.args.graph.now c.args.ranks.now c.args.node c.rank_of.result c.least_rank.result c.targets_at.result.now c.requires c.rank_of.ensures c.targets_at.ensures c.least_rank.ensures
