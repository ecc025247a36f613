use Rattle.mt_cuts.specs.View.{tree_of}
use Rattle.mt_cuts.proofs.Unique.{unique}
use Rattle.mt_cuts.proofs.laws.equal_trees.Goals as goal

pub returns : goal.returns
returns c = unique c.args.devices (tree_of c.args.a.now) (tree_of c.args.b.now) c.requires.some c.requires.left c.requires.right c.requires.function
