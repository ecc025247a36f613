use Rattle.mt_cuts.specs.View.{tree_of}
use Rattle.mt_cuts.proofs.Boxed.{leaves_are_boxes}
use Rattle.mt_cuts.proofs.laws.leaves_are_canonical.Goals as goal

pub returns : goal.returns
returns c = leaves_are_boxes c.args.devices (tree_of c.args.tree.now) c.requires.some c.requires.canonical
