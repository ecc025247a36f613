-- The leaves' boxes are canonical.
use Rattle.std.proofs.Common.{sym, subst}
use Rattle.mt_cuts.specs.Tree.{value_of}
use Rattle.mt_cuts.specs.View.{tree_of}
use Rattle.mt_cuts.specs.Boxes.{AreCanonicalBoxes}
use Rattle.mt_cuts.proofs.Boxed.{leaves_are_boxes}
use Rattle.mt_cuts.proofs.cut.Cut.leaves.Goals as goal

pub returns-clause-boxes : goal.returns-clause-boxes
returns-clause-boxes c =
    let made = rw (c.new-leaves.ensures.items, c.all_spans.ensures) at c.in_ok-push_leaves.ensures in
    subst (AreCanonicalBoxes c.args.devices (value_of (tree_of c.args.self.now))) (sym made) (leaves_are_boxes c.args.devices (tree_of c.args.self.now) c.requires.some c.requires.canonical)
