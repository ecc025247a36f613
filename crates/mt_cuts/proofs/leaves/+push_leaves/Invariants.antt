use Rattle.std.proofs.Common.{◌-◌, ◌++◌}
use Rattle.mt_cuts.specs.View.{tree_of}
use Rattle.mt_cuts.specs.Leaves.{leaves_of}
use Rattle.mt_cuts.proofs.Pushing.{Pushing}
use Rattle.mt_cuts.proofs.leaves.+push_leaves.Given as goal

abbrev pub decreases-push_leaves : goal.decreases-push_leaves
decreases-push_leaves l = 24 - l.settled

abbrev pub invariant-loop-end : goal.invariant-loop-end
invariant-loop-end l =
    Pushing l.devices l.field l.rest l.place.ends.now l.place.parts.now l.leaves.items (l.fn.leaves.items ++ leaves_of l.spans (tree_of l.tree)) l.end l.last

abbrev pub decreases-loop-end : goal.decreases-loop-end
decreases-loop-end l = l.last - l.end
