use Rattle.std.proofs.Common.{◌-◌}
use Rattle.mt_cuts.specs.View.{tree_of}
use Rattle.mt_cuts.proofs.Selecting.{Selecting}
use Rattle.mt_cuts.proofs.selected.+select_behind.Given as goal

abbrev pub decreases-select_behind : goal.decreases-select_behind
decreases-select_behind l = 24 - l.settled

-- the places of the condition and of the first tree, what is left of the second, and the node made so far
abbrev pub invariant-loop-end : goal.invariant-loop-end
invariant-loop-end l =
    Selecting l.devices l.field (tree_of l.condition) (tree_of l.yes) (tree_of l.fn.no)
    l.x.ends.now l.y.ends.now l.z.ends.items l.x.parts.now l.y.parts.now l.z.parts.items l.parts.ends.items l.parts.next.items l.here l.end

abbrev pub decreases-loop-end : goal.decreases-loop-end
decreases-loop-end l = l.last - l.end
