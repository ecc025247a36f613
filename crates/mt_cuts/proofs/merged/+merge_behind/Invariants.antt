use Rattle.std.proofs.Common.{◌-◌}
use Rattle.mt_cuts.specs.View.{tree_of}
use Rattle.mt_cuts.proofs.Loops.{Loop, Chosen, Keeps}
use Rattle.mt_cuts.proofs.merged.+merge_behind.Given as goal

abbrev pub decreases-merge_behind : goal.decreases-merge_behind
decreases-merge_behind g l = 24 - l.settled

-- the places of the three trees, and the node made so far; and what was chosen before stays so
abbrev pub invariant-loop-end : goal.invariant-loop-end
invariant-loop-end g l =
    Loop l.devices l.field (Chosen (g.F.Chooser.chooses l.choice) (tree_of l.a) (tree_of l.b) (tree_of l.c)) (tree_of l.a) (tree_of l.b) (tree_of l.c)
    l.x.ends.now l.y.ends.now l.z.ends.now l.x.parts.now l.y.parts.now l.z.parts.now l.parts.ends.items l.parts.next.items l.here l.end
    × Keeps (g.F.Chooser.chooses l.fn.choice) (g.F.Chooser.chooses l.choice)

abbrev pub decreases-loop-end : goal.decreases-loop-end
decreases-loop-end g l = l.last - l.end
