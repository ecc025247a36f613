use Rattle.std.proofs.Common.{◌≡◌, length}
use Rattle.mt_cuts.specs.Walk.{IsPlace}
use Rattle.mt_cuts.specs.Skip.{past}
use Rattle.mt_cuts.proofs.cursor.Cursor.past.Given as goal

abbrev pub invariant-loop-here : goal.invariant-loop-here
invariant-loop-here l = (past l.value l.here.ends.now l.here.parts.now ≡ past l.value l.self.ends.now l.self.parts.now) × IsPlace l.here.ends.now l.here.parts.now

abbrev pub decreases-loop-here : goal.decreases-loop-here
decreases-loop-here l = length l.here.parts.now
