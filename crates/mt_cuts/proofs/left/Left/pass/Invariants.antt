use Rattle.std.proofs.Common.{◌≡◌, length}
use Rattle.mt_cuts.specs.Walk.{IsPlace}
use Rattle.mt_cuts.specs.Skip.{past}
use Rattle.mt_cuts.proofs.left.Left.pass.Given as goal

abbrev pub invariant-loop-self : goal.invariant-loop-self
invariant-loop-self l = (past l.value l.self.ends.items l.self.parts.items ≡ past l.value l.fn.self.ends.items l.fn.self.parts.items) × IsPlace l.self.ends.items l.self.parts.items

abbrev pub decreases-loop-self : goal.decreases-loop-self
decreases-loop-self l = length l.self.parts.items
