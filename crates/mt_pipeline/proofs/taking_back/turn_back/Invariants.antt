use Rattle.std.proofs.Common.{length}
use Rattle.mt_pipeline.proofs.Undone.{IsTurning}
use Rattle.mt_pipeline.proofs.taking_back.turn_back.Given as goal

-- what is left to be taken back gives what all gives
abbrev pub invariant-loop-mapper : goal.invariant-loop-mapper
invariant-loop-mapper g l = IsTurning l.fn.ledger l.ledger l.fn.moved.items l.moved.items

abbrev pub decreases-loop-mapper : goal.decreases-loop-mapper
decreases-loop-mapper g l = length l.moved.items
