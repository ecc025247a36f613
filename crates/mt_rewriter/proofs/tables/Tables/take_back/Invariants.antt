use Rattle.std.proofs.Common.{◌≡◌}
use Rattle.mt_rewriter.specs.Mappings.{taken_back}
use Rattle.mt_rewriter.proofs.tables.Tables.take_back.Given as goal

-- what is left to be taken back gives what all gives
abbrev pub invariant-loop-change : goal.invariant-loop-change
invariant-loop-change l = taken_back l.changes.items l.self ≡ taken_back l.fn.log l.fn.self

abbrev pub decreases-loop-change : goal.decreases-loop-change
decreases-loop-change l = goal.left-loop-change l
