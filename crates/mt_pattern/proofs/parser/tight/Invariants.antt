use Rattle.std.proofs.Common.{◌≡◌, length}
use Rattle.mt_pattern.specs.Parser.{tight}
use Rattle.mt_pattern.proofs.parser.tight.Given as goal

abbrev pub invariant-loop-stack : goal.invariant-loop-stack
invariant-loop-stack l = tight l.stack l.pattern ≡ tight l.fn.stack l.fn.pattern

abbrev pub decreases-loop-stack : goal.decreases-loop-stack
decreases-loop-stack l = length l.stack
