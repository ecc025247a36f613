use Rattle.std.proofs.Common.{length}
use Rattle.mt_syntax.specs.Reading.{phrases_of_tokens}
use Rattle.mt_syntax.proofs.ReadLoop.{IsSoFar}
use Rattle.mt_syntax.proofs.syntax.collect.Given as goal

abbrev pub invariant-loop-advance : goal.invariant-loop-advance
invariant-loop-advance l = IsSoFar l.phrases.items l.stage l.inside l.rest (phrases_of_tokens l.tokens)

abbrev pub decreases-loop-advance : goal.decreases-loop-advance
decreases-loop-advance l = length l.rest
