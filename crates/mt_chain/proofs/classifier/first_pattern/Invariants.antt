use Rattle.mt_chain.specs.Classifier.{pattern_holds}
use Rattle.mt_lists.proofs.Positions.{NoneBefore}
use Rattle.mt_chain.proofs.classifier.first_pattern.Given as goal

-- no pattern holds so far
abbrev pub invariant-loop-number : goal.invariant-loop-number
invariant-loop-number l = NoneBefore (pattern_holds l.packet) l.patterns l.number
