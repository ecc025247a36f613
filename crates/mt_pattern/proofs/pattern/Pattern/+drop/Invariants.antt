use Rattle.std.proofs.Common.{◌≤◌}
use Rattle.mt_pattern.specs.declared.pattern.Pattern.{size-Pattern}
use Rattle.mt_pattern.proofs.pattern.Pattern.+drop.Given as goal

-- what is left of the pattern is no deeper than the pattern
abbrev pub invariant-loop-self : goal.invariant-loop-self
invariant-loop-self l = size-Pattern l.self ≤ size-Pattern l.initial.self
