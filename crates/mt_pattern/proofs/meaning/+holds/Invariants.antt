use Rattle.std.proofs.Common.{◌≡◌, ◌≤◌, not, if◌then◌else◌}
use Rattle.mt_packet.specs.Header.{field_of}
use Rattle.mt_pattern.specs.declared.pattern.Pattern.{size-Pattern}
use Rattle.mt_pattern.specs.Meaning.{meaning_of}
use Rattle.mt_pattern.proofs.meaning.+holds.Given as goal

abbrev pub decreases-holds : goal.decreases-holds
decreases-holds l = goal.size-holds l

-- what is left of the pattern, turned round where an odd number of `Not` was passed, means what the pattern means
abbrev pub invariant-loop-rest : goal.invariant-loop-rest
invariant-loop-rest l =
    ((if l.negated then not (meaning_of l.rest (λ field. field_of l.values field)) else meaning_of l.rest (λ field. field_of l.values field)) ≡ meaning_of l.fn.pattern (λ field. field_of l.values field))
    × (size-Pattern l.rest ≤ size-Pattern l.initial.rest)
