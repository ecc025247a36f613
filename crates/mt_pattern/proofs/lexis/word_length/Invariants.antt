use Rattle.std.proofs.Common.{◌≡◌, ◌+◌, ◌-◌, ◌≤◌, length, drop}
use Rattle.mt_pattern.specs.Lexis.{word_len}
use Rattle.mt_pattern.proofs.lexis.word_length.Given as goal

abbrev pub invariant-loop-offset : goal.invariant-loop-offset
invariant-loop-offset l = (l.offset ≤ length l.text) × (l.offset + word_len (drop l.offset l.text) ≡ word_len l.text)

abbrev pub decreases-loop-offset : goal.decreases-loop-offset
decreases-loop-offset l = length l.text - l.offset
