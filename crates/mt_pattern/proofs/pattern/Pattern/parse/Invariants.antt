use Rattle.std.proofs.Common.{◌≡◌, ℕ, ◌+◌, ◌-◌, ◌≤◌, length}
use Rattle.mt_pattern.specs.Lexis.{tokens_from}
use Rattle.mt_pattern.specs.Parser.{run, parse_of}
use Rattle.mt_pattern.proofs.pattern.Pattern.parse.Given as goal

-- what is read, run over the tokens that are left, is what the text is
abbrev pub invariant-loop-offset : goal.invariant-loop-offset
invariant-loop-offset l =
    (l.offset ≤ length l.text) × ((most : ℕ) × (length l.text ≤ l.offset + most) × (run l.parser (tokens_from most l.text l.offset) (length l.text) ≡ parse_of l.text))

abbrev pub decreases-loop-offset : goal.decreases-loop-offset
decreases-loop-offset l = length l.text - l.offset
