use Rattle.std.proofs.Common.{◌≡◌, ◌+◌, drop}
use Rattle.mt_syntax.specs.Comment.{hidden}
use Rattle.mt_syntax.specs.Closing.{plain_len}
use Rattle.mt_syntax.proofs.arguments.plain_length.Given as goal

abbrev pub invariant-loop-at : goal.invariant-loop-at
invariant-loop-at l = plain_len (hidden 0 l.body) ≡ plain_len (hidden l.skip (drop l.at l.body)) + l.at
