use Rattle.std.proofs.Common.{◌≡◌, ◌+◌, drop}
use Rattle.mt_syntax.specs.Comment.{hidden}
use Rattle.mt_syntax.specs.Arguments.{shown_index}
use Rattle.mt_syntax.proofs.arguments.index_shown.Given as goal

abbrev pub invariant-loop-at : goal.invariant-loop-at
invariant-loop-at l = shown_index (hidden 0 l.body) l.number ≡ shown_index (hidden l.skip (drop l.at l.body)) l.left + l.at
