use Rattle.std.proofs.Common.{◌≡◌, ◌++◌, drop}
use Rattle.std.specs.List.{flat_map}
use Rattle.std.specs.Option.{option_to_list}
use Rattle.mt_syntax.specs.Comment.{hidden}
use Rattle.mt_syntax.specs.Arguments.{shown}
use Rattle.mt_syntax.proofs.arguments.shown_of.Given as goal

abbrev pub invariant-loop-at : goal.invariant-loop-at
invariant-loop-at l = l.bytes.items ++ flat_map option_to_list (hidden l.skip (drop l.at l.body)) ≡ shown l.body
