use Rattle.std.proofs.Common.{◌≡◌, ◌≤◌, ◌+◌, drop}
use Rattle.std.specs.Option.{option_map}
use Rattle.mt_syntax.specs.Comment.{hidden}
use Rattle.mt_syntax.specs.Closing.{closing}
use Rattle.mt_syntax.proofs.arguments.closing_length.Given as goal

abbrev pub invariant-loop-at : goal.invariant-loop-at
invariant-loop-at l = record {
  depth : l.depth ≤ l.at;
  rest : closing 0 (hidden 0 l.body) ≡ option_map (λ n. n + l.at) (closing l.depth (hidden l.skip (drop l.at l.body)));
}
