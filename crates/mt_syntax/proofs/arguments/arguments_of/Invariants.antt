use Rattle.std.proofs.Common.{◌≡◌, ◌≤◌, ◌-◌, ◌++◌, map, take, drop}
use Rattle.mt_syntax.specs.Arguments.{tidy, between_commas}
use Rattle.mt_syntax.proofs.TidyLoop.{in_front}
use Rattle.mt_syntax.proofs.arguments.arguments_of.Given as goal

abbrev pub invariant-loop-at : goal.invariant-loop-at
invariant-loop-at l = record {
  begun : l.from ≤ l.at;
  depth : l.depth ≤ l.at;
  raws : l.arguments.items ++ map tidy (in_front (take (l.at - l.from) (drop l.from l.text)) (between_commas l.depth (drop l.at l.text))) ≡ map tidy (between_commas 0 l.text);
}
