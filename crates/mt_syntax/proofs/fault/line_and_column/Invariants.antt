use Rattle.std.proofs.Common.{◌≡◌, ◌≤◌, ◌+◌, count_by, eqb, take, drop}
use Rattle.mt_syntax.specs.Position.{column_behind}
use Rattle.mt_syntax.proofs.fault.line_and_column.Given as goal

abbrev pub invariant-loop-byte : goal.invariant-loop-byte
invariant-loop-byte l = record {
  line : l.line ≡ 1 + count_by (λ b. eqb b 10) (take l.byte-index l.front);
  column : column_behind l.column (drop l.byte-index l.front) ≡ column_behind 1 l.front;
  line_small : l.line ≤ l.byte-index + 1;
  column_small : l.column ≤ l.byte-index + 1;
}
