use Rattle.std.proofs.Common.{◌≤◌, ◌+◌, length}
use Rattle.mt_script.proofs.ReadSoFar.{IsReadSoFar}
use Rattle.mt_script.proofs.script.parse.Given as goal

abbrev pub invariant-loop-rest : goal.invariant-loop-rest
invariant-loop-rest l = record {
  read : IsReadSoFar l.fn.text l.commands.items l.line l.rest;
  few : length l.commands.items + length l.rest ≤ length l.fn.text;
  number : l.line + length l.rest ≤ length l.fn.text + 1;
}

abbrev pub decreases-loop-rest : goal.decreases-loop-rest
decreases-loop-rest l = length l.rest
