use Rattle.std.proofs.Common.{◌≡◌, length}
use Rattle.mt_reach.specs.Reach.{AreBelow}
use Rattle.mt_reach.proofs.no_marks.Given as goal

abbrev pub invariant-loop-number : goal.invariant-loop-number
invariant-loop-number l = record {
  len : length l.marks.items ≡ l._number;
  fresh : AreBelow 1 l.marks.items;
}
