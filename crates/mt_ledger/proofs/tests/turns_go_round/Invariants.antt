use Rattle.std.proofs.Common.{◌≡◌, length}
use Rattle.mt_ledger.proofs.tests.turns_go_round.Given as goal

abbrev pub invariant-loop-mapper : goal.invariant-loop-mapper
invariant-loop-mapper g l = length l.ledger.turns ≡ 2
