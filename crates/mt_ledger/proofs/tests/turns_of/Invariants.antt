use Rattle.std.proofs.Common.{◌≡◌, length}
use Rattle.mt_ledger.proofs.tests.turns_of.Given as goal

abbrev pub invariant-loop-step : goal.invariant-loop-step
invariant-loop-step l = length l.ledger.turns ≡ length l.fn.ledger.turns
