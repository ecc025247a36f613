use Rattle.std.proofs.Common.{All}
use Rattle.mt_elements.specs.Described.{HasFewArguments}
use Rattle.mt_elements.proofs.tests.elements_of.Given as goal

abbrev pub invariant-loop-part : goal.invariant-loop-part
invariant-loop-part l = All HasFewArguments l.elements.items
