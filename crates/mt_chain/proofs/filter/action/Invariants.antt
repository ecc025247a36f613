use Rattle.std.proofs.Common.{◌≡◌, length}
use Rattle.mt_chain.specs.Filter.{action_on}
use Rattle.mt_chain.proofs.filter.action.Given as goal

abbrev pub invariant-loop-rest : goal.invariant-loop-rest
invariant-loop-rest l = action_on l.header l.rest ≡ action_on l.header l.rules

abbrev pub decreases-loop-rest : goal.decreases-loop-rest
decreases-loop-rest l = length l.rest
