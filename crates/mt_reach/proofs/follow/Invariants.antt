use Rattle.mt_reach.proofs.Searches.{IsFollowing}
use Rattle.mt_reach.proofs.follow.Given as goal

abbrev pub invariant-loop-target : goal.invariant-loop-target
invariant-loop-target l = IsFollowing l.graph l.mark l.at l.node l.target-index l.seen.items l.order.items l.initial.seen.items l.initial.order.items
