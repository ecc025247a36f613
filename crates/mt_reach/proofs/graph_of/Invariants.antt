use Rattle.std.proofs.Common.{◌≡◌, length}
use Rattle.mt_reach.specs.Reach.{linked}
use Rattle.mt_reach.proofs.graph_of.Given as goal

abbrev pub invariant-loop-rest : goal.invariant-loop-rest
invariant-loop-rest l = linked l.graph.items l.rest ≡ linked l.initial.graph.items l.links

abbrev pub decreases-loop-rest : goal.decreases-loop-rest
decreases-loop-rest l = length l.rest
