use Rattle.std.proofs.Common.{arith}
use Rattle.mt_reach.proofs.Graphs.{has_links, within}
use Rattle.mt_reach.proofs.graph_of.Goals as goal

pub returns-clause-links : goal.returns-clause-links
returns-clause-links c = has_links c.loop-rest.graph.items c.in_ok-graph.graph.items c.loop-rest.rest.now c.args.links.now c.args.count (omega arith) c.loop-rest.invariant c.in_ok-graph.ensures.len c.in_ok-graph.ensures.none c.requires

pub returns-clause-within : goal.returns-clause-within
returns-clause-within c =
    within c.args.links.now c.loop-rest.graph.items c.args.count (has_links c.loop-rest.graph.items c.in_ok-graph.graph.items c.loop-rest.rest.now c.args.links.now c.args.count (omega arith) c.loop-rest.invariant c.in_ok-graph.ensures.len c.in_ok-graph.ensures.none c.requires) c.requires
