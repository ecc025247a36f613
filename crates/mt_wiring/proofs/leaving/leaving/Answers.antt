use Rattle.mt_wiring.proofs.WiresLeaving.{exits_between, groups_made}
use Rattle.mt_wiring.proofs.leaving.leaving.Goals as goal

pub graph_of-requires : goal.graph_of-requires
graph_of-requires c =
    exits_between c.args.wires.now c.in_ok-exits.exits.items c.deref.result.now c.count_of.result c.deref.ensures.value c.in_ok-exits.ensures.only c.count_of.ensures.wires c.count_of.ensures.elements

pub returns : goal.returns
returns c = groups_made c.args.wires.now c.in_ok-exits.exits.items c.deref.result.now c.graph_of.result (λ v. v.items) c.deref.ensures.value c.in_ok-exits.ensures.only c.in_ok-exits.ensures.all c.graph_of.ensures.links
