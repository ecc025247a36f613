use Rattle.std.proofs.Common.{arith}
use Rattle.mt_wiring.proofs.PortNumbers.{link_step, links_from}
use Rattle.mt_wiring.proofs.WiresLeaving.{place_within}
use Rattle.mt_wiring.proofs.links.push_links.Goals as goal

pub wire_at-wire-requires : goal.wire_at-wire-requires
wire_at-wire-requires g c = place_within c.args.wires.now c.args.port.0 c.args.places.now c.loop-at.at 0 c.requires.places c.loop-at-test.true

pub target_at-target-requires : goal.target_at-target-requires
target_at-target-requires g c =
    let lt = place_within c.args.wires.now c.args.port.0 c.args.places.now c.loop-at.at 0 c.requires.places c.loop-at-test.true in
    omega (arith, lt, c.requires.targets)

pub loop-at-preserved : goal.loop-at-preserved
loop-at-preserved g c =
    link_step (g.E.Elements.behavior c.args.elements.now).leads c.args.wires.now c.args.targets.now c.args.number c.args.port c.args.places.now c.loop-at.at 0 c.wire_at-wire.result c.target_at-target.result
    c.args.links.now.items c.loop-at.links.items c.push_link.new.links.items c.loop-at-test.true c.wire_at-wire.ensures c.target_at-target.ensures c.loop-at.invariant c.in_ok-push_link.ensures

pub returns : goal.returns
returns g c = links_from (g.E.Elements.behavior c.args.elements.now).leads c.args.wires.now c.args.targets.now c.args.number c.args.port c.args.places.now c.loop-at.at _ _ c.loop-at-test.false c.requires.places c.loop-at.invariant
