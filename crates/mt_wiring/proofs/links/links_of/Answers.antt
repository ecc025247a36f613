use Rattle.mt_wiring.proofs.PortNumbers.{links_step, links_all}
use Rattle.mt_wiring.proofs.links.links_of.Goals as goal

pub loop-number-preserved : goal.loop-number-preserved
loop-number-preserved g c =
    links_step (g.E.Elements.behavior c.args.elements.now).leads c.args.wires.now c.args.ports.now.targets.items c.deref.result.now c.as_slice-keys.result.now c.loop-number.number _ c.loop-number.links.items c.push_links.new.links.items
    c.deref.ensures.value c.loop-number-test.true c.loop-number.invariant c.in_ok-push_links.ensures

pub returns : goal.returns
returns g c =
    links_all (g.E.Elements.behavior c.args.elements.now).leads c.args.wires.now c.args.ports.now.targets.items c.as_slice-keys.result.now c.args.ports.now.keys.keys c.loop-number.number c.loop-number.links.items
    c.as_slice-keys.ensures.keys c.loop-number-test.false c.requires.targets c.loop-number.invariant
