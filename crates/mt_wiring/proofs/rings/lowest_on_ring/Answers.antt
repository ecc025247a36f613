use Rattle.std.proofs.Common.{◌∙◌, sym, ap, length, subst}
use Rattle.std.proofs.lemmas.Result.{IfOk-weaker}
use Rattle.mt_reach.specs.Reach.{AreBetween, AreWithin}
use Rattle.mt_wiring.specs.Numbers.{AreClear}
use Rattle.mt_wiring.specs.Ways.{OnRing}
use Rattle.mt_wiring.proofs.Pushing.{none_lower, found_is, found_lowest}
use Rattle.mt_wiring.proofs.RingsFound.{links_between, lowest_ring}
use Rattle.mt_wiring.proofs.rings.lowest_on_ring.Goals as goal

pub graph_of-requires : goal.graph_of-requires
graph_of-requires g c =
    subst (λ ls. AreBetween ls c.len.result) (sym c.deref-2.ensures.value)
    (links_between (g.E.Elements.behavior c.args.elements.now).leads c.args.wires.now c.in_ok-ports.ports.keys.keys c.in_ok-links.links.items c.len.result c.len.ensures.len c.in_ok-links.ensures)

pub lowest_returning-requires : goal.lowest_returning-requires
lowest_returning-requires g c = record {
  within = subst (λ gr. AreWithin gr (length c.as_slice.result.now)) (sym c.deref-4.ensures.value)
      (subst (AreWithin c.in_ok-graph.graph.items) (c.len.ensures.len ∙ sym (ap length c.as_slice.ensures.keys)) c.in_ok-graph.ensures.within);
  clear = subst (AreClear c.deref-4.result.now) (sym c.deref-5.ensures.value)
      (subst (λ gr. AreClear gr c.in_ok-clear.clear.items) (c.deref-3.ensures.value ∙ sym c.deref-4.ensures.value) c.in_ok-clear.ensures);
}

pub returns-clause-none : goal.returns-clause-none
returns-clause-none g c = IfOk-weaker _ _ _ (λ r h. none_lower (OnRing (g.E.Elements.behavior c.args.elements.now).leads c.args.wires.now) r
    (lowest_ring (g.E.Elements.behavior c.args.elements.now).leads c.args.wires.now c.in_ok-ports.ports.keys.keys c.as_slice.result.now c.in_ok-ports.ports.targets.items c.in_ok-graph.graph.items c.deref-4.result.now
    c.in_ok-links.links.items c.deref-2.result.now r c.as_slice.ensures.keys c.deref-4.ensures.value c.deref-2.ensures.value c.in_ok-ports.ensures c.in_ok-links.ensures c.in_ok-graph.ensures.links h)) c.lowest_returning.ensures

pub returns-clause-found : goal.returns-clause-found
returns-clause-found g c = IfOk-weaker _ _ _ (λ r h. found_is (OnRing (g.E.Elements.behavior c.args.elements.now).leads c.args.wires.now) r
    (lowest_ring (g.E.Elements.behavior c.args.elements.now).leads c.args.wires.now c.in_ok-ports.ports.keys.keys c.as_slice.result.now c.in_ok-ports.ports.targets.items c.in_ok-graph.graph.items c.deref-4.result.now
    c.in_ok-links.links.items c.deref-2.result.now r c.as_slice.ensures.keys c.deref-4.ensures.value c.deref-2.ensures.value c.in_ok-ports.ensures c.in_ok-links.ensures c.in_ok-graph.ensures.links h)) c.lowest_returning.ensures

pub returns-clause-lowest : goal.returns-clause-lowest
returns-clause-lowest g c = IfOk-weaker _ _ _ (λ r h. found_lowest (OnRing (g.E.Elements.behavior c.args.elements.now).leads c.args.wires.now) r
    (lowest_ring (g.E.Elements.behavior c.args.elements.now).leads c.args.wires.now c.in_ok-ports.ports.keys.keys c.as_slice.result.now c.in_ok-ports.ports.targets.items c.in_ok-graph.graph.items c.deref-4.result.now
    c.in_ok-links.links.items c.deref-2.result.now r c.as_slice.ensures.keys c.deref-4.ensures.value c.deref-2.ensures.value c.in_ok-ports.ensures c.in_ok-links.ensures c.in_ok-graph.ensures.links h)) c.lowest_returning.ensures
