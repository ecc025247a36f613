use Rattle.std.proofs.Common.{sym, subst}
use Rattle.mt_wiring.specs.Leaving.{LeaveAll}
use Rattle.mt_wiring.proofs.PortNumbers.{grown}
use Rattle.mt_wiring.proofs.WiresLeaving.{place_within}
use Rattle.mt_wiring.proofs.LayersFound.{onward_step, onward_all}
use Rattle.mt_wiring.proofs.layers.push_onward.Goals as goal

pub wire_at-wire-requires : goal.wire_at-wire-requires
wire_at-wire-requires g c =
    place_within c.args.wires.now c.args.from.element c.places_of-places.result.now c.loop-at.at 0
    (subst (LeaveAll c.args.wires.now c.args.from.element) (sym c.places_of-places.ensures) (c.requires c.args.from.element)) c.loop-at-test.true

pub loop-at-preserved : goal.loop-at-preserved
loop-at-preserved g c = record {
  pushed = onward_step (g.E.Elements.behavior c.args.elements.now) c.args.wires.now c.args.from c.places_of-places.result.now c.loop-at.at 0 c.wire_at-wire.result c.args.states.now.keys c.loop-at.states.keys c.insert.new.states.keys
      c.takes.result c.is_left.result c.layer_behind.result c.loop-at-test.true c.wire_at-wire.ensures c.if-not-takes.false c.takes.ensures c.layer_behind.ensures c.is_left.ensures c.loop-at.invariant.pushed c.in_ok-insert.ensures.pushed;
  grows = grown c.args.states.now.keys c.loop-at.states.keys c.insert.new.states.keys c.loop-at.invariant.grows c.in_ok-insert.ensures.grows;
}

pub returns-clause-pushed : goal.returns-clause-pushed
returns-clause-pushed g c =
    onward_all (g.E.Elements.behavior c.args.elements.now) c.args.wires.now c.args.from c.places_of-places.result.now c.loop-at.at c.args.states.now.keys c.loop-at.states.keys c.loop-at-test.false
    (subst (LeaveAll c.args.wires.now c.args.from.element) (sym c.places_of-places.ensures) (c.requires c.args.from.element)) c.loop-at.invariant.pushed
