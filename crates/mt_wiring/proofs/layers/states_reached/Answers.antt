use Rattle.std.proofs.Common.{arith}
use Rattle.mt_wiring.specs.contracts.layers.StateEq.TheImpl.Laws.{laws-law}
use Rattle.mt_wiring.proofs.PortNumbers.{distinct_apart}
use Rattle.mt_wiring.proofs.LayersFound.{begins, goes_on, ended, bounded, read_at}
use Rattle.mt_wiring.proofs.layers.states_reached.Goals as goal

pub loop-at-init : goal.loop-at-init
loop-at-init g c = begins (g.E.Elements.behavior c.args.elements.now) c.args.wires.now c.in_ok-states.states.keys c.in_ok-states.ensures

pub loop-at-smaller : goal.loop-at-smaller
loop-at-smaller g c =
    let most = bounded (g.E.Elements.behavior c.args.elements.now) c.args.wires.now c.loop-at.at c.loop-at.states.keys (distinct_apart _ (laws-law).refl c.loop-at.states.keys c.len.ensures.unique) c.loop-at.invariant in
    let lt = c.loop-at-test.true in
    let len = c.len.ensures.len in
    omega (arith, most, lt, len)

pub loop-at-preserved : goal.loop-at-preserved
loop-at-preserved g c =
    goes_on (g.E.Elements.behavior c.args.elements.now) c.args.wires.now c.loop-at.at c.loop-at.states.keys c.push_onward.new.states.keys _
    (read_at c.loop-at.states.keys c.as_slice.result.now c.loop-at.at _ c.as_slice.ensures.keys (let lt = c.loop-at-test.true in let len = c.len.ensures.len in omega (arith, lt, len))) c.in_ok-push_onward.ensures.grows c.in_ok-push_onward.ensures.pushed c.loop-at.invariant

pub returns : goal.returns
returns g c =
    ended (g.E.Elements.behavior c.args.elements.now) c.args.wires.now c.loop-at.at c.loop-at.states.keys (let le = c.loop-at-test.false in let len = c.len.ensures.len in omega (arith, le, len)) c.loop-at.invariant
