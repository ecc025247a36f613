use Rattle.std.proofs.Common.{◌∙◌, get_or, length, sym, subst}
use Rattle.mt_reach.specs.Reach.{AreWithin}
use Rattle.mt_wiring.specs.Pushes.{IsAmong}
use Rattle.mt_wiring.specs.Numbers.{IsRingAt, Returns}
use Rattle.mt_wiring.proofs.Pushing.{lowered_found}
use Rattle.mt_wiring.proofs.RingsCleared.{ring_here, least_more, lowest_at_end}
use Rattle.mt_wiring.proofs.rings.lowest_returning.Goals as goal

pub lower_returning-requires-clause-within : goal.lower_returning-requires-clause-within
lower_returning-requires-clause-within c = subst (AreWithin c.args.graph.now) (sym c.loop-number.invariant.len) c.requires.within

pub loop-number-preserved : goal.loop-number-preserved
loop-number-preserved c = record {
  marks = c.in_ok-lowest-2.ensures.marks;
  len = c.in_ok-lowest-2.ensures.len ∙ c.loop-number.invariant.len;
  found = lowered_found (IsAmong (IsRingAt c.args.graph.now) c.args.ports.now (length c.args.ports.now)) (Returns c.args.graph.now c.loop-number.number) (get_or c.args.ports.now c.loop-number.number (0, 0)).0
      c.loop-number.lowest c.in_ok-lowest-2.lowest (ring_here c.args.graph.now c.args.ports.now c.loop-number.number (0, 0) c.loop-number-test.true) c.loop-number.invariant.found c.in_ok-lowest-2.ensures.lowest;
  least = least_more c.args.graph.now c.args.ports.now c.loop-number.number (0, 0) c.loop-number.lowest c.in_ok-lowest-2.lowest c.loop-number-test.true c.loop-number.invariant.least c.in_ok-lowest-2.ensures.lowest;
}

pub returns : goal.returns
returns c = lowest_at_end c.args.graph.now c.args.ports.now c.loop-number.number c.loop-number.lowest c.loop-number-test.false c.loop-number.invariant.found c.loop-number.invariant.least
