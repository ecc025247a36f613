use Rattle.std.proofs.Common.{sym, subst}
use Rattle.mt_reach.specs.Reach.{AreWithin}
use Rattle.mt_wiring.proofs.RingsCleared.{ring_here}
use Rattle.mt_wiring.proofs.rings.first_returning.Goals as goal

pub comes_back-requires-clause-within : goal.comes_back-requires-clause-within
comes_back-requires-clause-within c = subst (AreWithin c.args.graph.now) (sym c.in_ok-seen.ensures.len) c.requires.within

pub returns : goal.returns
returns c = ring_here c.args.graph.now c.args.ports.now c.in-Some.number (0, 0) c.in-Some.ensures (c.in_ok-comes_back.ensures.returns.0 c.if-not-branch.false)
