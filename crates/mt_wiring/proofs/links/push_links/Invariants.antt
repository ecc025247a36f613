use Rattle.mt_wiring.specs.Pushes.{HasPushed, IsAmong}
use Rattle.mt_wiring.specs.Numbers.{IsLinkBy}
use Rattle.mt_wiring.proofs.WiresLeaving.{AtPlace}
use Rattle.mt_wiring.proofs.links.push_links.Given as goal

abbrev pub invariant-loop-at : goal.invariant-loop-at
invariant-loop-at g l = HasPushed l.initial.links.items l.links.items (IsAmong (AtPlace (IsLinkBy (g.E.Elements.behavior l.elements).leads l.targets l.number l.port) l.wires) l.places l.at)
