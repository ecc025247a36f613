use Rattle.std.proofs.Common.{[], length}
use Rattle.mt_wiring.specs.Pushes.{HasPushed, IsAmong}
use Rattle.mt_wiring.specs.Numbers.{IsLinkBy}
use Rattle.mt_wiring.proofs.links.links_of.Given as goal

abbrev pub invariant-loop-number : goal.invariant-loop-number
invariant-loop-number g l = HasPushed [] l.links.items (IsAmong (λ number port. IsAmong (IsLinkBy (g.E.Elements.behavior l.elements).leads l.ports.targets.items number port) l.wires (length l.wires)) l.keys l.number)
