use Rattle.std.proofs.Common.{sym, subst}
use Rattle.std.specs.Prelude.{Option}
use Rattle.mt_kinds.specs.declared.hop.Hop.{Hop}
use Rattle.mt_chain.specs.Route.{IsRoute}
use Rattle.mt_chain.proofs.Longest.{is_route}
use Rattle.mt_chain.proofs.route.route.Goals as goal

pub returns-clause-longest : goal.returns-clause-longest
returns-clause-longest c =
    subst (λ (found : Option Hop). IsRoute c.args.address c.args.hops.now found) (sym c.found.ensures) (is_route c.args.address c.args.hops.now)
