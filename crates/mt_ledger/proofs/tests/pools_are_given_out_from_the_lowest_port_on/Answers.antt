use Rattle.std.proofs.Common.{◌≤◌, subst, sym}
use Rattle.mt_ledger.specs.Ledger.{LedgerState}
use Rattle.mt_ledger.specs.Ports.{times}
use Rattle.mt_ledger.specs.Pools.{ports_at}
use Rattle.mt_ledger.proofs.Together.{at_most_once}
use Rattle.mt_ledger.proofs.tests.pools_are_given_out_from_the_lowest_port_on.Goals as goal

pub there_and_back-requires-clause-apart : goal.there_and_back-requires-clause-apart
there_and_back-requires-clause-apart c c' port =
    let e = c'.in_ok-ledger.ensures.ledger in
    subst (λ (l : LedgerState). times port (ports_at l.stocks 0) ≤ 1) (sym e) (at_most_once port _ _)
