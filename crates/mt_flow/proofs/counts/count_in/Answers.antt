use Rattle.std.proofs.Common.{◌+◌, subst}
use Rattle.mt_flow.specs.Counts.{IsCounted}
use Rattle.mt_flow.proofs.Orders.{counted}
use Rattle.mt_flow.proofs.counts.count_in.Goals as goal

pub returns-clause-ok : goal.returns-clause-ok
returns-clause-ok c = subst (λ n. IsCounted c.args.counts.now c.insert.new.self c.args.lane (n + 1)) c.count_of-count.ensures
    (counted c.args.counts.now c.insert.new.self c.args.lane _ c.in_ok-insert.ensures.updates)
