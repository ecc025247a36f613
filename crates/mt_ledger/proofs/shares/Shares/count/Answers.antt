use Rattle.std.proofs.Common.{◌≡◌, length, subst, sym, ap, ◌∙◌}
use Rattle.mt_ledger.specs.Pools.{ports_at}
use Rattle.mt_ledger.proofs.Standing.{ports_at_is}
use Rattle.mt_ledger.proofs.shares.Shares.count.Goals as goal

pub returns : goal.returns
returns c = subst (λ pools. c.count.result ≡ length (ports_at pools c.args.pool)) c.self.view_is
    (c.count.ensures.count ∙ ap length (sym (ports_at_is c.self.inside.portions.items c.args.pool c.index.result.now (rw c.self.view_is c.requires) c.index.ensures)))
