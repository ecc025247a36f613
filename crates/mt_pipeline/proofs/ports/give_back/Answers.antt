use Rattle.std.proofs.Common.{subst, sym, arith}
use Rattle.mt_pipeline.specs.Trying.{IsGivenBack}
use Rattle.mt_pipeline.proofs.Whole.{given_back, not_given}
use Rattle.mt_pipeline.proofs.ports.give_back.Goals as goal

pub returns-then-pool-pools : goal.returns-then-pool-pools
returns-then-pool-pools c =
    subst (IsGivenBack c.args.pools.now c.args.shares.now c.give_back.new.self) (sym c.in-Some.is)
    (given_back c.args.pools.now c.args.shares.now c.give_back.new.self c.in-Some.token c.give_back.ensures.share)

pub returns-else-pool-pools : goal.returns-else-pool-pools
returns-else-pool-pools c =
    subst (IsGivenBack c.args.pools.now c.args.shares.now c.args.shares.now) (sym c.in-Some.is)
    (not_given c.args.pools.now c.args.shares.now c.in-Some.token (let past = c.if-pool-pools.false in let of = c.pool.ensures in omega (arith, past, of)))
