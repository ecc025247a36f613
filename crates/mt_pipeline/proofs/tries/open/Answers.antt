use Rattle.std.proofs.Common.{ap, Err}
use Rattle.mt_pipeline.proofs.Attempts.{refusal_ends}
use Rattle.mt_pipeline.proofs.tries.open.Goals as goal

pub returns-in-Err : goal.returns-in-Err
returns-in-Err c =
    refusal_ends c.args.pools.now c.args.mapping c.args.resources.now (record { store = c.open.new.self; shares = c.refused.new.shares }) c.in-Err.fault c.refused.result
    c.in-Err.ensures.unchanged c.in-Err.ensures.back (λ is. c.in-Err.ensures.clash.0 (ap Err is)) c.refused.ensures.back c.refused.ensures.why
