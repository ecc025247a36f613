use Rattle.std.proofs.Common.{◌≡◌, ℕ, List, ◌++◌, ◌∷◌, [], ap, subst, sym, ◌∙◌, length, arith, rules}
use Rattle.mt_pipeline.specs.Standing.{AreGone}
use Rattle.metron.specs.Standing.{HasMissed}
use Rattle.metron.proofs.Turning.{fewer, head_served, missed_one, pools_left, waits_still}
use Rattle.metron.proofs.worker.Worker.serve_head.Goals as goal

pub returns-in-Ok-Served-clause-served : goal.returns-in-Ok-Served-clause-served
returns-in-Ok-Served-clause-served g c = λ chain frame can waiting.
    let kept = c.loop-service.invariant in
    head_served c.args.context.now.rewriters c.args.context.now.classes c.args.context.now.index chain frame c.args.self.now c.loop-service.self c.turn.new.self c.deref.result.now c.in-Ok-Served.field-0 c.in-Ok-Served.service c.in-Ok-Served.field-0-is
    (c.in-Ok-Served.ensures.turned chain (kept.can chain can)) (kept.waiting frame waiting) kept.tables kept.writes (c.turn.ensures.can chain (kept.can chain can))

pub loop-service-smaller : goal.loop-service-smaller
loop-service-smaller g c =
    let kept = c.loop-service.invariant in
    let chain = c.requires.can.0 in
    let can = kept.can chain c.requires.can.1 in
    let missed : HasMissed chain c.loop-service.self c.turn.new.self c.loop-service.gone.items c.in-Ok-Starved.pool = subst (λ (l : List ℕ). HasMissed chain c.loop-service.self c.turn.new.self l c.in-Ok-Starved.pool) c.deref.ensures.value (missed_one chain c.loop-service.self c.turn.new.self c.deref.result.now c.in-Ok-Starved.field-0 c.in-Ok-Starved.pool c.in-Ok-Starved.field-0-is (c.in-Ok-Starved.ensures.turned chain can)) in
    let pushed : c.push.new.self.items ≡ c.loop-service.gone.items ++ c.in-Ok-Starved.pool ∷ [] = search rules in
    let pools = c.requires.can.1.made.made.pools in
    let less = fewer c.loop-service.gone.items c.in-Ok-Starved.pool (length c.args.context.now.rewriters.pools.items) (let known = missed.known in let same = ap length pools in omega (arith, known, same)) missed.not_gone in
    let more = ap (λ l. pools_left l (length c.args.context.now.rewriters.pools.items)) pushed in
    omega (arith, less, more)

pub loop-service-preserved : goal.loop-service-preserved
loop-service-preserved g c =
    let kept = c.loop-service.invariant in
    let chain = c.requires.can.0 in
    let can = kept.can chain c.requires.can.1 in
    let missed : HasMissed chain c.loop-service.self c.turn.new.self c.loop-service.gone.items c.in-Ok-Starved.pool = subst (λ (l : List ℕ). HasMissed chain c.loop-service.self c.turn.new.self l c.in-Ok-Starved.pool) c.deref.ensures.value (missed_one chain c.loop-service.self c.turn.new.self c.deref.result.now c.in-Ok-Starved.field-0 c.in-Ok-Starved.pool c.in-Ok-Starved.field-0-is (c.in-Ok-Starved.ensures.turned chain can)) in
    let pushed : c.push.new.self.items ≡ c.loop-service.gone.items ++ c.in-Ok-Starved.pool ∷ [] = search rules in
    record {
      can = λ other given. c.turn.ensures.can other (kept.can other given);
      waiting = λ frame given. waits_still chain c.loop-service.self c.turn.new.self c.loop-service.gone.items c.in-Ok-Starved.pool frame missed (kept.waiting frame given);
      gone = subst (λ l. AreGone l c.turn.new.self.ledger) (sym pushed) missed.gone_too;
      tables = missed.tables ∙ kept.tables;
      writes = missed.writes ∙ kept.writes;
    }
