use Rattle.std.proofs.Common.{◌+◌, ap, arith, refl}
use Rattle.mt_pipeline.proofs.StepsTaken.{try_step}
use Rattle.mt_pipeline.proofs.tries.try_template.Goals as goal

pub returns-in-Ok-clause-step : goal.returns-in-Ok-clause-step
returns-in-Ok-clause-step g c =
    try_step c.args.given.now.rewriters.now c.args.given.now.gone.now c.args.resources.now c.attempt.new.resources c.args.ledger.now c.attempt.new.ledger c.args.journal.now
    (record { picks = c.attempt.new.picks; opened = c.args.journal.now.opened + c.opened_by.result; moved = c.args.journal.now.moved })
    _ c.in-Ok.ensures.kept (ap (λ n. c.args.journal.now.opened + n) c.opened_by.ensures.count) refl

pub returns-in-Err-clause-step : goal.returns-in-Err-clause-step
returns-in-Err-clause-step g c =
    try_step c.args.given.now.rewriters.now c.args.given.now.gone.now c.args.resources.now c.attempt.new.resources c.args.ledger.now c.attempt.new.ledger c.args.journal.now
    (record { picks = c.attempt.new.picks; opened = c.args.journal.now.opened; moved = c.args.journal.now.moved })
    0 c.in-Err.ensures.kept (omega arith) refl
