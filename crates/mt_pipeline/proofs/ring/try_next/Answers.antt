use Rattle.std.proofs.Common.{◌<◌, ◌∙◌, ap, refl, subst, sym, arith}
use Rattle.std.specs.Prelude.{slice_get, slice_index}
use Rattle.std.proofs.lemmas.Option.{slice_get-get_or}
use Rattle.mt_pipeline.proofs.Attempts.{refused_try}
use Rattle.mt_pipeline.proofs.Rounds.{advanced, mapper_there, on_ok, patterns_at, turned_by}
use Rattle.mt_pipeline.proofs.StepsTaken.{step_then, try_step}
use Rattle.mt_pipeline.proofs.ring.try_next.Goals as goal

pub turn-turn-requires : goal.turn-turn-requires
turn-turn-requires g c = mapper_there c.args.given.now.rewriters.now c.args.given.now.gone.now c.args.resources.now c.args.ledger.now c.args.mapper c.args.templates.now c.requires.ready c.requires.at

pub advance-requires : goal.advance-requires
advance-requires g c = mapper_there c.args.given.now.rewriters.now c.args.given.now.gone.now c.args.resources.now c.args.ledger.now c.args.mapper c.args.templates.now c.requires.ready c.requires.at

pub bounds-templates-turn : goal.bounds-templates-turn
bounds-templates-turn g c =
    let below = c.turn-turn.ensures.below in
    let count = patterns_at c.args.given.now.rewriters.now c.args.given.now.gone.now c.args.resources.now c.args.ledger.now c.args.mapper c.args.templates.now c.requires.ready c.requires.at in
    omega (arith, below, count)

pub try_template-requires-clause-ready : goal.try_template-requires-clause-ready
try_template-requires-clause-ready g c =
    (advanced c.args.given.now.rewriters.now c.args.given.now.gone.now c.args.resources.now c.args.ledger.now c.args.mapper c.args.templates.now c.requires.ready c.requires.at c.advance.new.self c.args.journal.now
    (record { picks = c.args.journal.now.picks; opened = c.args.journal.now.opened; moved = c.push.new.self }) (subst (λ n. n < slice_index c.args.ledger.now.patterns c.args.mapper) c.turn-turn.ensures.turn c.turn-turn.ensures.below)
    c.advance.ensures refl refl c.in_ok-push.ensures.items).ready

pub returns-clause-step : goal.returns-clause-step
returns-clause-step g c =
    step_then c.args.given.now.rewriters.now c.args.given.now.gone.now c.args.resources.now c.args.resources.now c.try_template.new.resources c.args.ledger.now c.advance.new.self c.try_template.new.ledger c.args.journal.now
    (record { picks = c.args.journal.now.picks; opened = c.args.journal.now.opened; moved = c.push.new.self }) c.try_template.new.journal
    (advanced c.args.given.now.rewriters.now c.args.given.now.gone.now c.args.resources.now c.args.ledger.now c.args.mapper c.args.templates.now c.requires.ready c.requires.at c.advance.new.self c.args.journal.now
    (record { picks = c.args.journal.now.picks; opened = c.args.journal.now.opened; moved = c.push.new.self }) (subst (λ n. n < slice_index c.args.ledger.now.patterns c.args.mapper) c.turn-turn.ensures.turn c.turn-turn.ensures.below)
    c.advance.ensures refl refl c.in_ok-push.ensures.items)
    c.try_template.ensures.step

pub returns-clause-turned : goal.returns-clause-turned
returns-clause-turned g c =
    on_ok c.try_template.result
    (turned_by c.args.given.now.rewriters.now c.args.given.now.gone.now c.args.key.now c.args.mapper c.args.templates.now c.args.resources.now c.try_template.new.resources c.args.ledger.now c.advance.new.self c.try_template.new.ledger
    c.args.journal.now.picks.items c.try_template.new.journal.picks.items c.try_template.result _
    (patterns_at c.args.given.now.rewriters.now c.args.given.now.gone.now c.args.resources.now c.args.ledger.now c.args.mapper c.args.templates.now c.requires.ready c.requires.at)
    (ap (slice_get c.args.templates.now) (sym c.turn-turn.ensures.turn)
    ∙ slice_get-get_or c.args.templates.now c.turn-turn.result _
    (let below = c.turn-turn.ensures.below in
    let count = patterns_at c.args.given.now.rewriters.now c.args.given.now.gone.now c.args.resources.now c.args.ledger.now c.args.mapper c.args.templates.now c.requires.ready c.requires.at in
    omega (arith, below, count)))
    c.advance.ensures c.try_template.ensures.kept c.try_template.ensures.ends)

pub returns-in_err-push-clause-step : goal.returns-in_err-push-clause-step
returns-in_err-push-clause-step g c =
    try_step c.args.given.now.rewriters.now c.args.given.now.gone.now c.args.resources.now c.args.resources.now c.args.ledger.now c.args.ledger.now c.args.journal.now
    (record { picks = c.args.journal.now.picks; opened = c.args.journal.now.opened; moved = c.push.new.self }) 0
    (refused_try c.args.given.now.rewriters.now c.args.given.now.gone.now c.args.resources.now c.args.ledger.now c.args.journal.now.picks.items c.args.journal.now.picks.items c.requires.ready refl)
    (omega arith) c.in_err-push.ensures.items
