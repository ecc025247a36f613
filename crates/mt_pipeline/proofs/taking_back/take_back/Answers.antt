use Rattle.mt_pipeline.specs.Standing.{turns_back}
use Rattle.mt_pipeline.proofs.Undone.{back_length, ready_back}
use Rattle.mt_pipeline.proofs.taking_back.take_back.Goals as goal

pub returns-clause-ready : goal.returns-clause-ready
returns-clause-ready g c =
    ready_back c.args.given.now.rewriters.now c.args.given.now.gone.now c.close_last.new.resources c.args.ledger.now c.turn_back.new.ledger
    (turns_back c.args.ledger.now.patterns c.args.journal.moved.items c.args.ledger.now.turns) c.close_last.ensures.ready c.turn_back.ensures
    (back_length c.args.ledger.now.patterns c.args.journal.moved.items c.args.ledger.now.turns)

pub returns-clause-mappings : goal.returns-clause-mappings
returns-clause-mappings g c = λ mappings turns since. c.close_last.ensures.closed mappings (record { more = since.more; store_is = since.mappings_are; counted = since.counted })
