use Rattle.std.proofs.Common.{refl}
use Rattle.mt_pipeline.proofs.Tried.{has_met, left_again}
use Rattle.mt_pipeline.proofs.serving.try_tree.Goals as goal

pub returns-in-Ok-Starved-clause-tried : goal.returns-in-Ok-Starved-clause-tried
returns-in-Ok-Starved-clause-tried g c =
    let starved = rw c.in-Ok-Starved.field-0-is at c.in-Ok-Starved.ensures.ended in (
      has_met c.args.given.now.rewriters.now c.args.given.now.gone.now c.args.resources.now c.walk.new.resources c.take_back.new.resources c.args.ledger.now c.walk.new.ledger c.take_back.new.ledger
          (record { picks = c.new.result; opened = 0; moved = c.new-2.result }) c.walk.new.journal refl c.new-2.ensures.items c.requires.ready c.walk.ensures.step c.in-Ok-Starved.pool starved c.take_back.ensures.stocks,
      left_again c.args.given.now.rewriters.now c.args.given.now.gone.now c.args.resources.now c.walk.new.resources c.take_back.new.resources c.args.ledger.now c.walk.new.ledger c.take_back.new.ledger
          (record { picks = c.new.result; opened = 0; moved = c.new-2.result }) c.walk.new.journal refl c.new-2.ensures.items c.requires.ready c.walk.ensures.step c.take_back.ensures.mappings c.take_back.ensures.turns c.take_back.ensures.ready,
    )

pub returns-clause-left : goal.returns-clause-left
returns-clause-left g c =
    left_again c.args.given.now.rewriters.now c.args.given.now.gone.now c.args.resources.now c.walk.new.resources c.take_back-in-Err.new.resources c.args.ledger.now c.walk.new.ledger c.take_back-in-Err.new.ledger
    (record { picks = c.new.result; opened = 0; moved = c.new-2.result }) c.walk.new.journal refl c.new-2.ensures.items c.requires.ready c.walk.ensures.step c.take_back-in-Err.ensures.mappings c.take_back-in-Err.ensures.turns c.take_back-in-Err.ensures.ready
