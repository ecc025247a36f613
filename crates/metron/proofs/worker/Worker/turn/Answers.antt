use Rattle.metron.specs.declared.worker.Worker.{Worker}
use Rattle.metron.proofs.Turning.{turned}
use Rattle.metron.proofs.worker.Worker.turn.Goals as goal

pub returns-clause-turned : goal.returns-clause-turned
returns-clause-turned g c =
    let new : Worker = record { server = c.turn.new.self; ledger = c.turn.new.ledger; writes = c.turn.new.writes } in
    turned c.args.context.now.rewriters c.args.context.now.classes c.args.context.now.index c.args.self.now new c.args.gone.now c.turn.result c.turn.ensures.idle c.requires.waiting.0 c.requires.waiting.1 c.turn.ensures.gone c.turn.ensures.ended
