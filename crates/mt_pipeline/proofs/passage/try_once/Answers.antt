use Rattle.std.proofs.Common.{subst, sym}
use Rattle.std.specs.declared.alloc.AllocError.{AllocError}
use Rattle.mt_pipeline.specs.Standing.{entries_of}
use Rattle.mt_pipeline.specs.Trying.{EndsBy, once_decision}
use Rattle.mt_pipeline.proofs.Rounds.{once_ends}
use Rattle.mt_pipeline.proofs.passage.try_once.Goals as goal

pub returns-in-Ok-clause-ends : goal.returns-in-Ok-clause-ends
returns-in-Ok-clause-ends g c =
    subst (EndsBy (once_decision c.args.given.now.rewriters.now.pools.items (entries_of c.args.resources.now.store) c.args.key.now c.args.template.now c.args.journal.now.picks.items)
    c.args.given.now.rewriters.now c.args.given.now.gone.now c.args.resources.now c.try_template.new.resources c.args.ledger.now c.try_template.new.ledger c.try_template.new.journal.picks.items) (sym c.ended_by.ensures)
    (once_ends c.args.given.now.rewriters.now c.args.given.now.gone.now c.args.key.now c.args.template.now c.args.resources.now c.try_template.new.resources c.args.ledger.now c.try_template.new.ledger
    c.args.journal.now.picks.items c.try_template.new.journal.picks.items AllocError c.in-Ok.tried c.in-Ok.ensures.kept c.in-Ok.ensures.ends)
