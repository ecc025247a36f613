use Rattle.std.proofs.Common.{sym}
use Rattle.mt_rewriter.specs.Mappings.{key_of}
use Rattle.mt_pipeline.specs.Passing.{EndsPassage}
use Rattle.mt_pipeline.specs.Standing.{tables_of}
use Rattle.mt_pipeline.specs.Trying.{EndsBy, spec_decision}
use Rattle.mt_pipeline.proofs.Decided.{met_ends, ok_then, unmet_ends}
use Rattle.mt_pipeline.proofs.StepsTaken.{no_step}
use Rattle.mt_pipeline.proofs.passage.pass.Goals as goal

pub returns-in-Some-clause-passed : goal.returns-in-Some-clause-passed
returns-in-Some-clause-passed g c =
    met_ends c.args.given.now.rewriters.now c.args.given.now.gone.now c.args.resources.now c.args.ledger.now c.args.port.0 c.args.port.1 c.args.flow c.args.spec c.args.journal.now.picks.items c.in-Some.meeting (sym c.in-Some.ensures.meets)

pub returns-in-Some-clause-step : goal.returns-in-Some-clause-step
returns-in-Some-clause-step g c = no_step c.args.given.now.rewriters.now c.args.given.now.gone.now c.args.resources.now c.args.ledger.now c.args.journal.now c.requires.ready

pub returns-in-None-clause-passed : goal.returns-in-None-clause-passed
returns-in-None-clause-passed g c =
    ok_then (EndsBy (spec_decision c.args.given.now.rewriters.now (tables_of c.args.resources.now.store c.args.ledger.now) (key_of c.args.port.0 c.args.port.1 c.args.flow) c.args.spec c.args.journal.now.picks.items)
    c.args.given.now.rewriters.now c.args.given.now.gone.now c.args.resources.now c.by_spec.new.resources c.args.ledger.now c.by_spec.new.ledger c.by_spec.new.journal.picks.items)
    (EndsPassage c.args.given.now.rewriters.now c.args.given.now.gone.now c.args.port.0 c.args.port.1 c.args.spec c.args.flow c.args.resources.now c.by_spec.new.resources c.args.ledger.now c.by_spec.new.ledger
    c.args.journal.now.picks.items c.by_spec.new.journal.picks.items)
    c.by_spec.result
    (λ ends by. unmet_ends c.args.given.now.rewriters.now c.args.given.now.gone.now c.args.resources.now c.by_spec.new.resources c.args.ledger.now c.by_spec.new.ledger c.args.port.0 c.args.port.1 c.args.flow c.args.spec
    c.args.journal.now.picks.items c.by_spec.new.journal.picks.items ends (sym c.in-None.ensures.meets) by)
    c.by_spec.ensures.ends
