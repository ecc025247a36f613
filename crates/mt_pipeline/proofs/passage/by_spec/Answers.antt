use Rattle.std.proofs.Common.{subst, sym}
use Rattle.std.specs.Prelude.{IfOk}
use Rattle.mt_packet.specs.declared.cause.Cause.TheVariants as cause
use Rattle.mt_kinds.specs.declared.rewriter.Spec.{Spec}
use Rattle.mt_kinds.specs.declared.rewriter.Template.{Template}
use Rattle.mt_rewriter.specs.declared.passage.Passage.TheVariants as becomes
use Rattle.mt_pipeline.specs.Standing.{entries_of, tables_of}
use Rattle.mt_pipeline.specs.Trying.{EndsBy, once_decision, spec_decision}
use Rattle.mt_pipeline.specs.declared.passage.Passed.TheVariants as passed
use Rattle.mt_pipeline.proofs.Decided.{settled_ends}
use Rattle.mt_pipeline.proofs.StepsTaken.{no_step}
use Rattle.mt_pipeline.proofs.passage.by_spec.Goals as goal

pub returns-in-Keep-clause-ends : goal.returns-in-Keep-clause-ends
returns-in-Keep-clause-ends g c =
    subst (λ (s : Spec). IfOk c.try_once.result (EndsBy (spec_decision c.args.given.now.rewriters.now (tables_of c.args.resources.now.store c.args.ledger.now) c.args.key.now s c.args.journal.now.picks.items)
    c.args.given.now.rewriters.now c.args.given.now.gone.now c.args.resources.now c.try_once.new.resources c.args.ledger.now c.try_once.new.ledger c.try_once.new.journal.picks.items)) (sym c.in-Keep.is)
    (subst (λ (t : Template). IfOk c.try_once.result (EndsBy (once_decision c.args.given.now.rewriters.now.pools.items (entries_of c.args.resources.now.store) c.args.key.now t c.args.journal.now.picks.items)
    c.args.given.now.rewriters.now c.args.given.now.gone.now c.args.resources.now c.try_once.new.resources c.args.ledger.now c.try_once.new.ledger c.try_once.new.journal.picks.items)) c.keeping-template.ensures c.try_once.ensures.ends)

pub returns-in-Pattern-clause-ends : goal.returns-in-Pattern-clause-ends
returns-in-Pattern-clause-ends g c =
    subst (λ (s : Spec). IfOk c.try_once-in-Pattern.result (EndsBy (spec_decision c.args.given.now.rewriters.now (tables_of c.args.resources.now.store c.args.ledger.now) c.args.key.now s c.args.journal.now.picks.items)
    c.args.given.now.rewriters.now c.args.given.now.gone.now c.args.resources.now c.try_once-in-Pattern.new.resources c.args.ledger.now c.try_once-in-Pattern.new.ledger c.try_once-in-Pattern.new.journal.picks.items)) (sym c.in-Pattern.is)
    c.try_once-in-Pattern.ensures.ends

pub returns-in-Mapper-clause-ends : goal.returns-in-Mapper-clause-ends
returns-in-Mapper-clause-ends g c =
    subst (λ (s : Spec). IfOk c.by_mapper.result (EndsBy (spec_decision c.args.given.now.rewriters.now (tables_of c.args.resources.now.store c.args.ledger.now) c.args.key.now s c.args.journal.now.picks.items)
    c.args.given.now.rewriters.now c.args.given.now.gone.now c.args.resources.now c.by_mapper.new.resources c.args.ledger.now c.by_mapper.new.ledger c.by_mapper.new.journal.picks.items)) (sym c.in-Mapper.is)
    c.by_mapper.ensures.ends

pub returns-in-Pass-clause-ends : goal.returns-in-Pass-clause-ends
returns-in-Pass-clause-ends g c =
    subst (λ (s : Spec). EndsBy (spec_decision c.args.given.now.rewriters.now (tables_of c.args.resources.now.store c.args.ledger.now) c.args.key.now s c.args.journal.now.picks.items)
    c.args.given.now.rewriters.now c.args.given.now.gone.now c.args.resources.now c.args.resources.now c.args.ledger.now c.args.ledger.now c.args.journal.now.picks.items (passed.Through (becomes.Passed c.in-Pass.out))) (sym c.in-Pass.is)
    (settled_ends c.args.given.now.rewriters.now c.args.given.now.gone.now c.args.resources.now c.args.ledger.now (becomes.Passed c.in-Pass.out) c.args.journal.now.picks.items)

pub returns-in-Drop-clause-ends : goal.returns-in-Drop-clause-ends
returns-in-Drop-clause-ends g c =
    subst (λ (s : Spec). EndsBy (spec_decision c.args.given.now.rewriters.now (tables_of c.args.resources.now.store c.args.ledger.now) c.args.key.now s c.args.journal.now.picks.items)
    c.args.given.now.rewriters.now c.args.given.now.gone.now c.args.resources.now c.args.resources.now c.args.ledger.now c.args.ledger.now c.args.journal.now.picks.items (passed.Through (becomes.Dropped cause.Unmapped))) (sym c.in-Drop.is)
    (settled_ends c.args.given.now.rewriters.now c.args.given.now.gone.now c.args.resources.now c.args.ledger.now (becomes.Dropped cause.Unmapped) c.args.journal.now.picks.items)

pub returns-in-Pass-clause-step : goal.returns-in-Pass-clause-step
returns-in-Pass-clause-step g c = no_step c.args.given.now.rewriters.now c.args.given.now.gone.now c.args.resources.now c.args.ledger.now c.args.journal.now c.requires.ready

pub returns-in-Drop-clause-step : goal.returns-in-Drop-clause-step
returns-in-Drop-clause-step g c = no_step c.args.given.now.rewriters.now c.args.given.now.gone.now c.args.resources.now c.args.ledger.now c.args.journal.now c.requires.ready
