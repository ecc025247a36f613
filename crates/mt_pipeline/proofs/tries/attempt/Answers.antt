use Rattle.std.proofs.Common.{List, refl, subst, sym}
use Rattle.mt_kinds.specs.declared.rewriter.Pool.{Pool}
use Rattle.mt_pipeline.specs.Trying.{EndsSourced, IsGivable, token_of}
use Rattle.mt_pipeline.proofs.Attempts.{attempt_ends, attempt_givable, attempt_kept, unfound_try}
use Rattle.mt_pipeline.proofs.tries.attempt.Goals as goal

pub open_for-requires-clause-givable : goal.open_for-requires-clause-givable
open_for-requires-clause-givable g c =
    subst (λ (p : List Pool). IsGivable p c.source_of.new.shares (token_of c.in-Ok.sourced)) (sym c.deref.ensures.value)
    (attempt_givable c.args.given.now.rewriters.now c.args.given.now.gone.now c.args.resources.now c.args.ledger.now c.source_of.new.ledger c.requires.ready
    (record { store = c.args.resources.now.store; shares = c.source_of.new.shares }) c.args.resources.now c.args.key.now c.args.template.now c.args.picks.now.items c.source_of.new.picks.items refl c.in-Ok.sourced c.in-Ok.ensures.moved)

pub returns-in-Ok-clause-kept : goal.returns-in-Ok-clause-kept
returns-in-Ok-clause-kept g c =
    attempt_kept c.args.given.now.rewriters.now c.args.given.now.gone.now c.args.resources.now c.args.ledger.now c.source_of.new.ledger c.requires.ready
    (record { store = c.args.resources.now.store; shares = c.source_of.new.shares }) c.open_for.new.resources c.args.key.now c.args.template.now c.args.picks.now.items c.source_of.new.picks.items refl c.in-Ok.sourced c.open_for.result
    c.in-Ok.ensures.moved c.in-Ok.ensures.ends
    (subst (λ (p : List Pool). EndsSourced p c.args.key.now c.args.template.now c.in-Ok.sourced (record { store = c.args.resources.now.store; shares = c.source_of.new.shares }) c.open_for.new.resources c.open_for.result) c.deref.ensures.value c.open_for.ensures)

pub returns-in-Ok-clause-ends : goal.returns-in-Ok-clause-ends
returns-in-Ok-clause-ends g c =
    attempt_ends c.args.given.now.rewriters.now c.args.given.now.gone.now c.args.resources.now c.args.ledger.now c.source_of.new.ledger c.requires.ready
    (record { store = c.args.resources.now.store; shares = c.source_of.new.shares }) c.open_for.new.resources c.args.key.now c.args.template.now c.args.picks.now.items c.source_of.new.picks.items refl c.in-Ok.sourced c.open_for.result
    c.keys_differ.ensures.forward c.keys_differ.ensures.reply c.in-Ok.ensures.moved c.in-Ok.ensures.ends
    (subst (λ (p : List Pool). EndsSourced p c.args.key.now c.args.template.now c.in-Ok.sourced (record { store = c.args.resources.now.store; shares = c.source_of.new.shares }) c.open_for.new.resources c.open_for.result) c.deref.ensures.value c.open_for.ensures)

pub returns-in-Err-clause-kept : goal.returns-in-Err-clause-kept
returns-in-Err-clause-kept g c =
    unfound_try c.args.given.now.rewriters.now c.args.given.now.gone.now c.args.resources.now (record { store = c.args.resources.now.store; shares = c.source_of.new.shares }) c.args.ledger.now c.source_of.new.ledger
    c.args.picks.now.items c.source_of.new.picks.items c.requires.ready c.in-Err.ensures.moved refl c.in-Err.ensures.ends
