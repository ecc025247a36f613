use Rattle.std.proofs.Common.{◌∙◌, List, refl, subst, sym}
use Rattle.mt_kinds.specs.declared.rewriter.Pool.{Pool}
use Rattle.mt_pipeline.specs.Trying.{IsGivable, IsGivenBack}
use Rattle.mt_pipeline.proofs.Undone.{closing_givable, closing_ready, same_front}
use Rattle.mt_pipeline.proofs.taking_back.close_one.Goals as goal

pub give_back-requires : goal.give_back-requires
give_back-requires g c =
    subst (λ (p : List Pool). IsGivable p c.args.resources.now.shares c.in-Some.mapping.port) (sym c.deref.ensures.value)
    (closing_givable c.args.given.now.rewriters.now c.args.given.now.gone.now c.args.resources.now (record { store = c.undo.new.self; shares = c.args.resources.now.shares }) c.args.resources.now c.args.ledger.now c.requires.ready
    c.in-Some.mapping c.in-Some.ensures.last refl)

pub returns-clause-ready : goal.returns-clause-ready
returns-clause-ready g c =
    closing_ready c.args.given.now.rewriters.now c.args.given.now.gone.now c.args.resources.now (record { store = c.undo.new.self; shares = c.args.resources.now.shares })
    (record { store = c.undo.new.self; shares = c.give_back.new.shares }) c.args.ledger.now c.requires.ready c.in-Some.mapping c.in-Some.ensures.last refl refl
    (subst (λ (p : List Pool). IsGivenBack p c.args.resources.now.shares c.give_back.new.shares c.in-Some.mapping.port) c.deref.ensures.value c.give_back.ensures)

pub returns-clause-closed : goal.returns-clause-closed
returns-clause-closed g c = λ front last is. same_front c.undo.new.self front c.in-Some.mapping last (sym c.in-Some.ensures.last ∙ is)
