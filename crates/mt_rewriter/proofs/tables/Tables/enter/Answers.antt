use Rattle.std.proofs.Common.{◌∙◌, ap, [], ◌∷◌, ◌++◌}
use Rattle.mt_rewriter.specs.declared.log.Undo.TheVariants.{Close}
use Rattle.mt_rewriter.proofs.Undoing.{entered_back}
use Rattle.mt_rewriter.proofs.tables.Tables.enter.Goals as goal

pub returns-clause-back : goal.returns-clause-back
returns-clause-back c =
    entered_back c.args.log.now c.push.new.self.items c.args.self.now c.open.new.self c.args.opened c.in-Some.key c.in-Some.translation c.open.result
    (c.in_ok-push.ensures.items ∙ ap (λ l. l ++ Close c.in-Some.key ∷ []) c.log.view_is) c.in-Some.is c.requires.fresh c.open.ensures.opened c.open.ensures.unchanged
