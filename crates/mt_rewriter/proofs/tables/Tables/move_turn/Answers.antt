use Rattle.std.proofs.Common.{◌∙◌, ap, [], ◌∷◌, ◌++◌}
use Rattle.mt_rewriter.specs.declared.log.Undo.TheVariants.{Turn}
use Rattle.mt_rewriter.proofs.Undoing.{turn_logged}
use Rattle.mt_rewriter.proofs.tables.Tables.move_turn.Goals as goal

pub returns-clause-back : goal.returns-clause-back
returns-clause-back c =
    turn_logged c.args.log.now c.push.new.self.items c.args.self.now c.set_turn.new.self c.in-Some.mapper c.in-Some.turn c.turn.result (c.in_ok-push.ensures.items ∙ ap (λ l. l ++ Turn c.in-Some.mapper c.turn.result ∷ []) c.log.view_is) c.turn.ensures c.set_turn.ensures
