use Rattle.std.proofs.Common.{◌∙◌, sym, ap, Some, rules}
use Rattle.mt_rewriter.specs.declared.log.Undo.TheVariants.{Close, Turn}
use Rattle.mt_rewriter.proofs.Undoing.{one_back, none_back}
use Rattle.mt_rewriter.proofs.tables.Tables.take_back.Goals as goal

pub loop-change-preserved-in-Close : goal.loop-change-preserved-in-Close
loop-change-preserved-in-Close c =
    one_back c.loop-change.changes.items c.pop.new.self.items (Close c.in-Close.key) c.pop.result c.loop-change.self c.close.new.self
    c.pop.ensures.items (c.in-Some.is ∙ ap Some c.in-Close.is) c.close.ensures ∙ c.loop-change.invariant

pub loop-change-preserved : goal.loop-change-preserved
loop-change-preserved c =
    one_back c.loop-change.changes.items c.pop.new.self.items (Turn c.in-Turn.mapper c.in-Turn.turn) c.pop.result c.loop-change.self c.set_turn.new.self
    c.pop.ensures.items (c.in-Some.is ∙ ap Some c.in-Turn.is) c.set_turn.ensures ∙ c.loop-change.invariant

pub returns : goal.returns
returns c = sym (none_back c.loop-change.changes.items c.loop-change.self (search rules)) ∙ c.loop-change.invariant
