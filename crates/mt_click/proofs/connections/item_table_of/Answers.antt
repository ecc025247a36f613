use Rattle.std.proofs.Common.{◌+◌, ◌≤◌, length, drop, sym, ap, ◌∙◌, arith}
use Rattle.mt_click.specs.Connections.{item_from}
use Rattle.mt_click.proofs.ItemTables.{item_step, item_end}
use Rattle.mt_click.proofs.connections.item_table_of.Goals as goal

pub loop-at-preserved : goal.loop-at-preserved
loop-at-preserved c = λ enclosing offset.
    let created = c.args.created.now in
    let at = c.loop-at.at in
    ap (λ found. item_from found (drop (at + 1) created) enclosing offset) (c.in_ok-insert.ensures.updates.0 (enclosing, offset))
    ∙ sym (item_step _ created at _ enclosing offset c.loop-at-test.true) ∙ c.loop-at.invariant enclosing offset

pub returns-clause-table : goal.returns-clause-table
returns-clause-table c = λ enclosing offset. let le : length c.args.created.now ≤ c.loop-at.at = omega arith in sym (item_end _ c.args.created.now c.loop-at.at enclosing offset le) ∙ c.loop-at.invariant enclosing offset
