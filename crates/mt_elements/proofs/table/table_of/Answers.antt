use Rattle.std.proofs.Common.{◌∙◌, ap, length, map, arith}
use Rattle.mt_elements.proofs.TableBuilt.{table_more, table_closed, row_at}
use Rattle.mt_elements.proofs.WiresTold.{map_push}
use Rattle.mt_elements.proofs.table.table_of.Goals as goal

pub loop-element-preserved : goal.loop-element-preserved
loop-element-preserved c =
    table_more c.args.layout.now c.loop-element.element _ _ c.in-Some.row.items
    (row_at c.args.layout.now c.loop-element.element (λ r. r.items) c.in_ok-row.row c.in-Some.row c.in-Some.is c.in_ok-row.ensures)
    (ap (map (λ r. r.items)) c.in_ok-push-in-Some.ensures.items ∙ map_push (λ r. r.items) c.loop-element.table.items c.in-Some.row) c.loop-element.invariant

pub returns-clause-closed : goal.returns-clause-closed
returns-clause-closed c = table_closed c.args.layout.now c.loop-element.element _ (omega (arith, c.loop-element-test.false, ap length c.kinds-element-end.ensures.kinds)) c.loop-element.invariant
