use Rattle.mt_elements.proofs.TableBuilt.{IsRowTo}
use Rattle.mt_elements.proofs.table.row_of.Given as goal

abbrev pub invariant-loop-out : goal.invariant-loop-out
invariant-loop-out l = IsRowTo l.layout l.element l.row.items l.out
