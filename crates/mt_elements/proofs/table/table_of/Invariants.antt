use Rattle.std.proofs.Common.{map}
use Rattle.mt_elements.proofs.TableBuilt.{IsTableTo}
use Rattle.mt_elements.proofs.table.table_of.Given as goal

abbrev pub invariant-loop-element : goal.invariant-loop-element
invariant-loop-element l = IsTableTo l.layout (map (λ r. r.items) l.table.items) l.element
