use Rattle.mt_kinds.proofs.OutTables.{AreTablesTo}
use Rattle.mt_kinds.proofs.mappers.tables_of.Given as goal

abbrev pub invariant-loop-number : goal.invariant-loop-number
invariant-loop-number l = AreTablesTo l.mappers l.tables.items l.number
