use Rattle.mt_click.proofs.TableEntries.{AreTold}
use Rattle.mt_click.proofs.symbols.table_of.Given as goal

abbrev pub invariant-loop-at : goal.invariant-loop-at
invariant-loop-at l = AreTold l.text l.indices.entries l.at l.entries.items
