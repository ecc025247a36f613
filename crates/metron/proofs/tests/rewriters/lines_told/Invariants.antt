use Rattle.mt_rewriter.specs.Kept.{AreTables}
use Rattle.metron.proofs.tests.rewriters.lines_told.Given as goal

abbrev pub invariant-loop-line : goal.invariant-loop-line
invariant-loop-line l = AreTables l.chain l.tables
