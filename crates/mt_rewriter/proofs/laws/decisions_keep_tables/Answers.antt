use Rattle.mt_rewriter.proofs.Remembered.{keeps}
use Rattle.mt_rewriter.proofs.laws.decisions_keep_tables.Goals as goal

pub returns : goal.returns
returns c = keeps
