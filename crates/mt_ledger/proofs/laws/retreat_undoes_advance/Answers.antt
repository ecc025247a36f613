use Rattle.mt_ledger.proofs.Together.{back_again}
use Rattle.mt_ledger.proofs.laws.retreat_undoes_advance.Goals as goal

pub returns : goal.returns
returns c = back_again
