use Rattle.mt_ledger.proofs.Together.{at_first}
use Rattle.mt_ledger.proofs.laws.together_at_first.Goals as goal

pub returns : goal.returns
returns c = at_first
