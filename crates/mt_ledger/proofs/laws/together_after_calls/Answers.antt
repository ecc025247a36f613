use Rattle.mt_ledger.proofs.Together.{after_calls}
use Rattle.mt_ledger.proofs.laws.together_after_calls.Goals as goal

pub returns : goal.returns
returns c = after_calls
