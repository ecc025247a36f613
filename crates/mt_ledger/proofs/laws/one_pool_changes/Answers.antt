use Rattle.mt_ledger.proofs.Together.{changed_here, others_stay}
use Rattle.mt_ledger.proofs.Standing.{same_ranges}
use Rattle.mt_ledger.proofs.laws.one_pool_changes.Goals as goal

pub returns-clause-here : goal.returns-clause-here
returns-clause-here c = changed_here

pub returns-clause-others : goal.returns-clause-others
returns-clause-others c = others_stay

pub returns-clause-ranges : goal.returns-clause-ranges
returns-clause-ranges c = same_ranges
