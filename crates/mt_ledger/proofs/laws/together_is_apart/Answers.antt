use Rattle.mt_ledger.proofs.Together.{stock_apart, token_apart}
use Rattle.mt_ledger.proofs.laws.together_is_apart.Goals as goal

pub returns-clause-stock_and_share : goal.returns-clause-stock_and_share
returns-clause-stock_and_share c = stock_apart

pub returns-clause-share_and_token : goal.returns-clause-share_and_token
returns-clause-share_and_token c = token_apart
