use Rattle.mt_rewriter.proofs.Exhausting.{all_held}
use Rattle.mt_rewriter.proofs.laws.exhausted_pools_are_held.Goals as goal

pub returns : goal.returns
returns c = all_held
