use Rattle.mt_rewriter.proofs.Leading.{lead}
use Rattle.mt_rewriter.proofs.laws.passages_lead.Goals as goal

pub returns : goal.returns
returns c = lead
