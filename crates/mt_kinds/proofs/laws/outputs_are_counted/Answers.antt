use Rattle.mt_kinds.proofs.OutputsCounted.{leads_counted}
use Rattle.mt_kinds.proofs.laws.outputs_are_counted.Goals as goal

pub returns : goal.returns
returns c = λ mappers specs input out wired leads. leads_counted mappers specs input out leads
