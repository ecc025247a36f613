use Rattle.mt_kinds.proofs.ArgumentsSpelled.{hop_spelled}
use Rattle.mt_kinds.proofs.laws.hops_are_spelled.Goals as goal

pub returns : goal.returns
returns c = hop_spelled
