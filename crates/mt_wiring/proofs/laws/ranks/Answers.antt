use Rattle.mt_wiring.proofs.Ranks.{ranked}
use Rattle.mt_wiring.proofs.laws.ranks.Goals as goal

pub returns : goal.returns
returns c = λ leads wires none. ranked leads wires none
