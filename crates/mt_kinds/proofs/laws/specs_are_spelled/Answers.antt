use Rattle.mt_kinds.proofs.RewritersSpelled.{spec_spelled}
use Rattle.mt_kinds.proofs.laws.specs_are_spelled.Goals as goal

pub returns : goal.returns
returns c = spec_spelled
