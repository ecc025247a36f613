use Rattle.mt_kinds.proofs.RewritersSpelled.{template_spelled}
use Rattle.mt_kinds.proofs.laws.templates_are_spelled.Goals as goal

pub returns : goal.returns
returns c = template_spelled
