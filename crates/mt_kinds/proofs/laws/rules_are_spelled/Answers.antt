use Rattle.mt_kinds.proofs.ArgumentsSpelled.{rule_spelled}
use Rattle.mt_kinds.proofs.laws.rules_are_spelled.Goals as goal

pub returns : goal.returns
returns c = rule_spelled
