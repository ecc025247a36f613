use Rattle.mt_command.proofs.Known.{policy_known}
use Rattle.mt_command.proofs.laws.policies_are_known.Goals as goal

pub returns : goal.returns
returns c = policy_known
