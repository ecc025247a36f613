use Rattle.mt_command.proofs.Known.{policy_known}
use Rattle.mt_command.proofs.words.read.Goals as goal

pub loop-at-init : goal.loop-at-init
loop-at-init c = c.new-reader.ensures _ _

pub returns-in-Some-clause-known : goal.returns-in-Some-clause-known
returns-in-Some-clause-known c = policy_known _ _ _ c.in-Some.ensures.command
