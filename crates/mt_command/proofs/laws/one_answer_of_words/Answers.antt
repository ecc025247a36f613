use Rattle.mt_command.proofs.OneAnswer.{one_command, command_or_fault, one_fault}
use Rattle.mt_command.proofs.laws.one_answer_of_words.Goals as goal

pub returns : goal.returns
returns c = record { command = one_command; either = command_or_fault; fault = one_fault }
