use Rattle.mt_script.proofs.CommandsSaid.{text_can_be_said}
use Rattle.mt_script.proofs.laws.commands_can_be_said.Goals as goal

pub returns : goal.returns
returns c = text_can_be_said c.decimal_is_numeral.ensures
