use Rattle.mt_text.proofs.Printed.{number_printed}
use Rattle.mt_text.proofs.laws.number_is_read_back.Goals as goal

pub returns : goal.returns
returns c = number_printed
