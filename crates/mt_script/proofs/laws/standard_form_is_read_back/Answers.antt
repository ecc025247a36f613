use Rattle.mt_script.proofs.PrintedRead.{script_printed}
use Rattle.mt_script.proofs.laws.standard_form_is_read_back.Goals as goal

pub returns : goal.returns
returns c = script_printed c.decimal_is_numeral.ensures
