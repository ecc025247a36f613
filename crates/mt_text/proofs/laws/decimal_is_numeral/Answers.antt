use Rattle.mt_text.proofs.Numerals.{decimal_read}
use Rattle.mt_text.proofs.laws.decimal_is_numeral.Goals as goal

pub returns : goal.returns
returns c = decimal_read
