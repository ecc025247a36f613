use Rattle.mt_text.proofs.Printed.{address_printed}
use Rattle.mt_text.proofs.laws.ipv4_address_is_read_back.Goals as goal

pub returns : goal.returns
returns c = address_printed
