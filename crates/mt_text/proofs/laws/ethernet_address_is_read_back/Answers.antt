use Rattle.mt_text.proofs.Pairs.{ethernet_printed}
use Rattle.mt_text.proofs.laws.ethernet_address_is_read_back.Goals as goal

pub returns : goal.returns
returns c = ethernet_printed
