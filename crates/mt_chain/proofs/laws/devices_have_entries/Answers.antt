use Rattle.mt_chain.proofs.Entries.{has_entry}
use Rattle.mt_chain.proofs.laws.devices_have_entries.Goals as goal

pub returns : goal.returns
returns c = has_entry
