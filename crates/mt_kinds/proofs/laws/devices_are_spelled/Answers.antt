use Rattle.mt_kinds.proofs.RewritersSpelled.{device_spelled}
use Rattle.mt_kinds.proofs.laws.devices_are_spelled.Goals as goal

pub returns : goal.returns
returns c = device_spelled
