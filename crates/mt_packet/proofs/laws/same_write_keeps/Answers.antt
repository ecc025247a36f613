-- proofs/laws/same_write_keeps/Answers.antt
use Rattle.mt_packet.proofs.Settled.{same-write-keeps}
use Rattle.mt_packet.proofs.laws.same_write_keeps.Goals as goal

pub returns : goal.returns
returns c = same-write-keeps
