-- proofs/datagram/valid/Answers.antt
use Rattle.mt_packet.proofs.Frames.{valid-iff}
use Rattle.mt_packet.proofs.datagram.valid.Goals as goal

pub returns-clause-valid : goal.returns-clause-valid
returns-clause-valid c = valid-iff _ _ c.passes.ensures
