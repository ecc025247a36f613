-- proofs/laws/writes_commute/Answers.antt
use Rattle.mt_packet.proofs.PacketWrites.{writes-commute}
use Rattle.mt_packet.proofs.laws.writes_commute.Goals as goal

pub returns : goal.returns
returns c = writes-commute
