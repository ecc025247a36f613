-- proofs/laws/writes_stay_allowed/Answers.antt
use Rattle.mt_packet.proofs.PacketWrites.{writes-stay-allowed}
use Rattle.mt_packet.proofs.laws.writes_stay_allowed.Goals as goal

pub returns : goal.returns
returns c = writes-stay-allowed
