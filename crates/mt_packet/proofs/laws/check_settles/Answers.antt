-- proofs/laws/check_settles/Answers.antt
use Rattle.mt_packet.proofs.Settles.{check-settles}
use Rattle.mt_packet.proofs.laws.check_settles.Goals as goal

pub returns : goal.returns
returns c = check-settles
