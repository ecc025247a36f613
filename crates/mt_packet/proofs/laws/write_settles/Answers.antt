-- proofs/laws/write_settles/Answers.antt
use Rattle.mt_packet.proofs.Settles.{write-settles}
use Rattle.mt_packet.proofs.laws.write_settles.Goals as goal

pub returns : goal.returns
returns c = write-settles
