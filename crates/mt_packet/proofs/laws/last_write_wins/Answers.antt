-- proofs/laws/last_write_wins/Answers.antt
use Rattle.mt_packet.proofs.PacketWrites.{last-write-wins}
use Rattle.mt_packet.proofs.laws.last_write_wins.Goals as goal

pub returns : goal.returns
returns c = last-write-wins
