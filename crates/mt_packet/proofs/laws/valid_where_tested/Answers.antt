-- proofs/laws/valid_where_tested/Answers.antt
use Rattle.mt_packet.proofs.Frames.{valid-holds, valid-tested}
use Rattle.mt_packet.proofs.laws.valid_where_tested.Goals as goal

pub returns : goal.returns
returns c datagram = (valid-holds datagram, valid-tested datagram)
