-- proofs/packet/write/time_to_live/Answers.antt
use Rattle.mt_packet.proofs.Difference.{byte_8-mended}
use Rattle.mt_packet.specs.Write.{with_ttl}
use Rattle.mt_packet.proofs.packet.write.time_to_live.Goals as goal

pub returns : goal.returns
unfolding with_ttl
returns c = let m = byte_8-mended c.args.datagram.now c.args.value c.requires in cc
