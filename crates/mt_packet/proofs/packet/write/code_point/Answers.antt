-- proofs/packet/write/code_point/Answers.antt
use Rattle.std.proofs.Common.{◌+◌, ◌*◌, ◌%◌, get_or}
use Rattle.mt_packet.proofs.Difference.{byte_1-mended}
use Rattle.mt_packet.specs.Write.{with_dscp}
use Rattle.mt_packet.proofs.packet.write.code_point.Goals as goal

pub returns : goal.returns
unfolding with_dscp
returns c =
    let m = byte_1-mended c.args.datagram.now (c.args.value * 4 + get_or c.args.datagram.now 1 0 % 4) c.requires.valid in
    cc
