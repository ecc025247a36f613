-- proofs/packet/write/address/Answers.antt
use Rattle.std.proofs.Common.{◌≤◌, arith}
use Rattle.mt_packet.proofs.Difference.{address-mended}
use Rattle.mt_packet.specs.Write.{with_address}
use Rattle.mt_packet.proofs.packet.write.address.Goals as goal

pub returns : goal.returns
unfolding with_address
returns c =
    let small : c.args.value ≤ 4294967295 = omega arith in
    let m = address-mended c.args.datagram.now c.args.offset c.args.value c.requires.address c.requires.valid small in
    cc
