-- proofs/checksum/ip_sum/Answers.antt
use Rattle.std.proofs.Common.{arith}
use Rattle.mt_packet.proofs.Sums.{ones_complement-done}
use Rattle.mt_packet.proofs.checksum.ip_sum.Goals as goal

pub returns : goal.returns
returns c =
    ones_complement-done c.loop-offset.total c.args.bytes.now c.loop-offset.offset _ (omega arith) (omega arith)
    c.loop-offset.invariant.2
