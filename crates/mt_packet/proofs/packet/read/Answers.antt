-- proofs/packet/read/Answers.antt
use Rattle.std.proofs.Common.{arith}
use Rattle.mt_packet.proofs.Ranges.{fields_of-in_ranges}
use Rattle.mt_packet.proofs.packet.read.Goals as goal

pub returns-clause-range : goal.returns-clause-range
returns-clause-range c =
    let ranges = fields_of-in_ranges c.args.device c.args.frame.now c.args.datagram.now c.args.paint c.args.annotation (omega arith) (λ offset. omega (arith, c.type_inv.frame offset)) (λ offset. omega (arith, c.type_inv.datagram offset)) (omega arith) (omega arith) in
    omega (arith, c.value_of.ensures, ranges.in_range c.args.field)
