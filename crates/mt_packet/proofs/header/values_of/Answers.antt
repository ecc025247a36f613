-- proofs/header/values_of/Answers.antt
use Rattle.std.proofs.Common.{arith}
use Rattle.mt_packet.specs.Header.{fields_of}
use Rattle.mt_packet.proofs.Ranges.{fields_of-in_ranges, InRanges-along}
use Rattle.mt_packet.proofs.header.values_of.Goals as goal

pub returns-clause-header : goal.returns-clause-header
returns-clause-header c = cc

pub returns-clause-ranges : goal.returns-clause-ranges
returns-clause-ranges c =
    InRanges-along _ (fields_of c.args.device c.args.frame.now c.args.datagram.now c.args.paint c.args.annotation) (cc)
    (fields_of-in_ranges c.args.device c.args.frame.now c.args.datagram.now c.args.paint c.args.annotation (omega arith)
    (λ offset. omega (arith, c.type_inv.frame offset)) (λ offset. omega (arith, c.type_inv.datagram offset)) (omega arith) (omega arith))
