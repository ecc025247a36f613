use Rattle.std.proofs.Common.{arith, length-take}
use Rattle.mt_syntax.proofs.NumberDigits.{front_digits}
use Rattle.mt_syntax.proofs.piece.digits_of.Goals as goal

pub number_value-requires-clause-digits : goal.number_value-requires-clause-digits
number_value-requires-clause-digits c = λ k lt. front_digits c.args.bytes.now c.number_length-len.result k (omega arith) (omega (arith, length-take c.number_length-len.result c.args.bytes.now))
