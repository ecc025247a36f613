use Rattle.std.proofs.Common.{refl, arith}
use Rattle.mt_syntax.proofs.NumberDigits.{nine_digits, next_power, number_more}
use Rattle.mt_syntax.proofs.piece.number_value.Goals as goal

pub overflow_mul-number : goal.overflow_mul-number
overflow_mul-number c = omega (arith, nine_digits c.loop-digit.digit-index (omega arith))

pub overflow_add-number : goal.overflow_add-number
overflow_add-number c = omega (arith, nine_digits c.loop-digit.digit-index (omega arith), c.requires.digits c.loop-digit.digit-index (omega arith))

pub loop-digit-preserved : goal.loop-digit-preserved
loop-digit-preserved c =
    let i = c.loop-digit.digit-index in
    let e = number_more c.args.digits.now i c.loop-digit-test.true in
    record {
      small = omega (arith, next_power i, c.requires.digits i (omega arith));
      value = rw (e, ← c.loop-digit.invariant.value, c.from.ensures, c.saturating_sub.ensures) refl;
    }
