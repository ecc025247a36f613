use Rattle.std.proofs.Common.{refl, arith}
use Rattle.mt_text.specs.Number.{hexadecimal_value}
use Rattle.mt_text.proofs.Digits.{twelve_digits, next_power, hexadecimal_more}
use Rattle.mt_text.proofs.number.hexadecimal_value.Goals as goal

pub loop-byte-init : goal.loop-byte-init
unfolding hexadecimal_value
loop-byte-init c = record { small = omega arith; value = refl }

pub overflow_mul-value : goal.overflow_mul-value
overflow_mul-value c = omega (arith, twelve_digits c.loop-byte.byte-index (omega arith))

pub overflow_add-value : goal.overflow_add-value
overflow_add-value c = omega (arith, twelve_digits c.loop-byte.byte-index (omega arith))

pub loop-byte-preserved : goal.loop-byte-preserved
loop-byte-preserved c =
    let i = c.loop-byte.byte-index in
    let e = hexadecimal_more c.args.word.now i c.loop-byte-test.true in
    record {
      small = omega (arith, next_power i, c.digit.ensures.small);
      value = rw (e, ← c.loop-byte.invariant.value, c.digit.ensures.value) refl;
    }
