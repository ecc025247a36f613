use Rattle.std.proofs.Common.{sym, arith}
use Rattle.mt_script.proofs.Numerals.{below_limit}
use Rattle.mt_script.proofs.argument.short_number.Goals as goal

pub overflow_cast-result : goal.overflow_cast-result
overflow_cast-result c =
    let word = c.args.word.now in
    let found = c.in_ok-found.found in
    let below = below_limit word found ((c.decimal_is_numeral.ensures word found).0 (sym c.in_ok-found.ensures)) in
    omega (arith, below)
