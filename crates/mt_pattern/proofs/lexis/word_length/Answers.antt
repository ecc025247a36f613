use Rattle.std.proofs.Common.{◌≡◌, false, drop, sym, ap, ◌∙◌, arith}
use Rattle.std.proofs.lemmas.List.{take_rest}
use Rattle.mt_pattern.specs.Lexis.{ends_word_at}
use Rattle.mt_pattern.proofs.Words.{word_more}
use Rattle.mt_pattern.proofs.lexis.word_length.Goals as goal

pub loop-offset-preserved : goal.loop-offset-preserved
loop-offset-preserved c =
    let text = c.args.text.now in
    let offset = c.loop-offset.offset in
    let goes_on : ends_word_at (drop offset text) ≡ false = ap ends_word_at (sym (take_rest text offset)) ∙ (sym c.ends_word.ensures ∙ c.if-not-ends_word.true) in
    (omega arith, omega (arith, word_more text offset goes_on c.loop-offset-test.true, c.loop-offset.invariant.1))
