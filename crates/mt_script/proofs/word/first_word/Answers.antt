use Rattle.std.proofs.Common.{◌≡◌, ◌∙◌, sym, ◌<◌, length, arith}
use Rattle.std.proofs.lemmas.Bool.Decides.{nat_tests}
use Rattle.mt_script.proofs.WordsFound.{no_words, word_found}
use Rattle.mt_script.proofs.word.first_word.Goals as goal

pub returns-then-is_empty-clause-none : goal.returns-then-is_empty-clause-none
returns-then-is_empty-clause-none c =
    let empty : length c.without_blanks-line.result.now ≡ 0 = grind (arith, nat_tests) in
    sym c.without_blanks-line.ensures.same ∙ no_words c.without_blanks-line.result.now empty

pub returns-clause-word : goal.returns-clause-word
returns-clause-word c =
    let some : 0 < length c.without_blanks-line.result.now = grind (arith, nat_tests) in
    let found = word_found c.without_blanks-line.result.now c.word_length-end.result c.word_length-end.ensures.value (c.without_blanks-line.ensures.solid some) in
    sym c.without_blanks-line.ensures.same ∙ found.1
