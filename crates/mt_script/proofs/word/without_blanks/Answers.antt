use Rattle.std.proofs.lemmas.List.{take_rest}
use Rattle.mt_script.proofs.WordsFound.{blanks_off, solid_left}
use Rattle.mt_script.proofs.word.without_blanks.Goals as goal

pub returns-clause-same : goal.returns-clause-same
returns-clause-same c = rw (take_rest c.args.line.now c.blanks.result, c.blanks.ensures.value) (blanks_off c.args.line.now)

pub returns-clause-solid : goal.returns-clause-solid
returns-clause-solid c = rw (take_rest c.args.line.now c.blanks.result, c.blanks.ensures.value) (solid_left c.args.line.now)
