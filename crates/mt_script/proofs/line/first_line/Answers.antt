use Rattle.mt_script.proofs.LinesFound.{line_found, no_line_found}
use Rattle.std.proofs.Common.{sym}
use Rattle.mt_script.proofs.line.first_line.Goals as goal

pub returns-in-Some-clause-lines : goal.returns-in-Some-clause-lines
returns-in-Some-clause-lines c = rw c.without_return.ensures (line_found c.args.text.now c.in-Some.end (sym c.in-Some.ensures.place))

pub returns-in-None-clause-lines : goal.returns-in-None-clause-lines
returns-in-None-clause-lines c = no_line_found c.args.text.now c.requires (sym c.in-None.ensures.place)
