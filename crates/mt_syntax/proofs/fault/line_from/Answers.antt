use Rattle.std.proofs.Common.{arith}
use Rattle.mt_syntax.proofs.LinesCounted.{line_more}
use Rattle.mt_syntax.proofs.fault.line_from.Goals as goal

pub returns-then-at-text : goal.returns-then-at-text
returns-then-at-text c = let more = line_more c.args.text.now c.args.before c.args.at c.if-before-at.true in omega (arith, more, c.line_feeds.ensures, c.requires.known)
