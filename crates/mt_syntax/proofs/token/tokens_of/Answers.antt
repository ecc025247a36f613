use Rattle.mt_syntax.proofs.TokensSpelled.{found_are}
use Rattle.mt_syntax.proofs.TokensOnly.{found_only}
use Rattle.mt_syntax.proofs.TokensEndOnce.{found_end_once}
use Rattle.mt_syntax.proofs.token.tokens_of.Goals as goal

pub returns-clause-spelled : goal.returns-clause-spelled
returns-clause-spelled c = found_are c.args.text.now c.scan.result c.scan.ensures

pub returns-clause-only : goal.returns-clause-only
returns-clause-only c = found_only c.args.text.now c.scan.result c.scan.ensures

pub returns-clause-ends : goal.returns-clause-ends
returns-clause-ends c = found_end_once c.args.text.now c.scan.result c.scan.ensures
