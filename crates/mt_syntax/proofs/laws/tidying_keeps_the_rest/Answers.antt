use Rattle.mt_syntax.proofs.ArgumentsReadBack.{tidying_keeps, tidying_again}
use Rattle.mt_syntax.proofs.laws.tidying_keeps_the_rest.Goals as goal

pub returns-clause-solid : goal.returns-clause-solid
returns-clause-solid c = tidying_keeps

pub returns-clause-again : goal.returns-clause-again
returns-clause-again c = tidying_again
