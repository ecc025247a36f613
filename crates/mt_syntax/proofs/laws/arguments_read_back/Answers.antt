use Rattle.mt_syntax.proofs.ArgumentsReadBack.{arguments_read_back}
use Rattle.mt_syntax.proofs.laws.arguments_read_back.Goals as goal

pub returns : goal.returns
returns c = arguments_read_back
