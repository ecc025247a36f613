use Rattle.mt_pattern.proofs.Faults.{refused_is_wrong, wrong_is_refused}
use Rattle.mt_pattern.proofs.laws.refused_where_wrong.Goals as goal

pub returns : goal.returns
returns c = λ text at. (λ e. refused_is_wrong text at e, λ w. wrong_is_refused text at w)
