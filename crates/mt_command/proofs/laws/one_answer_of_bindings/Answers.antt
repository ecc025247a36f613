use Rattle.mt_command.proofs.OneAnswer.{one_bound, one_unfit, one_unbound, unfit_or_fit, bound_or_unbound}
use Rattle.mt_command.proofs.laws.one_answer_of_bindings.Goals as goal

pub returns : goal.returns
returns c = record {
  bound = one_bound;
  unfit = one_unfit;
  unbound = one_unbound;
  bound_or_unfit = λ bindings devices b n h u. unfit_or_fit bindings devices n u h.fit;
  bound_or_unbound = bound_or_unbound;
  unfit_or_unbound = λ bindings devices n m u v. unfit_or_fit bindings devices n u v.fit;
}
