use Rattle.metron.proofs.Readings.{one_count, one_reading}
use Rattle.metron.proofs.laws.one_answer_of_runs.Goals as goal

pub returns : goal.returns
returns c = record {
  first = λ call. c.one_answer_of_words.ensures.fault call.policies call.words;
  command = λ call. c.one_answer_of_words.ensures.command call.policies call.words;
  not_both = λ call n run is has. c.one_answer_of_words.ensures.either call.policies call.words run n has is;
  unfit = c.one_answer_of_bindings.ensures.unfit;
  unbound = c.one_answer_of_bindings.ensures.unbound;
  bound = c.one_answer_of_bindings.ensures.bound;
  not_unfit = λ bindings devices n bound is are. c.one_answer_of_bindings.ensures.bound_or_unfit bindings devices bound n are is;
  not_unbound = λ bindings devices n bound is are. c.one_answer_of_bindings.ensures.bound_or_unbound bindings devices bound n are is;
  not_unfit_unbound = c.one_answer_of_bindings.ensures.unfit_or_unbound;
  classes = one_count c.classes_are_counted.ensures;
  reading = one_reading c.one_reading.ensures (record { chain = c.one_answer.ensures.chain; either = c.one_answer.ensures.either; refusal = c.one_answer.ensures.refusal }) c.classes_are_counted.ensures;
}
