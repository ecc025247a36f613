use Rattle.mt_syntax.proofs.ReadDerives.{derived_is_read, read_is_derived}
use Rattle.mt_syntax.proofs.FaultStops.{text_stops}
use Rattle.mt_syntax.proofs.DerivedTokens.{derived_tokens, derived_named, derived_closed, text_fails}
use Rattle.mt_syntax.proofs.TokensAscend.{ascending}
use Rattle.mt_syntax.proofs.ArgumentsWhole.{few_arguments, arguments_whole}
use Rattle.mt_syntax.proofs.laws.texts_are_read.Goals as goal

pub returns : goal.returns
returns c = record {
  read_is_derived = read_is_derived;
  derived_is_read = derived_is_read;
  text_stops = text_stops;
  text_fails = text_fails;
  ascending = ascending;
  derived_tokens = derived_tokens;
  derived_named = derived_named;
  derived_closed = derived_closed;
  few_arguments = few_arguments;
  arguments_whole = arguments_whole;
}
