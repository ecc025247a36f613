use Rattle.std.proofs.Common.{List, Result, subst}
use Rattle.mt_syntax.specs.declared.fault.Fault.{Fault}
use Rattle.mt_syntax.specs.declared.phrase.Phrase.{Phrase}
use Rattle.mt_syntax.specs.Reading.{Gives}
use Rattle.mt_syntax.proofs.ConfigPrinted.{printed_is_read}
use Rattle.mt_syntax.proofs.ReadIsPrinted.{given_is_printed}
use Rattle.mt_syntax.proofs.syntax.phrases_of.Goals as goal

pub returns-clause-printed : goal.returns-clause-printed
returns-clause-printed c = λ tree h p.
    subst (λ (total : Result (List Phrase) Fault). Gives (λ v. v.items) c.collect.result total) (printed_is_read tree c.args.tokens.now h p) c.collect.ensures

pub returns-clause-grammar : goal.returns-clause-grammar
returns-clause-grammar c = λ once. given_is_printed c.args.tokens.now c.collect.result c.collect.ensures once
