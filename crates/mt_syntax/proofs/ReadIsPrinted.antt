-- What is read is the phrases of a tree of the grammar.
use Rattle.std.proofs.Common.{◌≡◌, List, Result, Ok, Err, sym, ◌∙◌}
use Rattle.std.specs.Prelude.{IfOk}
use Rattle.std.specs.Global.{Vec}
use Rattle.mt_syntax.specs.declared.token.Token.{Token}
use Rattle.mt_syntax.specs.declared.phrase.Phrase.{Phrase}
use Rattle.mt_syntax.specs.declared.fault.Fault.{Fault}
use Rattle.mt_syntax.specs.declared.fault.ReadError.{ReadError}
use Rattle.mt_syntax.specs.Tokens.{EndOnce}
use Rattle.mt_syntax.specs.Reading.{Gives, phrases_of_tokens}
use Rattle.mt_syntax.specs.Grammar.{OuterTree, IsConfig, ArePrinted, config_phrases}
use Rattle.mt_syntax.proofs.ConfigPrinted.{printed_is_read}
use Rattle.mt_syntax.proofs.FaultStops.{read_is_whole}

pub same_phrases : (read : Result (List Phrase) Fault) (ps qs : List Phrase) → read ≡ Ok ps → read ≡ Ok qs → ps ≡ qs
same_phrases read ps qs e f = let g : Ok ps ≡ Ok qs = sym e ∙ f in cc

pub read_is_printed : (tokens : List Token) (ps : List Phrase) → EndOnce tokens → phrases_of_tokens tokens ≡ Ok ps → (tree : List OuterTree) × IsConfig tree × ArePrinted tree tokens × (ps ≡ config_phrases tree)
read_is_printed tokens ps once e =
    let w = read_is_whole tokens ps once e in
    (w.0, w.1, w.2, same_phrases (phrases_of_tokens tokens) ps (config_phrases w.0) e (printed_is_read w.0 tokens w.1 w.2))

pub given_is_printed : (tokens : List Token) (r : Result (Vec Phrase) ReadError) → Gives (λ v. v.items) r (phrases_of_tokens tokens) → EndOnce tokens
    → IfOk r (λ v. (tree : List OuterTree) × IsConfig tree × ArePrinted tree tokens × (v.items ≡ config_phrases tree))
given_is_printed tokens (Ok v) h once = read_is_printed tokens v.items once h
given_is_printed tokens (Err e) h once = tt
