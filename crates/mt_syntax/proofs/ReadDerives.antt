-- What is read of a text derives a tree of the grammar, and what derives a tree is read as it.
use Rattle.std.proofs.Common.{◌≡◌, ℕ, List, Result, Ok, Err, sym, subst, ◌∙◌}
use Rattle.mt_syntax.specs.declared.fault.Fault.{Fault}
use Rattle.mt_syntax.specs.declared.phrase.Phrase.{Phrase}
use Rattle.mt_syntax.specs.Tokens.{tokens_in}
use Rattle.mt_syntax.specs.Reading.{phrases_in}
use Rattle.mt_syntax.specs.Grammar.{OuterTree, ArePrinted, config_phrases}
use Rattle.mt_syntax.specs.Derives.{Derives}
use Rattle.mt_syntax.proofs.TokensSpelled.{text_is_tokens}
use Rattle.mt_syntax.proofs.TokensOnly.{text_has_only}
use Rattle.mt_syntax.proofs.TokensEndOnce.{tokens_end_once}
use Rattle.mt_syntax.proofs.ConfigPrinted.{printed_is_read}
use Rattle.mt_syntax.proofs.ReadIsPrinted.{same_phrases, read_is_printed}

-- what is read derives a tree
pub read_is_derived : (text : List ℕ) (ps : List Phrase) → phrases_in text ≡ Ok ps → (tree : List OuterTree) × Derives text tree × (ps ≡ config_phrases tree)
read_is_derived text ps e =
    let r = read_is_printed (tokens_in text) ps (tokens_end_once text) e in
    (r.0, record { config = r.1; tokens = tokens_in text; are = text_is_tokens text; printed = r.2 }, r.3)

-- what derives a tree is read as its phrases
pub derived_is_read : (text : List ℕ) (tree : List OuterTree) → Derives text tree → phrases_in text ≡ Ok (config_phrases tree)
derived_is_read text tree d = printed_is_read tree (tokens_in text) d.config (subst (ArePrinted tree) (text_has_only text d.tokens d.are) d.printed)

-- what is read is the phrases of each tree that the text derives
pub derived_phrases : (text : List ℕ) (ps : List Phrase) → phrases_in text ≡ Ok ps → (tree : List OuterTree) → Derives text tree → ps ≡ config_phrases tree
derived_phrases text ps e tree d = same_phrases (phrases_in text) ps (config_phrases tree) e (derived_is_read text tree d)

no_fault : (read : Result (List Phrase) Fault) (ps : List Phrase) (f : Fault) → read ≡ Ok ps → read ≡ Err f → ⊥
no_fault read ps f e g = let h : Ok ps ≡ Err f = sym e ∙ g in absurd cc

-- a text with a fault derives no tree
pub none_derived : (text : List ℕ) (f : Fault) → phrases_in text ≡ Err f → (tree : List OuterTree) → Derives text tree → ⊥
none_derived text f e tree d = no_fault (phrases_in text) (config_phrases tree) f (derived_is_read text tree d) e
