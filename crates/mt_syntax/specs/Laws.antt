-- The laws of texts and their trees, which the proofs of crates above take from `laws::texts_are_read`.
use Rattle.std.specs.Prelude.{◌≡◌, ◌≤◌, ℕ, List, [], ◌∷◌, ◌++◌, length, Ok, Err}
use Rattle.std.specs.List.{Contains}
use Rattle.mt_syntax.specs.declared.fault.Fault.{Fault}
use Rattle.mt_syntax.specs.declared.phrase.Phrase.{Phrase}
use Rattle.mt_syntax.specs.declared.replacing.Binding.{Binding}
use Rattle.mt_syntax.specs.declared.token.Token.{Token}
use Rattle.mt_syntax.specs.declared.token.TokenKind.TheVariants as kinds
use Rattle.mt_syntax.specs.Arguments.{separated, shown}
use Rattle.mt_syntax.specs.Ascends.{Ascends}
use Rattle.mt_syntax.specs.Balance.{AreClosed, AreWhole, AreWholeBindings, IsClosed}
use Rattle.mt_syntax.specs.Derives.{Derives}
use Rattle.mt_syntax.specs.Grammar.{OuterTree, config_phrases, print_config}
use Rattle.mt_syntax.specs.Reading.{phrases_in, word}
use Rattle.mt_syntax.specs.Replacing.{replaced_in}
use Rattle.mt_syntax.specs.Spelled.{IsIdentifier}
use Rattle.mt_syntax.specs.Stopping.{TextStopsAt}
use Rattle.mt_syntax.specs.Tokens.{tokens_in}
use Rattle.mt_syntax.specs.Words.{bytes_of, within}

pub record TextLaws : Type 0 where
  -- the phrases that are read of a text, and its tree
  pub read_is_derived : (text : List ℕ) (ps : List Phrase) → phrases_in text ≡ Ok ps → (tree : List OuterTree) × Derives text tree × (ps ≡ config_phrases tree)
  pub derived_is_read : (text : List ℕ) (tree : List OuterTree) → Derives text tree → phrases_in text ≡ Ok (config_phrases tree)
  -- where reading fails, and where a text stops to begin a configuration
  pub text_stops : (text : List ℕ) (f : Fault) → phrases_in text ≡ Err f → TextStopsAt text f
  pub text_fails : (text : List ℕ) (f : Fault) → TextStopsAt text f → phrases_in text ≡ Err f
  -- the tokens of a text: each begins before the later ones; those of its tree and the end of the text; names are
  -- identifiers; argument texts end at the `)` that matches
  pub ascending : (text : List ℕ) → Ascends (tokens_in text)
  pub derived_tokens : (text : List ℕ) (tree : List OuterTree) (d : Derives text tree) → tokens_in text ≡ print_config tree ++ d.printed.0 ∷ []
  pub derived_named : (text : List ℕ) (tree : List OuterTree) → Derives text tree → (t : Token) → Contains (print_config tree) t → t.kind ≡ kinds.Name → IsIdentifier (bytes_of text (word t))
  pub derived_closed : (text : List ℕ) (tree : List OuterTree) → Derives text tree → AreClosed text (print_config tree)
  -- arguments of a closed argument text with whole bindings in place of its parameters
  pub few_arguments : (bytes : List ℕ) (bindings : List Binding) → IsClosed bytes → AreWholeBindings bindings → length (separated (replaced_in bindings (shown (within bytes)))) ≤ length bytes
  pub arguments_whole : (bytes : List ℕ) (bindings : List Binding) → IsClosed bytes → AreWholeBindings bindings → AreWhole (separated (replaced_in bindings (shown (within bytes))))
