-- A text derives a tree of the grammar: it is tokens, and these are printed for the tree.
use Rattle.std.specs.Prelude.{ℕ, List}
use Rattle.mt_syntax.specs.declared.token.Token.{Token}
use Rattle.mt_syntax.specs.Spelled.{AreTokens}
use Rattle.mt_syntax.specs.Grammar.{OuterTree, IsConfig, ArePrinted}

pub record Derives (text : List ℕ) (tree : List OuterTree) : Type 0 where
  pub config : IsConfig tree
  pub tokens : List Token
  pub are : AreTokens 0 text tokens
  pub printed : ArePrinted tree tokens
