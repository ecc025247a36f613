-- Where a text stops to be the front of a configuration.
use Rattle.std.specs.Prelude.{◌≡◌, ◌⊎◌, ℕ, List, [], ◌∷◌, ◌++◌}
use Rattle.mt_syntax.specs.declared.token.TokenKind.{TokenKind}
use Rattle.mt_syntax.specs.declared.token.TokenKind.TheVariants as kinds
use Rattle.mt_syntax.specs.declared.token.Token.{Token}
use Rattle.mt_syntax.specs.declared.fault.ClickFault.{ClickFault}
use Rattle.mt_syntax.specs.declared.fault.Fault.{Fault}
use Rattle.mt_syntax.specs.Reading.{fault_at}
use Rattle.mt_syntax.specs.Spelled.{AreTokens}
use Rattle.mt_syntax.specs.Grammar.{OuterTree, print_config, IsConfig}
use Rattle.mt_syntax.specs.Position.{no_memory, located}

-- some configuration begins with these tokens
abbrev pub Begins : List Token → Type 0
Begins front = (rest : List Token) × (tree : List OuterTree) × IsConfig tree × (print_config tree ≡ front ++ rest)

-- none does
abbrev pub BeginsNone : List Token → Type 0
BeginsNone front = Begins front → ⊥

-- no configuration is these tokens
abbrev pub IsNone : List Token → Type 0
IsNone front = (tree : List OuterTree) → IsConfig tree → print_config tree ≡ front → ⊥

-- With a token it goes wrong: the text ends where no configuration does, or no configuration goes on
-- with the token.
abbrev pub GoesWrong : TokenKind → List Token → Token → Type 0
GoesWrong kinds.Finish front t = IsNone front
GoesWrong _ front t = BeginsNone (front ++ t ∷ [])

-- A fault stands at the first token with which what precedes begins no configuration.
abbrev pub StopsAt : List Token → Fault → Type 0
StopsAt tokens f =
    (front : List Token) × (t : Token) × (back : List Token) × (tokens ≡ front ++ t ∷ back) × Begins front × GoesWrong t.kind front t × (f ≡ fault_at t)

-- so for the tokens of a text
abbrev pub TextStopsAt : List ℕ → Fault → Type 0
TextStopsAt text f = (tokens : List Token) × AreTokens 0 text tokens × StopsAt tokens f

-- Memory ran out, or a fault of reading is told with its line and column.
abbrev pub TellsStop : List ℕ → ClickFault → Type 0
TellsStop text e = (e ≡ no_memory) ⊎ ((f : Fault) × TextStopsAt text f × (e ≡ located text f))
