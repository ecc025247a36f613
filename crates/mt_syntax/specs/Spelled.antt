-- A text as its tokens, with white space and comments before each. Each text has one list of tokens.
use Rattle.std.specs.Prelude.{◌≡◌, ◌⊎◌, ℕ, suc, ◌+◌, ◌<◌, ◌≤◌, List, [], ◌∷◌, ◌++◌, length, codes, Bool, false, not, IsTrue}
use Rattle.std.specs.List.{AllByRecursion}
use Rattle.mt_syntax.specs.declared.token.TokenKind.{TokenKind}
use Rattle.mt_syntax.specs.declared.token.TokenKind.TheVariants as kinds
use Rattle.mt_syntax.specs.declared.token.Token.{Token}
use Rattle.mt_text.specs.Byte.{is_white, is_letter, is_digit, is_name_byte}
use Rattle.mt_syntax.specs.Piece.{number_of}
use Rattle.mt_syntax.specs.Tokens.{is_name, token}

-- no byte that passes a test stands in front
abbrev pub Stops : (ℕ → Bool) → List ℕ → Type 0
Stops test [] = Unit {0}
Stops test (b ∷ bs) = IsTrue (not (test b))

-- the text ends, or a line feed stands in front
abbrev pub EndsLine : List ℕ → Type 0
EndsLine [] = Unit {0}
EndsLine (b ∷ bs) = b ≡ 10

-- a comment from `//` up to before the end of its line
abbrev pub IsLineComment : List ℕ → List ℕ → Type 0
IsLineComment bytes rest = (inner : List ℕ) × (bytes ≡ 47 ∷ 47 ∷ inner) × AllByRecursion (λ b. b ≡ 10 → ⊥) inner × EndsLine rest

-- `*/` stands nowhere in these bytes
abbrev pub HasNoClose : List ℕ → Type 0
HasNoClose bytes = (front back : List ℕ) → bytes ≡ front ++ 42 ∷ 47 ∷ back → ⊥

-- a comment from `/*` to the first `*/` behind it
abbrev pub IsBlockComment : List ℕ → Type 0
IsBlockComment bytes = (inner : List ℕ) × (bytes ≡ 47 ∷ 42 ∷ (inner ++ 42 ∷ 47 ∷ [])) × HasNoClose (inner ++ 42 ∷ [])

-- A comment and what stands behind it.
abbrev pub IsComment : List ℕ → List ℕ → Type 0
IsComment bytes rest = IsLineComment bytes rest ⊎ IsBlockComment bytes

-- a byte of white space
abbrev pub IsWhite : List ℕ → Type 0
IsWhite bytes = (b : ℕ) × (bytes ≡ b ∷ []) × IsTrue (is_white b)

-- what may stand between tokens, and what stands behind it
abbrev pub IsBlank : List ℕ → List ℕ → Type 0
IsBlank bytes rest = IsWhite bytes ⊎ IsComment bytes rest

-- a comment opens, closed or not
abbrev pub OpensComment : List ℕ → Type 0
OpensComment bytes = (second : ℕ) × (rest : List ℕ) × (bytes ≡ 47 ∷ second ∷ rest) × ((second ≡ 47) ⊎ (second ≡ 42))

-- Bytes up to the `)` that matches a `(` before them, with so many parentheses open within, and what stands
-- behind that `)`. A parenthesis in a comment does not count.
pub data RunsToClose : ℕ → List ℕ → List ℕ → Type 0 where
  ends : (rest : List ℕ) → RunsToClose 0 (41 ∷ []) rest
  falls : (depth : ℕ) (bytes rest : List ℕ) → RunsToClose depth bytes rest → RunsToClose (suc depth) (41 ∷ bytes) rest
  rises : (depth : ℕ) (bytes rest : List ℕ) → RunsToClose (suc depth) bytes rest → RunsToClose depth (40 ∷ bytes) rest
  passes : (depth b : ℕ) (bytes rest : List ℕ) → (b ≡ 40 → ⊥) → (b ≡ 41 → ⊥) → (OpensComment (b ∷ (bytes ++ rest)) → ⊥) → RunsToClose depth bytes rest → RunsToClose depth (b ∷ bytes) rest
  comment : (depth : ℕ) (front bytes rest : List ℕ) → IsComment front (bytes ++ rest) → RunsToClose depth bytes rest → RunsToClose depth (front ++ bytes) rest

-- Bytes of which none above 126 stands outside comments, and what stands behind them.
pub data IsPlain : List ℕ → List ℕ → Type 0 where
  nothing : (rest : List ℕ) → IsPlain [] rest
  byte : (b : ℕ) (bytes rest : List ℕ) → b ≤ 126 → (OpensComment (b ∷ (bytes ++ rest)) → ⊥) → IsPlain bytes rest → IsPlain (b ∷ bytes) rest
  comment : (front bytes rest : List ℕ) → IsComment front (bytes ++ rest) → IsPlain bytes rest → IsPlain (front ++ bytes) rest

-- an argument text is cut before its first byte above 126 outside comments
abbrev pub IsCutOff : List ℕ → Type 0
IsCutOff [] = Unit {0}
IsCutOff (b ∷ bs) = 126 < b

-- Behind its `(`, an argument text runs to the matching `)`, or stops where it is cut: then more of it stands
-- behind, and it does close.
abbrev pub IsArgumentText : List ℕ → List ℕ → Type 0
IsArgumentText inner rest = (more : List ℕ) × (behind : List ℕ) × (rest ≡ more ++ behind) × RunsToClose 0 (inner ++ more) behind × IsPlain inner rest × IsCutOff more

-- an identifier
abbrev pub IsIdentifier : List ℕ → Type 0
IsIdentifier [] = ⊥
IsIdentifier (b ∷ bs) = IsTrue (is_letter b) × AllByRecursion (λ c. IsTrue (is_name_byte c)) bs

-- An identifier does not end within a longer one.
abbrev pub IsWord : List ℕ → List ℕ → Type 0
IsWord bytes rest = IsIdentifier bytes × Stops is_name_byte rest

-- One to nine digits: fewer than nine do not end within a longer row of digits.
abbrev pub IsNumber : List ℕ → List ℕ → Type 0
IsNumber bytes rest = (0 < length bytes) × (length bytes ≤ 9) × AllByRecursion (λ c. IsTrue (is_digit c)) bytes × (length bytes < 9 → Stops is_digit rest)

-- The bytes of a token, and what stands behind it. An argument text may stand only behind a name, `named`.
abbrev pub IsToken : Bool → TokenKind → List ℕ → List ℕ → Type 0
IsToken named kinds.Name bytes rest = IsWord bytes rest × (bytes ≡ codes "elementclass" → ⊥)
IsToken named kinds.Keyword bytes rest = IsWord bytes rest × (bytes ≡ codes "elementclass")
IsToken named (kinds.Number n) bytes rest = IsNumber bytes rest × (n ≡ number_of bytes)
IsToken named kinds.Parameter bytes rest = (name : List ℕ) × (bytes ≡ 36 ∷ name) × IsWord name rest
IsToken named kinds.Arguments bytes rest = (inner : List ℕ) × (bytes ≡ 40 ∷ inner) × IsTrue named × IsArgumentText inner rest
IsToken named kinds.Colons bytes rest = bytes ≡ 58 ∷ 58 ∷ []
IsToken named kinds.Arrow bytes rest = bytes ≡ 45 ∷ 62 ∷ []
IsToken named kinds.LeftBracket bytes rest = bytes ≡ 91 ∷ []
IsToken named kinds.RightBracket bytes rest = bytes ≡ 93 ∷ []
IsToken named kinds.LeftBrace bytes rest = bytes ≡ 123 ∷ []
IsToken named kinds.RightBrace bytes rest = bytes ≡ 125 ∷ []
IsToken named kinds.Bar bytes rest = bytes ≡ 124 ∷ []
IsToken named kinds.Semicolon bytes rest = bytes ≡ 59 ∷ []
IsToken named kinds.Comma bytes rest = bytes ≡ 44 ∷ []
IsToken named kinds.Broken bytes rest = ⊥
IsToken named kinds.Finish bytes rest = ⊥

-- bytes that begin with no white space, no comment and no token
abbrev pub BeginsNothing : Bool → List ℕ → Type 0
BeginsNothing named bytes =
    (bytes ≡ [] → ⊥)
    × ((front rest : List ℕ) → bytes ≡ front ++ rest → IsBlank front rest → ⊥)
    × ((kind : TokenKind) (body rest : List ℕ) → bytes ≡ body ++ rest → IsToken named kind body rest → ⊥)

-- The text from a place on is these tokens; `named` says that a name stands before. The last token is the end
-- of the text, or the first place at which the text has no token.
pub data AreTokensBehind : Bool → ℕ → List ℕ → List Token → Type 0 where
  blank : (named : Bool) (at : ℕ) (front rest : List ℕ) (ts : List Token) → IsBlank front rest → AreTokensBehind named (at + length front) rest ts → AreTokensBehind named at (front ++ rest) ts
  next : (named : Bool) (at : ℕ) (kind : TokenKind) (body rest : List ℕ) (ts : List Token) → IsToken named kind body rest → AreTokensBehind (is_name kind) (at + length body) rest ts → AreTokensBehind named at (body ++ rest) (token kind at (at + length body) ∷ ts)
  broken : (named : Bool) (at : ℕ) (bytes : List ℕ) → BeginsNothing named bytes → AreTokensBehind named at bytes (token kinds.Broken at at ∷ [])
  finish : (named : Bool) (at : ℕ) → AreTokensBehind named at [] (token kinds.Finish at at ∷ [])

-- The text from a place on is these tokens.
abbrev pub AreTokens : ℕ → List ℕ → List Token → Type 0
AreTokens at bytes ts = AreTokensBehind false at bytes ts
