-- The grammar of patterns, level by level:
--     pattern = both { or both }      both = one { and one }      one = not one | ( pattern ) | test
-- A list of tokens is spelled in it where there is a derivation, which also gives the pattern.
use Rattle.std.specs.Prelude.{◌≡◌, ℕ, List, [], ◌∷◌, ◌++◌, length}
use Rattle.mt_pattern.specs.declared.pattern.Pattern.{Pattern}
use Rattle.mt_pattern.specs.declared.pattern.Pattern.TheVariants as pattern
use Rattle.mt_pattern.specs.declared.keyword.Keyword.TheVariants as word
use Rattle.mt_pattern.specs.declared.test.Test.{Test}
use Rattle.mt_pattern.specs.Lexis.{Token, tokens_of, AreTokens}
use Rattle.mt_pattern.specs.Keyword.{keyword_of}
use Rattle.mt_pattern.specs.Forms.{IsTest}
use Rattle.mt_pattern.specs.Shape.{pattern_of}

pub data Level : Type 0 where
  One : Level
  Both : Level
  Either : Level

-- these tokens are spelled at that level, and stand for that pattern
pub data Spells : Level → List Token → Pattern → Type 0 where
  tested : (tokens : List Token) (found : Test) → IsTest tokens found → Spells One tokens (pattern_of found)
  negation : (sign : Token) (tokens : List Token) (p : Pattern) → keyword_of sign.word ≡ word.Not → Spells One tokens p → Spells One (sign ∷ tokens) (pattern.Not p)
  group : (opening closing : Token) (tokens : List Token) (p : Pattern) → keyword_of opening.word ≡ word.Open → keyword_of closing.word ≡ word.Close
      → Spells Either tokens p → Spells One (opening ∷ (tokens ++ closing ∷ [])) p
  one : (tokens : List Token) (p : Pattern) → Spells One tokens p → Spells Both tokens p
  and : (sign : Token) (before after : List Token) (p q : Pattern) → keyword_of sign.word ≡ word.And
      → Spells Both before p → Spells One after q → Spells Both (before ++ sign ∷ after) (pattern.And p q)
  both : (tokens : List Token) (p : Pattern) → Spells Both tokens p → Spells Either tokens p
  or : (sign : Token) (before after : List Token) (p q : Pattern) → keyword_of sign.word ≡ word.Or
      → Spells Either before p → Spells Both after q → Spells Either (before ++ sign ∷ after) (pattern.Or p q)

-- these tokens are a pattern
abbrev pub IsSpelled : List Token → Pattern → Type 0
IsSpelled tokens p = Spells Either tokens p

-- this text is that pattern
abbrev pub IsPattern : List ℕ → Pattern → Type 0
IsPattern text p = IsSpelled (tokens_of text) p

-- these tokens begin a pattern: with some behind them, each a token of a text, they are one
abbrev pub Begins : List Token → Type 0
Begins tokens = (more : List Token) × (p : Pattern) × AreTokens more × IsSpelled (tokens ++ more) p

-- where tokens go wrong, up to their end: at the first with which what precedes begins no pattern, whatever
-- follows, or at the end, where they begin a pattern and are none
pub data GoesWrong (tokens : List Token) (end : ℕ) : ℕ → Type 0 where
  at_token : (before after : List Token) (token : Token) → tokens ≡ before ++ token ∷ after
      → Begins before → ((more : List Token) (p : Pattern) → IsSpelled (before ++ token ∷ more) p → ⊥) → GoesWrong tokens end token.at
  at_end : Begins tokens → ((p : Pattern) → IsSpelled tokens p → ⊥) → GoesWrong tokens end end

-- the offset at which this text goes wrong
abbrev pub IsWrongAt : List ℕ → ℕ → Type 0
IsWrongAt text at = GoesWrong (tokens_of text) (length text) at
