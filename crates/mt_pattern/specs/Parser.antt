-- Reading a pattern token by token: what is read so far is what is open, the last first, and behind it
-- a test that is being read or a pattern that is whole. `not` binds tighter than `and`, and `and`
-- tighter than `or`; both join from left to right.
use Rattle.std.specs.Prelude.{ℕ, List, [], ◌∷◌, length, Option, Some, None, Result, Ok, Err}
use Rattle.mt_pattern.specs.declared.pattern.Pattern.{Pattern}
use Rattle.mt_pattern.specs.declared.pattern.Pattern.TheVariants.{Not, And, Or}
use Rattle.mt_pattern.specs.declared.keyword.Keyword.{Keyword}
use Rattle.mt_pattern.specs.declared.keyword.Keyword.TheVariants as word
use Rattle.mt_pattern.specs.declared.test.Stage.{Stage}
use Rattle.mt_pattern.specs.declared.test.Stage.TheVariants.{Start}
use Rattle.mt_pattern.specs.declared.test.More.TheVariants.{Nothing}
use Rattle.mt_pattern.specs.declared.test.Next.{Next}
use Rattle.mt_pattern.specs.declared.test.Next.TheVariants as next
use Rattle.mt_pattern.specs.declared.stack.Open.{Open}
use Rattle.mt_pattern.specs.declared.stack.Open.TheVariants.{Group, Negation, Both, Either}
use Rattle.mt_pattern.specs.declared.parser.Closed.{Closed}
use Rattle.mt_pattern.specs.declared.parser.Reading.{Reading}
use Rattle.mt_pattern.specs.declared.parser.Reading.TheVariants.{Partial, Whole}
use Rattle.mt_pattern.specs.declared.parser.Parser.{Parser}
use Rattle.mt_pattern.specs.Lexis.{Token, tokens_of}
use Rattle.mt_pattern.specs.Keyword.{keyword_of}
use Rattle.mt_pattern.specs.Test.{next_word, further_word}
use Rattle.mt_pattern.specs.Shape.{pattern_of}

abbrev pub closed : List Open → Pattern → Closed
closed stack pattern = record { stack = stack; pattern = pattern }

abbrev pub parser : List Open → Reading → Parser
parser stack reading = record { stack = stack; reading = reading }

-- nothing is read
abbrev pub start : Parser
start = parser [] (Partial Start)

-- a pattern, joined to the negations and the `and` before it
unfoldable pub tight : List Open → Pattern → Closed
tight [] pattern = closed [] pattern
tight (Group ∷ rest) pattern = closed (Group ∷ rest) pattern
tight (Negation ∷ rest) pattern = tight rest (Not pattern)
tight (Both left ∷ rest) pattern = tight rest (And left pattern)
tight (Either left ∷ rest) pattern = closed (Either left ∷ rest) pattern

-- a pattern, joined to the `or` before it
unfoldable pub to_either : List Open → Pattern → Closed
to_either [] pattern = closed [] pattern
to_either (Group ∷ rest) pattern = closed (Group ∷ rest) pattern
to_either (Negation ∷ rest) pattern = closed (Negation ∷ rest) pattern
to_either (Both left ∷ rest) pattern = closed (Both left ∷ rest) pattern
to_either (Either left ∷ rest) pattern = closed rest (Or left pattern)

-- a pattern, joined to all before it up to the last group that is open
unfoldable pub loose : List Open → Pattern → Closed
loose stack pattern = to_either (tight stack pattern).stack (tight stack pattern).pattern

-- `(` and `not` open where nothing of a test is read
unfoldable pub opens : Stage → Keyword → Option Open
opens Start word.Open = Some Group
opens Start word.Not = Some Negation
opens _ _ = None

abbrev pub opened : List Open → Open → Option Parser
opened stack last = Some (parser (last ∷ stack) (Partial Start))

abbrev pub tested : List Open → Next → Option Parser
tested stack next.Wrong = None
tested stack (next.On stage) = Some (parser stack (Partial stage))
tested stack (next.Whole test more) = Some (parser stack (Whole (pattern_of test) more))

abbrev pub opened_or : List Open → Option Open → Option Parser → Option Parser
opened_or stack None other = other
opened_or stack (Some last) other = opened stack last

-- the next token where a test is being read
unfoldable pub partial_step : List Open → Stage → Keyword → List ℕ → Option Parser
partial_step stack stage keyword word = opened_or stack (opens stage keyword) (tested stack (next_word stage keyword word))

-- the end of the last group
unfoldable pub group : List Open → Pattern → Option Parser
group [] pattern = None
group (Group ∷ rest) pattern = Some (parser rest (Whole pattern Nothing))
group (Negation ∷ rest) pattern = None
group (Both left ∷ rest) pattern = None
group (Either left ∷ rest) pattern = None

-- the next token behind a pattern that is whole
unfoldable pub joined : List Open → Pattern → Keyword → Option Parser
joined stack pattern word.And = opened (tight stack pattern).stack (Both (tight stack pattern).pattern)
joined stack pattern word.Or = opened (loose stack pattern).stack (Either (loose stack pattern).pattern)
joined stack pattern word.Close = group (loose stack pattern).stack (loose stack pattern).pattern
joined stack pattern _ = None

abbrev pub gone_on : List Open → Option Stage → Option Parser → Option Parser
gone_on stack None other = other
gone_on stack (Some stage) other = Some (parser stack (Partial stage))

abbrev pub reading_step : List Open → Reading → Keyword → List ℕ → Option Parser
reading_step stack (Partial stage) keyword word = partial_step stack stage keyword word
reading_step stack (Whole pattern more) keyword word = gone_on stack (further_word more keyword) (joined stack pattern keyword)

-- what is read with one more token, none where no pattern begins so
unfoldable pub step_of : Parser → Keyword → List ℕ → Option Parser
step_of before keyword word = reading_step before.stack before.reading keyword word

abbrev pub alone : List Open → Pattern → Option Pattern
alone [] pattern = Some pattern
alone (_ ∷ _) pattern = None

abbrev pub finished : List Open → Reading → Option Pattern
finished stack (Partial stage) = None
finished stack (Whole pattern more) = alone (loose stack pattern).stack (loose stack pattern).pattern

-- the pattern that is read, none where the text ends too early
unfoldable pub finish_of : Parser → Option Pattern
finish_of last = finished last.stack last.reading

abbrev pub ended : Option Pattern → ℕ → Result Pattern ℕ
ended None end = Err end
ended (Some pattern) end = Ok pattern

abbrev pub step_or_fault : Option Parser → ℕ → (Parser → Result Pattern ℕ) → Result Pattern ℕ
step_or_fault None at go_on = Err at
step_or_fault (Some after) at go_on = go_on after

-- what the tokens are behind what is read: a pattern, or the offset of the first token that goes on none
unfoldable pub run : Parser → List Token → ℕ → Result Pattern ℕ
run before [] end = ended (finish_of before) end
run before (token ∷ rest) end = step_or_fault (step_of before (keyword_of token.word) token.word) token.at (λ after. run after rest end)

-- what a text is: a pattern, or the offset at which it goes wrong
unfoldable pub parse_of : List ℕ → Result Pattern ℕ
parse_of text = run start (tokens_of text) (length text)
