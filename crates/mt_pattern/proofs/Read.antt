-- What the grammar spells is read as the pattern that it spells.
use Rattle.std.proofs.Common.{◌≡◌, ℕ, List, [], ◌∷◌, ◌++◌, length, Option, Some, None, Result, Ok, ◌⊎◌, inl, inr, refl, sym, ap, ◌∙◌, append_assoc}
use Rattle.std.proofs.lemmas.List.{append-nil}
use Rattle.mt_pattern.specs.declared.pattern.Pattern.{Pattern}
use Rattle.mt_pattern.specs.declared.pattern.Pattern.TheVariants as pattern
use Rattle.mt_pattern.specs.declared.keyword.Keyword.{Keyword}
use Rattle.mt_pattern.specs.declared.keyword.Keyword.TheVariants as word
use Rattle.mt_pattern.specs.declared.test.Stage.{Stage}
use Rattle.mt_pattern.specs.declared.test.Stage.TheVariants.{Start}
use Rattle.mt_pattern.specs.declared.test.More.{More}
use Rattle.mt_pattern.specs.declared.test.More.TheVariants.{Nothing, Tcp, Udp, Icmp}
use Rattle.mt_pattern.specs.declared.test.Test.{Test}
use Rattle.mt_pattern.specs.declared.test.Next.{Next}
use Rattle.mt_pattern.specs.declared.test.Next.TheVariants as next
use Rattle.mt_pattern.specs.declared.stack.Open.{Open}
use Rattle.mt_pattern.specs.declared.stack.Open.TheVariants as wait
use Rattle.mt_pattern.specs.declared.parser.Parser.{Parser}
use Rattle.mt_pattern.specs.declared.parser.Reading.{Reading}
use Rattle.mt_pattern.specs.declared.parser.Reading.TheVariants as reading
use Rattle.mt_pattern.specs.Lexis.{Token, tokens_of}
use Rattle.std.specs.Prelude.{option_map}
use Rattle.mt_pattern.specs.Keyword.{keyword_of}
use Rattle.mt_pattern.specs.Test.{next_word, first_word, further_word}
use Rattle.mt_pattern.specs.Shape.{pattern_of}
use Rattle.mt_pattern.specs.Parser.{parser, tight, to_either, loose, opens, group, joined, partial_step, step_of, finish_of, run, closed, opened, tested, gone_on, start, parse_of}
use Rattle.mt_pattern.specs.Grammar.{Level, One, Both, Either, Spells, tested as a_test, negation, group as grouped, one, and, both, or, IsSpelled, IsPattern}
use Rattle.mt_pattern.proofs.Walk.{Far, Partial, Whole, far, far_with, and_on, test_from, form_is_read}

-- what may follow a level: nothing, or one of these tokens
abbrev EndsBoth : Keyword → Type 0
EndsBoth keyword = (keyword ≡ word.Or) ⊎ (keyword ≡ word.Close)

abbrev EndsOne : Keyword → Type 0
EndsOne keyword = (keyword ≡ word.And) ⊎ EndsBoth keyword

abbrev AfterOne : List Token → Type 0
AfterOne [] = Unit {0}
AfterOne (token ∷ rest) = EndsOne (keyword_of token.word)

abbrev AfterEither : List Token → Type 0
AfterEither [] = Unit {0}
AfterEither (token ∷ rest) = EndsBoth (keyword_of token.word)

after_either_is_after_one : (rest : List Token) → AfterEither rest → AfterOne rest
after_either_is_after_one [] h = tt
after_either_is_after_one (token ∷ rest) h = inr h

-- a test goes on with no token that ends it
no_further : (more : More) (keyword : Keyword) → EndsOne keyword → further_word more keyword ≡ None
unfolding further_word
no_further Nothing keyword h = refl
no_further Tcp keyword (inl e) = rw e refl
no_further Tcp keyword (inr (inl e)) = rw e refl
no_further Tcp keyword (inr (inr e)) = rw e refl
no_further Udp keyword (inl e) = rw e refl
no_further Udp keyword (inr (inl e)) = rw e refl
no_further Udp keyword (inr (inr e)) = rw e refl
no_further Icmp keyword (inl e) = rw e refl
no_further Icmp keyword (inr (inl e)) = rw e refl
no_further Icmp keyword (inr (inr e)) = rw e refl

joined_alike : (s t : List Open) (p q : Pattern) (keyword : Keyword) → tight s p ≡ tight t q → EndsOne keyword → joined s p keyword ≡ joined t q keyword
unfolding joined loose
joined_alike s t p q keyword e (inl k) = rw (k, e) refl
joined_alike s t p q keyword e (inr (inl k)) = rw (k, e) refl
joined_alike s t p q keyword e (inr (inr k)) = rw (k, e) refl

-- a pattern behind a stack and another behind another are one where they join alike
alike : (s t : List Open) (p q : Pattern) (more further : More) (rest : List Token) (end : ℕ) → tight s p ≡ tight t q → AfterOne rest
    → run (parser s (reading.Whole p more)) rest end ≡ run (parser t (reading.Whole q further)) rest end
unfolding run finish_of step_of loose
alike s t p q more further [] end e h = rw e refl
alike s t p q more further (token ∷ rest) end e h =
    rw (no_further more (keyword_of token.word) h, no_further further (keyword_of token.word) h, joined_alike s t p q (keyword_of token.word) e h) refl

joined_loosely : (s t : List Open) (p q : Pattern) (keyword : Keyword) → loose s p ≡ loose t q → EndsBoth keyword → joined s p keyword ≡ joined t q keyword
unfolding joined
joined_loosely s t p q keyword e (inl k) = rw (k, e) refl
joined_loosely s t p q keyword e (inr k) = rw (k, e) refl

loosely_alike : (s t : List Open) (p q : Pattern) (more further : More) (rest : List Token) (end : ℕ) → loose s p ≡ loose t q → AfterEither rest
    → run (parser s (reading.Whole p more)) rest end ≡ run (parser t (reading.Whole q further)) rest end
unfolding run finish_of step_of
loosely_alike s t p q more further [] end e h = rw e refl
loosely_alike s t p q more further (token ∷ rest) end e h =
    rw (no_further more (keyword_of token.word) (inr h), no_further further (keyword_of token.word) (inr h), joined_loosely s t p q (keyword_of token.word) e h) refl

-- a test

abbrev reading_of : Far → Reading
reading_of (Partial stage) = reading.Partial stage
reading_of (Whole found more) = reading.Whole (pattern_of found) more

opens_or_wrong : (stage : Stage) (keyword : Keyword) (spelled : List ℕ) → (next_word stage keyword spelled ≡ next.Wrong) ⊎ (opens stage keyword ≡ None)
unfolding opens next_word first_word
opens_or_wrong Start word.Open spelled = inl refl
opens_or_wrong Start word.Not spelled = inl refl
opens_or_wrong _ _ spelled = inr refl

far_tested : (s : List Open) (made : Next) (after : Far) → far made ≡ Some after → tested s made ≡ Some (parser s (reading_of after))
far_tested s next.Wrong after e = absurd cc
far_tested s (next.On stage) after e = let i : Partial stage ≡ after = cc in ap (λ at. Some (parser s (reading_of at))) i
far_tested s (next.Whole found more) after e = let i : Whole found more ≡ after = cc in ap (λ at. Some (parser s (reading_of at))) i

gone_far : (s : List Open) (stage : Option Stage) (other : Option Parser) (after : Far) → option_map (λ p. Partial p) stage ≡ Some after → gone_on s stage other ≡ Some (parser s (reading_of after))
gone_far s None other after e = absurd cc
gone_far s (Some stage) other after e = let i : Partial stage ≡ after = cc in ap (λ at. Some (parser s (reading_of at))) i

partial_far : (s : List Open) (stage : Stage) (keyword : Keyword) (spelled : List ℕ) (after : Far) → far (next_word stage keyword spelled) ≡ Some after
    → (next_word stage keyword spelled ≡ next.Wrong) ⊎ (opens stage keyword ≡ None) → partial_step s stage keyword spelled ≡ Some (parser s (reading_of after))
unfolding partial_step
partial_far s stage keyword spelled after e (inl wrong) = let no : None ≡ Some after = sym (ap far wrong) ∙ e in absurd cc
partial_far s stage keyword spelled after e (inr none) = rw none (far_tested s (next_word stage keyword spelled) after e)

far_step : (s : List Open) (at : Far) (keyword : Keyword) (spelled : List ℕ) (after : Far) → far_with at keyword spelled ≡ Some after
    → step_of (parser s (reading_of at)) keyword spelled ≡ Some (parser s (reading_of after))
unfolding step_of
far_step s (Partial stage) keyword spelled after e = partial_far s stage keyword spelled after e (opens_or_wrong stage keyword spelled)
far_step s (Whole found more) keyword spelled after e = gone_far s (further_word more keyword) (joined s (pattern_of found) keyword) after e

token_read : (s : List Open) (at : Far) (token : Token) (tokens rest : List Token) (found : Test) (end : ℕ) (r : Result Pattern ℕ) (o : Option Far) → far_with at (keyword_of token.word) token.word ≡ o
    → and_on o (λ after. test_from tokens after) ≡ Some found
    → ((after : Far) → test_from tokens after ≡ Some found → run (parser s (reading_of after)) (tokens ++ rest) end ≡ r)
    → run (parser s (reading_of at)) (token ∷ (tokens ++ rest)) end ≡ r
unfolding run
token_read s at token tokens rest found end r None o_is e go_on = absurd cc
token_read s at token tokens rest found end r (Some after) o_is e go_on = rw (far_step s at (keyword_of token.word) token.word after o_is) (go_on after e)

test_read : (tokens rest : List Token) (at : Far) (found : Test) (s : List Open) (end : ℕ) → test_from tokens at ≡ Some found → AfterOne rest
    → run (parser s (reading_of at)) (tokens ++ rest) end ≡ run (parser s (reading.Whole (pattern_of found) Nothing)) rest end
unfolding test_from
test_read [] rest (Partial stage) found s end e h = absurd cc
test_read [] rest (Whole made more) found s end e h =
    let i : made ≡ found = cc in alike s s (pattern_of made) (pattern_of found) more Nothing rest end (ap (λ t. tight s (pattern_of t)) i) h
test_read (token ∷ tokens) rest at found s end e h =
    token_read s at token tokens rest found end _ _ refl e (λ after more. test_read tokens rest after found s end more h)

-- the levels

abbrev IsCalm : List Open → Type 0
IsCalm s = (p : Pattern) → tight s p ≡ closed s p

abbrev IsSettled : List Open → Type 0
IsSettled s = (p : Pattern) → loose s p ≡ closed s p

abbrev Says : Level → List Token → Pattern → Type 0
Says One tokens p = (s : List Open) (rest : List Token) (end : ℕ) → AfterOne rest → run (parser s (reading.Partial Start)) (tokens ++ rest) end ≡ run (parser s (reading.Whole p Nothing)) rest end
Says Both tokens p = (s : List Open) (rest : List Token) (end : ℕ) → IsCalm s → AfterOne rest → run (parser s (reading.Partial Start)) (tokens ++ rest) end ≡ run (parser s (reading.Whole p Nothing)) rest end
Says Either tokens p = (s : List Open) (rest : List Token) (end : ℕ) → IsCalm s → IsSettled s → AfterEither rest → run (parser s (reading.Partial Start)) (tokens ++ rest) end ≡ run (parser s (reading.Whole p Nothing)) rest end

not_opens : (s : List Open) (keyword : Keyword) (spelled : List ℕ) → keyword ≡ word.Not → step_of (parser s (reading.Partial Start)) keyword spelled ≡ opened s wait.Negation
unfolding step_of partial_step opens
not_opens s keyword spelled k = rw k refl

group_opens : (s : List Open) (keyword : Keyword) (spelled : List ℕ) → keyword ≡ word.Open → step_of (parser s (reading.Partial Start)) keyword spelled ≡ opened s wait.Group
unfolding step_of partial_step opens
group_opens s keyword spelled k = rw k refl

group_closes : (s : List Open) (p : Pattern) (keyword : Keyword) (spelled : List ℕ) → keyword ≡ word.Close → step_of (parser (wait.Group ∷ s) (reading.Whole p Nothing)) keyword spelled ≡ Some (parser s (reading.Whole p Nothing))
unfolding step_of further_word joined loose tight to_either group
group_closes s p keyword spelled k = rw k refl

and_opens : (s : List Open) (p : Pattern) (keyword : Keyword) (spelled : List ℕ) → keyword ≡ word.And → IsCalm s → step_of (parser s (reading.Whole p Nothing)) keyword spelled ≡ opened s (wait.Both p)
unfolding step_of further_word joined
and_opens s p keyword spelled k calm = let e = calm p in rw (k, e) refl

or_opens : (s : List Open) (p : Pattern) (keyword : Keyword) (spelled : List ℕ) → keyword ≡ word.Or → IsSettled s → step_of (parser s (reading.Whole p Nothing)) keyword spelled ≡ opened s (wait.Either p)
unfolding step_of further_word joined
or_opens s p keyword spelled k settled = let e = settled p in rw (k, e) refl

group_is_calm : (s : List Open) → IsCalm (wait.Group ∷ s)
unfolding tight
group_is_calm s p = refl

group_is_settled : (s : List Open) → IsSettled (wait.Group ∷ s)
unfolding tight loose to_either
group_is_settled s p = refl

either_is_calm : (s : List Open) (left : Pattern) → IsCalm (wait.Either left ∷ s)
unfolding tight
either_is_calm s left p = refl

negation_joins : (s : List Open) (p : Pattern) → tight (wait.Negation ∷ s) p ≡ tight s (pattern.Not p)
unfolding tight
negation_joins s p = refl

both_joins : (s : List Open) (p q : Pattern) → tight (wait.Both p ∷ s) q ≡ tight s (pattern.And p q)
unfolding tight
both_joins s p q = refl

either_joins : (s : List Open) (p q : Pattern) → loose (wait.Either p ∷ s) q ≡ closed s (pattern.Or p q)
unfolding tight loose to_either
either_joins s p q = refl

on_token : (before after : Parser) (token : Token) (rest : List Token) (end : ℕ) → step_of before (keyword_of token.word) token.word ≡ Some after → run before (token ∷ rest) end ≡ run after rest end
unfolding run
on_token before after token rest end e = rw e refl

says : (level : Level) (tokens : List Token) (p : Pattern) → Spells level tokens p → Says level tokens p
says _ _ _ (a_test tokens found d) = λ s rest end h. test_read tokens rest (Partial Start) found s end (form_is_read tokens found d) h
says _ _ _ (negation sign tokens p k d) = λ s rest end h.
    (on_token (parser s (reading.Partial Start)) (parser (wait.Negation ∷ s) (reading.Partial Start)) sign (tokens ++ rest) end (not_opens s (keyword_of sign.word) sign.word k)
    ∙ says One tokens p d (wait.Negation ∷ s) rest end h)
    ∙ alike (wait.Negation ∷ s) s p (pattern.Not p) Nothing Nothing rest end (negation_joins s p) h
says _ _ _ (grouped opening closing tokens p k l d) = λ s rest end h.
    rw append_assoc ((on_token (parser s (reading.Partial Start)) (parser (wait.Group ∷ s) (reading.Partial Start)) opening (tokens ++ (closing ∷ rest)) end (group_opens s (keyword_of opening.word) opening.word k)
    ∙ says Either tokens p d (wait.Group ∷ s) (closing ∷ rest) end (group_is_calm s) (group_is_settled s) (inr l))
    ∙ on_token (parser (wait.Group ∷ s) (reading.Whole p Nothing)) (parser s (reading.Whole p Nothing)) closing rest end (group_closes s p (keyword_of closing.word) closing.word l))
says _ _ _ (one tokens p d) = λ s rest end calm h. says One tokens p d s rest end h
says _ _ _ (and sign before after p q k d f) = λ s rest end calm h.
    rw append_assoc (((says Both before p d s (sign ∷ (after ++ rest)) end calm (inl k)
    ∙ on_token (parser s (reading.Whole p Nothing)) (parser (wait.Both p ∷ s) (reading.Partial Start)) sign (after ++ rest) end (and_opens s p (keyword_of sign.word) sign.word k calm))
    ∙ says One after q f (wait.Both p ∷ s) rest end h)
    ∙ alike (wait.Both p ∷ s) s q (pattern.And p q) Nothing Nothing rest end (both_joins s p q) h)
says _ _ _ (both tokens p d) = λ s rest end calm settled h. says Both tokens p d s rest end calm (after_either_is_after_one rest h)
says _ _ _ (or sign before after p q k d f) = λ s rest end calm settled h.
    rw append_assoc (((says Either before p d s (sign ∷ (after ++ rest)) end calm settled (inl k)
    ∙ on_token (parser s (reading.Whole p Nothing)) (parser (wait.Either p ∷ s) (reading.Partial Start)) sign (after ++ rest) end (or_opens s p (keyword_of sign.word) sign.word k settled))
    ∙ says Both after q f (wait.Either p ∷ s) rest end (either_is_calm s p) (after_either_is_after_one rest h))
    ∙ loosely_alike (wait.Either p ∷ s) s q (pattern.Or p q) Nothing Nothing rest end (either_joins s p q ∙ sym (settled (pattern.Or p q))) h)

nothing_is_calm : IsCalm []
unfolding tight
nothing_is_calm p = refl

nothing_is_settled : IsSettled []
unfolding tight loose to_either
nothing_is_settled p = refl

read_alone : (p : Pattern) (end : ℕ) → run (parser [] (reading.Whole p Nothing)) [] end ≡ Ok p
unfolding run finish_of tight loose to_either
read_alone p end = refl

pub spelled_runs : (tokens : List Token) (p : Pattern) (end : ℕ) → IsSpelled tokens p → run start tokens end ≡ Ok p
spelled_runs tokens p end d =
    let all = says Either tokens p d [] [] end nothing_is_calm nothing_is_settled tt ∙ read_alone p end in
    rw append-nil at all

pub spelled_is_read : (text : List ℕ) (p : Pattern) → IsPattern text p → parse_of text ≡ Ok p
unfolding parse_of
spelled_is_read text p d = spelled_runs (tokens_of text) p (length text) d
