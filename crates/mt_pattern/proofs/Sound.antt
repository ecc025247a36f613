-- What is read is spelled by the grammar.
use Rattle.std.proofs.Common.{◌≡◌, ℕ, List, [], ◌∷◌, ◌++◌, length, Option, Some, None, Ok, ◌⊎◌, inl, inr, refl, sym, ap, subst, ◌∙◌, append_assoc}
use Rattle.std.proofs.lemmas.List.{append-nil}
use Rattle.mt_pattern.specs.declared.pattern.Pattern.{Pattern}
use Rattle.mt_pattern.specs.declared.pattern.Pattern.TheVariants as pattern
use Rattle.mt_pattern.specs.declared.keyword.Keyword.{Keyword}
use Rattle.mt_pattern.specs.declared.keyword.Keyword.TheVariants as word
use Rattle.mt_pattern.specs.declared.test.Stage.{Stage}
use Rattle.mt_pattern.specs.declared.test.Stage.TheVariants as stage
use Rattle.mt_pattern.specs.declared.test.More.{More}
use Rattle.mt_pattern.specs.declared.test.More.TheVariants.{Nothing, Tcp, Udp, Icmp}
use Rattle.mt_pattern.specs.declared.test.Test.{Test}
use Rattle.mt_pattern.specs.declared.test.Next.{Next}
use Rattle.mt_pattern.specs.declared.test.Next.TheVariants as next
use Rattle.mt_pattern.specs.declared.test.Relation.{Relation}
use Rattle.mt_pattern.specs.declared.test.Sides.{Sides}
use Rattle.mt_pattern.specs.declared.test.Transport.{Transport}
use Rattle.mt_packet.specs.declared.field.Field.{Field}
use Rattle.mt_packet.specs.declared.field.Field.TheVariants as field
use Rattle.std.specs.Prelude.{option_map}
use Rattle.mt_pattern.specs.declared.stack.Open.{Open}
use Rattle.mt_pattern.specs.declared.stack.Open.TheVariants as wait
use Rattle.mt_pattern.specs.declared.parser.Closed.{Closed}
use Rattle.mt_pattern.specs.declared.parser.Parser.{Parser}
use Rattle.mt_pattern.specs.declared.parser.Reading.{Reading}
use Rattle.mt_pattern.specs.declared.parser.Reading.TheVariants as reading
use Rattle.mt_pattern.specs.Lexis.{Token, tokens_of}
use Rattle.mt_pattern.specs.Keyword.{keyword_of}
use Rattle.mt_pattern.specs.Test.{next_word, first_word, after_side, after_transport, after_ip, after_option, after_port, after_ttl, relation_of, tcp_flag, flag_test, on_or_whole, whole, host_test, net_test, ports_test, related_ports, related_ttl, number_test, further_word}
use Rattle.mt_pattern.specs.Shape.{pattern_of}
use Rattle.mt_pattern.specs.Parser.{parser, tight, to_either, loose, opens, group, joined, partial_step, step_of, closed, opened, tested, opened_or, gone_on, alone, finish_of, ended, run, step_or_fault, start, parse_of}
use Rattle.mt_pattern.specs.Grammar.{Level, One, Both, Either, Spells, tested as a_test, negation, group as grouped, one, and, both, or, IsPattern}
use Rattle.mt_pattern.proofs.Walk.{Far, Partial, Whole, far, far_with, test_from, read_is_form}

-- what is open

-- a pattern of that level may stand behind what is open
abbrev pub Takes : Level → List Open → Type 0
Takes One s = Unit {0}
Takes Both [] = Unit {0}
Takes Both (wait.Group ∷ s) = Unit {0}
Takes Both (wait.Negation ∷ s) = ⊥
Takes Both (wait.Both left ∷ s) = ⊥
Takes Both (wait.Either left ∷ s) = Unit {0}
Takes Either [] = Unit {0}
Takes Either (wait.Group ∷ s) = Unit {0}
Takes Either (wait.Negation ∷ s) = ⊥
Takes Either (wait.Both left ∷ s) = ⊥
Takes Either (wait.Either left ∷ s) = ⊥

-- these tokens leave that open
pub data Opens : List Open → List Token → Type 0 where
  nothing_open : Opens [] []
  group_open : (s : List Open) (first : List Token) (sign : Token) → keyword_of sign.word ≡ word.Open → Opens s first → Opens (wait.Group ∷ s) (first ++ sign ∷ [])
  negation_open : (s : List Open) (first : List Token) (sign : Token) → keyword_of sign.word ≡ word.Not → Opens s first → Opens (wait.Negation ∷ s) (first ++ sign ∷ [])
  both_open : (s : List Open) (first tokens : List Token) (sign : Token) (left : Pattern) → keyword_of sign.word ≡ word.And → Takes Both s → Spells Both tokens left
      → Opens s first → Opens (wait.Both left ∷ s) (first ++ (tokens ++ sign ∷ []))
  either_open : (s : List Open) (first tokens : List Token) (sign : Token) (left : Pattern) → keyword_of sign.word ≡ word.Or → Takes Either s → Spells Either tokens left
      → Opens s first → Opens (wait.Either left ∷ s) (first ++ (tokens ++ sign ∷ []))

-- these tokens leave a stack open, and behind it a pattern of that level
pub record Joined (level : Level) (before : List Token) (c : Closed) : Type 0 where
  pub first : List Token
  pub tokens : List Token
  pub all : first ++ tokens ≡ before
  pub open_before : Opens c.stack first
  pub takes : Takes level c.stack
  pub spelled : Spells level tokens c.pattern

calm_tight : (s : List Open) (p : Pattern) → Takes Both s → tight s p ≡ closed s p
unfolding tight
calm_tight [] p h = refl
calm_tight (wait.Group ∷ s) p h = refl
calm_tight (wait.Negation ∷ s) p h = absurd h
calm_tight (wait.Both left ∷ s) p h = absurd h
calm_tight (wait.Either left ∷ s) p h = refl

tight_joins : (s : List Open) (first : List Token) → Opens s first → (tokens : List Token) (p : Pattern) → Spells One tokens p → Joined Both (first ++ tokens) (tight s p)
unfolding tight
tight_joins _ _ nothing_open = λ tokens p h.
    record { first = []; tokens = tokens; all = refl; open_before = nothing_open; takes = tt; spelled = one tokens p h }
tight_joins _ _ (group_open s first sign k d) = λ tokens p h.
    record { first = first ++ sign ∷ []; tokens = tokens; all = refl; open_before = group_open s first sign k d; takes = tt; spelled = one tokens p h }
tight_joins _ _ (negation_open s first sign k d) = λ tokens p h.
    rw append_assoc (tight_joins s first d (sign ∷ tokens) (pattern.Not p) (negation sign tokens p k h))
tight_joins _ _ (both_open s first before sign left k calm l d) = λ tokens p h.
    let e = calm_tight s (pattern.And left p) calm in
    rw e (record { first = first; tokens = before ++ sign ∷ tokens; all = simp append_assoc; open_before = d; takes = calm; spelled = and sign before tokens left p k l h })
tight_joins _ _ (either_open s first before sign left k settled l d) = λ tokens p h.
    record { first = first ++ (before ++ sign ∷ []); tokens = tokens; all = refl; open_before = either_open s first before sign left k settled l d; takes = tt; spelled = one tokens p h }

either_joins : (s : List Open) (first : List Token) → Opens s first → (tokens : List Token) (p : Pattern) → Takes Both s → Spells Both tokens p → Joined Either (first ++ tokens) (to_either s p)
unfolding to_either
either_joins _ _ nothing_open = λ tokens p t h.
    record { first = []; tokens = tokens; all = refl; open_before = nothing_open; takes = tt; spelled = both tokens p h }
either_joins _ _ (group_open s first sign k d) = λ tokens p t h.
    record { first = first ++ sign ∷ []; tokens = tokens; all = refl; open_before = group_open s first sign k d; takes = tt; spelled = both tokens p h }
either_joins _ _ (negation_open s first sign k d) = λ tokens p t h. absurd t
either_joins _ _ (both_open s first before sign left k calm l d) = λ tokens p t h. absurd t
either_joins _ _ (either_open s first before sign left k settled l d) = λ tokens p t h.
    record { first = first; tokens = before ++ sign ∷ tokens; all = simp append_assoc; open_before = d; takes = settled; spelled = or sign before tokens left p k l h }

loose_joins : (s : List Open) (first : List Token) → Opens s first → (tokens : List Token) (p : Pattern) → Spells One tokens p → Joined Either (first ++ tokens) (loose s p)
unfolding loose
loose_joins s first d tokens p h =
    let j = tight_joins s first d tokens p h in
    subst (λ (before : List Token). Joined Either before (loose s p)) j.all (either_joins (tight s p).stack j.first j.open_before j.tokens (tight s p).pattern j.takes j.spelled)

-- a test

-- these tokens bring a test as far as that
abbrev pub Comes : List Token → Far → Type 0
Comes tokens at = (rest : List Token) → test_from (tokens ++ rest) (Partial stage.Start) ≡ test_from rest at

test_step : (token : Token) (rest : List Token) (at after : Far) → far_with at (keyword_of token.word) token.word ≡ Some after → test_from (token ∷ rest) at ≡ test_from rest after
unfolding test_from
test_step token rest at after e = rw e refl

comes_on : (tokens : List Token) (token : Token) (at after : Far) → Comes tokens at → far_with at (keyword_of token.word) token.word ≡ Some after → Comes (tokens ++ token ∷ []) after
comes_on tokens token at after h e = λ rest. rw append_assoc (h (token ∷ rest) ∙ test_step token rest at after e)

comes_whole : (tokens : List Token) (found : Test) (more : More) → Comes tokens (Whole found more) → test_from tokens (Partial stage.Start) ≡ Some found
unfolding test_from
comes_whole tokens found more h = let e = h [] in rw append-nil at e

-- no word brings a test back to its start

abbrev IsOn : Next → Type 0
IsOn (next.On stage.Start) = ⊥
IsOn _ = Unit {0}

abbrev IsBehind : Option Stage → Type 0
IsBehind (Some stage.Start) = ⊥
IsBehind _ = Unit {0}

first_on : (keyword : Keyword) → IsOn (first_word keyword)
unfolding first_word
first_on word.Always = tt
first_on _ = tt

side_on : (sides : Sides) (keyword : Keyword) → IsOn (after_side sides keyword)
unfolding after_side
side_on sides word.Host = tt
side_on sides _ = tt

transport_on : (sides : Sides) (protocol : Transport) (keyword : Keyword) → IsOn (after_transport sides protocol keyword)
unfolding after_transport
transport_on sides protocol word.Port = tt
transport_on sides protocol _ = tt

ip_on : (keyword : Keyword) → IsOn (after_ip keyword)
unfolding after_ip
ip_on word.Proto = tt
ip_on _ = tt

whole_on : (found : Option Test) → IsOn (whole found)
whole_on None = tt
whole_on (Some found) = tt

flag_on : (flag : Option Field) → IsOn (flag_test flag)
flag_on None = tt
flag_on (Some flag) = tt

port_on : (sides : Sides) (protocol : Transport) (relation : Option Relation) (found : Option Test) → IsOn (on_or_whole (λ r. stage.PortRelation sides protocol r) relation found)
port_on sides protocol None found = whole_on found
port_on sides protocol (Some relation) found = tt

ttl_on : (relation : Option Relation) (found : Option Test) → IsOn (on_or_whole (λ r. stage.TtlRelation r) relation found)
ttl_on None found = whole_on found
ttl_on (Some relation) found = tt

word_on : (at : Stage) (keyword : Keyword) (spelled : List ℕ) → IsOn (next_word at keyword spelled)
unfolding next_word after_port after_ttl after_option
word_on stage.Start keyword spelled = first_on keyword
word_on (stage.Side sides) keyword spelled = side_on sides keyword
word_on (stage.Transport sides protocol) keyword spelled = transport_on sides protocol keyword
word_on (stage.Host sides) keyword spelled = whole_on (host_test sides spelled)
word_on (stage.Net sides) keyword spelled = whole_on (net_test sides spelled)
word_on (stage.Port sides protocol) keyword spelled = port_on sides protocol (relation_of keyword) (ports_test sides protocol spelled)
word_on (stage.PortRelation sides protocol relation) keyword spelled = whole_on (related_ports sides protocol relation spelled)
word_on stage.Ip keyword spelled = ip_on keyword
word_on (stage.Number field greatest) keyword spelled = whole_on (number_test field greatest spelled)
word_on stage.Ttl keyword spelled = ttl_on (relation_of keyword) (number_test field.Ttl 255 spelled)
word_on (stage.TtlRelation relation) keyword spelled = whole_on (related_ttl relation spelled)
word_on stage.TcpOption keyword spelled = flag_on (tcp_flag keyword)

further_behind : (more : More) (keyword : Keyword) → IsBehind (further_word more keyword)
unfolding further_word
further_behind Nothing keyword = tt
further_behind Tcp word.Port = tt
further_behind Udp word.Port = tt
further_behind Icmp word.Port = tt
further_behind _ _ = tt

-- what is read so far

-- a test that is whole goes on as far as these tokens bring it
abbrev pub GoesOn : List Token → More → Type 0
GoesOn tokens more = (token : Token) (at : Stage) → further_word more (keyword_of token.word) ≡ Some at → Comes (tokens ++ token ∷ []) (Partial at)

abbrev pub Reads : Reading → List Token → Type 0
Reads (reading.Partial at) tokens = Comes tokens (Partial at) × (at ≡ stage.Start → tokens ≡ [])
Reads (reading.Whole p more) tokens = Spells One tokens p × GoesOn tokens more

-- these tokens bring the reader there
pub record Stands (before : List Token) (p : Parser) : Type 0 where
  pub first : List Token
  pub tokens : List Token
  pub all : first ++ tokens ≡ before
  pub open_before : Opens p.stack first
  pub reads : Reads p.reading tokens

one_more : (first tokens before : List Token) (token : Token) → first ++ tokens ≡ before → first ++ (tokens ++ token ∷ []) ≡ before ++ token ∷ []
one_more first tokens before token h = rw (← h) (simp append_assoc)

waits : (s : List Open) (before : List Token) → Opens s before → Stands before (parser s (reading.Partial stage.Start))
waits s before d = record { first = before; tokens = []; all = append-nil before; open_before = d; reads = (λ rest. refl, λ e. refl) }

opens_is : (at : Stage) (keyword : Keyword) (o : Open) → opens at keyword ≡ Some o → (at ≡ stage.Start) × (((o ≡ wait.Group) × (keyword ≡ word.Open)) ⊎ ((o ≡ wait.Negation) × (keyword ≡ word.Not)))
unfolding opens
opens_is stage.Start word.Open o e = let i : o ≡ wait.Group = cc in (refl, inl (i, refl))
opens_is stage.Start word.Not o e = let i : o ≡ wait.Negation = cc in (refl, inr (i, refl))
opens_is _ _ o e = absurd cc

behind_start : (to : Stage) → IsOn (next.On to) → to ≡ stage.Start → ⊥
behind_start to h e = subst (λ (at : Stage). IsOn (next.On at)) e h

behind_whole : (to : Stage) → IsBehind (Some to) → to ≡ stage.Start → ⊥
behind_whole to h e = subst (λ (at : Stage). IsBehind (Some at)) e h

tested_stands : (s : List Open) (first tokens before : List Token) (token : Token) (at : Stage) (after : Parser) → first ++ tokens ≡ before → Opens s first → Comes tokens (Partial at)
    → (made : Next) → next_word at (keyword_of token.word) token.word ≡ made → tested s made ≡ Some after → Stands (before ++ token ∷ []) after
tested_stands s first tokens before token at after all d c next.Wrong n e = absurd cc
tested_stands s first tokens before token at after all d c (next.On to) n e =
    let i : parser s (reading.Partial to) ≡ after = cc in
    let on = subst (λ (made : Next). IsOn made) n (word_on at (keyword_of token.word) token.word) in
    subst (λ (p : Parser). Stands (before ++ token ∷ []) p) i
    (record {
      first = first;
      tokens = tokens ++ token ∷ [];
      all = one_more first tokens before token all;
      open_before = d;
      reads = (comes_on tokens token (Partial at) (Partial to) c (ap far n), λ start. absurd (behind_start to on start));
    })
tested_stands s first tokens before token at after all d c (next.Whole found more) n e =
    let i : parser s (reading.Whole (pattern_of found) more) ≡ after = cc in
    let there = comes_on tokens token (Partial at) (Whole found more) c (ap far n) in
    subst (λ (p : Parser). Stands (before ++ token ∷ []) p) i
    (record {
      first = first;
      tokens = tokens ++ token ∷ [];
      all = one_more first tokens before token all;
      open_before = d;
      reads = (
        a_test (tokens ++ token ∷ []) found (read_is_form (tokens ++ token ∷ []) found (comes_whole (tokens ++ token ∷ []) found more there)),
        λ further to h. comes_on (tokens ++ token ∷ []) further (Whole found more) (Partial to) there (ap (option_map (λ p. Partial p)) h),
      );
    })

opened_stands : (s : List Open) (before : List Token) (token : Token) (last : Open) (after : Parser) → Opens s before
    → ((last ≡ wait.Group) × (keyword_of token.word ≡ word.Open)) ⊎ ((last ≡ wait.Negation) × (keyword_of token.word ≡ word.Not)) → opened s last ≡ Some after → Stands (before ++ token ∷ []) after
opened_stands s before token last after d (inl k) e =
    let i : parser (wait.Group ∷ s) (reading.Partial stage.Start) ≡ after = ap (λ l. parser (l ∷ s) (reading.Partial stage.Start)) (sym k.0) ∙ cc in
    subst (λ (p : Parser). Stands (before ++ token ∷ []) p) i (waits (wait.Group ∷ s) (before ++ token ∷ []) (group_open s before token k.1 d))
opened_stands s before token last after d (inr k) e =
    let i : parser (wait.Negation ∷ s) (reading.Partial stage.Start) ≡ after = ap (λ l. parser (l ∷ s) (reading.Partial stage.Start)) (sym k.0) ∙ cc in
    subst (λ (p : Parser). Stands (before ++ token ∷ []) p) i (waits (wait.Negation ∷ s) (before ++ token ∷ []) (negation_open s before token k.1 d))

partial_stands : (s : List Open) (first tokens before : List Token) (token : Token) (at : Stage) (after : Parser) → first ++ tokens ≡ before → Opens s first → Comes tokens (Partial at) → (at ≡ stage.Start → tokens ≡ [])
    → (o : Option Open) → opens at (keyword_of token.word) ≡ o → opened_or s o (tested s (next_word at (keyword_of token.word) token.word)) ≡ Some after → Stands (before ++ token ∷ []) after
partial_stands s first tokens before token at after all d c unread None o e =
    tested_stands s first tokens before token at after all d c (next_word at (keyword_of token.word) token.word) refl e
partial_stands s first tokens before token at after all d c unread (Some last) o e =
    let k = opens_is at (keyword_of token.word) last o in
    let none : tokens ≡ [] = unread k.0 in
    let same : first ≡ before = sym (append-nil first) ∙ (ap (λ ts. first ++ ts) (sym none) ∙ all) in
    opened_stands s before token last after (subst (λ (ts : List Token). Opens s ts) same d) k.1 e

group_stands : (s : List Open) (first : List Token) → Opens s first → (tokens before : List Token) (token : Token) (p : Pattern) (after : Parser) → keyword_of token.word ≡ word.Close → first ++ tokens ≡ before
    → Spells Either tokens p → group s p ≡ Some after → Stands (before ++ token ∷ []) after
unfolding group further_word
group_stands _ _ nothing_open = λ tokens before token p after k all h e. absurd cc
group_stands _ _ (group_open s first sign l d) = λ tokens before token p after k all h e.
    let i : parser s (reading.Whole p Nothing) ≡ after = cc in
    subst (λ (q : Parser). Stands (before ++ token ∷ []) q) i
    (record {
      first = first;
      tokens = sign ∷ (tokens ++ token ∷ []);
      all = rw (← all) (simp append_assoc);
      open_before = d;
      reads = (grouped sign token tokens p l k h, λ further to none. absurd cc);
    })
group_stands _ _ (negation_open s first sign l d) = λ tokens before token p after k all h e. absurd cc
group_stands _ _ (both_open s first left sign made l calm spelled d) = λ tokens before token p after k all h e. absurd cc
group_stands _ _ (either_open s first left sign made l settled spelled d) = λ tokens before token p after k all h e. absurd cc

joined_stands : (s : List Open) (first tokens before : List Token) (token : Token) (p : Pattern) (after : Parser) → first ++ tokens ≡ before → Opens s first → Spells One tokens p
    → (keyword : Keyword) → keyword_of token.word ≡ keyword → joined s p keyword ≡ Some after → Stands (before ++ token ∷ []) after
unfolding joined
joined_stands s first tokens before token p after all d h word.And k e =
    let j = tight_joins s first d tokens p h in
    let i : parser (wait.Both (tight s p).pattern ∷ (tight s p).stack) (reading.Partial stage.Start) ≡ after = cc in
    let there = waits (wait.Both (tight s p).pattern ∷ (tight s p).stack) (j.first ++ (j.tokens ++ token ∷ [])) (both_open (tight s p).stack j.first j.tokens token (tight s p).pattern k j.takes j.spelled j.open_before) in
    subst (λ (q : Parser). Stands (before ++ token ∷ []) q) i (subst (λ (ts : List Token). Stands ts (parser (wait.Both (tight s p).pattern ∷ (tight s p).stack) (reading.Partial stage.Start))) (one_more j.first j.tokens before token (j.all ∙ all)) there)
joined_stands s first tokens before token p after all d h word.Or k e =
    let j = loose_joins s first d tokens p h in
    let i : parser (wait.Either (loose s p).pattern ∷ (loose s p).stack) (reading.Partial stage.Start) ≡ after = cc in
    let there = waits (wait.Either (loose s p).pattern ∷ (loose s p).stack) (j.first ++ (j.tokens ++ token ∷ [])) (either_open (loose s p).stack j.first j.tokens token (loose s p).pattern k j.takes j.spelled j.open_before) in
    subst (λ (q : Parser). Stands (before ++ token ∷ []) q) i (subst (λ (ts : List Token). Stands ts (parser (wait.Either (loose s p).pattern ∷ (loose s p).stack) (reading.Partial stage.Start))) (one_more j.first j.tokens before token (j.all ∙ all)) there)
joined_stands s first tokens before token p after all d h word.Close k e =
    let j = loose_joins s first d tokens p h in
    group_stands (loose s p).stack j.first j.open_before j.tokens before token (loose s p).pattern after k (j.all ∙ all) j.spelled e
joined_stands s first tokens before token p after all d h _ k e = absurd cc

whole_stands : (s : List Open) (first tokens before : List Token) (token : Token) (p : Pattern) (more : More) (after : Parser) → first ++ tokens ≡ before → Opens s first → Spells One tokens p → GoesOn tokens more
    → (o : Option Stage) → further_word more (keyword_of token.word) ≡ o → gone_on s o (joined s p (keyword_of token.word)) ≡ Some after → Stands (before ++ token ∷ []) after
whole_stands s first tokens before token p more after all d h on None o e = joined_stands s first tokens before token p after all d h (keyword_of token.word) refl e
whole_stands s first tokens before token p more after all d h on (Some to) o e =
    let i : parser s (reading.Partial to) ≡ after = cc in
    let behind = subst (λ (made : Option Stage). IsBehind made) o (further_behind more (keyword_of token.word)) in
    subst (λ (q : Parser). Stands (before ++ token ∷ []) q) i
    (record {
      first = first;
      tokens = tokens ++ token ∷ [];
      all = one_more first tokens before token all;
      open_before = d;
      reads = (on token to o, λ start. absurd (behind_whole to behind start));
    })

pub step_stands : (s : List Open) (r : Reading) (before : List Token) (token : Token) (after : Parser) → Stands before (parser s r) → step_of (parser s r) (keyword_of token.word) token.word ≡ Some after → Stands (before ++ token ∷ []) after
unfolding step_of partial_step
step_stands s (reading.Partial at) before token after h e =
    partial_stands s h.first h.tokens before token at after h.all h.open_before h.reads.0 h.reads.1 (opens at (keyword_of token.word)) refl e
step_stands s (reading.Whole p more) before token after h e =
    whole_stands s h.first h.tokens before token p more after h.all h.open_before h.reads.0 h.reads.1 (further_word more (keyword_of token.word)) refl e

-- the end

alone_is : (s : List Open) (first : List Token) → Opens s first → (tokens : List Token) (p q : Pattern) → Spells Either tokens p → alone s p ≡ Some q → Spells Either (first ++ tokens) q
alone_is _ _ nothing_open = λ tokens p q h e. let i : p ≡ q = cc in subst (λ (made : Pattern). Spells Either tokens made) i h
alone_is _ _ (group_open s first sign k d) = λ tokens p q h e. absurd cc
alone_is _ _ (negation_open s first sign k d) = λ tokens p q h e. absurd cc
alone_is _ _ (both_open s first before sign left k calm l d) = λ tokens p q h e. absurd cc
alone_is _ _ (either_open s first before sign left k settled l d) = λ tokens p q h e. absurd cc

pub finish_spells : (s : List Open) (r : Reading) (before : List Token) (q : Pattern) → Stands before (parser s r) → finish_of (parser s r) ≡ Some q → Spells Either before q
unfolding finish_of
finish_spells s (reading.Partial at) before q h e = absurd cc
finish_spells s (reading.Whole p more) before q h e =
    let j = loose_joins s h.first h.open_before h.tokens p h.reads.0 in
    subst (λ (ts : List Token). Spells Either ts q) (j.all ∙ h.all) (alone_is (loose s p).stack j.first j.open_before j.tokens (loose s p).pattern q j.spelled e)

-- the whole text

end_spells : (p : Parser) (before : List Token) (q : Pattern) (end : ℕ) → Stands before p → (o : Option Pattern) → finish_of p ≡ o → ended o end ≡ Ok q → Spells Either before q
end_spells p before q end h None o e = absurd cc
end_spells p before q end h (Some made) o e = let i : made ≡ q = cc in finish_spells p.stack p.reading before q h (o ∙ ap (λ found. Some found) i)

step_spells : (token : Token) (tokens before : List Token) (p : Parser) (q : Pattern) (end : ℕ) → Stands before p → (o : Option Parser) → step_of p (keyword_of token.word) token.word ≡ o
    → ((after : Parser) → Stands (before ++ token ∷ []) after → run after tokens end ≡ Ok q → Spells Either ((before ++ token ∷ []) ++ tokens) q)
    → step_or_fault o token.at (λ after. run after tokens end) ≡ Ok q → Spells Either (before ++ token ∷ tokens) q
step_spells token tokens before p q end h None o go_on e = absurd cc
step_spells token tokens before p q end h (Some after) o go_on e =
    rw append_assoc at (go_on after (step_stands p.stack p.reading before token after h o) e)

rest_spells : (tokens before : List Token) (p : Parser) (q : Pattern) (end : ℕ) → Stands before p → run p tokens end ≡ Ok q → Spells Either (before ++ tokens) q
unfolding run
rest_spells [] before p q end h e = rw append-nil (end_spells p before q end h (finish_of p) refl e)
rest_spells (token ∷ tokens) before p q end h e =
    step_spells token tokens before p q end h (step_of p (keyword_of token.word) token.word) refl (λ after there more. rest_spells tokens (before ++ token ∷ []) after q end there more) e

pub at_start : Stands [] start
at_start = waits [] [] nothing_open

pub read_is_spelled : (text : List ℕ) (p : Pattern) → parse_of text ≡ Ok p → IsPattern text p
unfolding parse_of
read_is_spelled text p e = rest_spells (tokens_of text) [] start p (length text) at_start e
