-- What is read so far can be ended to a pattern.
use Rattle.std.proofs.Common.{◌≡◌, ℕ, true, List, [], ◌∷◌, ◌++◌, Some, None, refl, ◌∙◌, append_assoc, arith}
use Rattle.std.specs.Prelude.{codes, nat_le}
use Rattle.std.proofs.lemmas.List.{append-nil}
use Rattle.std.proofs.lemmas.Bool.Decides.{nat_tests}
use Rattle.mt_packet.specs.declared.field.Field.{Field}
use Rattle.mt_packet.specs.declared.field.Field.TheVariants as field
use Rattle.mt_pattern.specs.declared.pattern.Pattern.{Pattern}
use Rattle.mt_pattern.specs.declared.pattern.Pattern.TheVariants as pattern
use Rattle.mt_pattern.specs.declared.keyword.Keyword.TheVariants as word
use Rattle.mt_pattern.specs.declared.test.Stage.{Stage}
use Rattle.mt_pattern.specs.declared.test.Stage.TheVariants as stage
use Rattle.mt_pattern.specs.declared.test.Sides.{Sides}
use Rattle.mt_pattern.specs.declared.test.Transport.{Transport}
use Rattle.mt_pattern.specs.declared.test.Transport.TheVariants as transport
use Rattle.mt_pattern.specs.declared.test.Relation.{Relation}
use Rattle.mt_pattern.specs.declared.test.Test.{Test}
use Rattle.mt_pattern.specs.declared.test.Test.TheVariants as test
use Rattle.mt_pattern.specs.declared.test.Next.TheVariants as next
use Rattle.mt_pattern.specs.declared.stack.Open.{Open}
use Rattle.mt_pattern.specs.declared.parser.Reading.{Reading}
use Rattle.mt_pattern.specs.declared.parser.Reading.TheVariants as reading
use Rattle.mt_pattern.specs.Lexis.{Token, tokens_of, tokens_from, token_len, word_len, ends_word_at, AreTokens}
use Rattle.mt_pattern.specs.Keyword.{keyword_of, operator_of, head_of, detail_of}
use Rattle.mt_text.specs.Number.{number_up_to, number_of, decimal_of, decimal_up_to, decimal_value}
use Rattle.mt_text.specs.Address.{ipv4_address_of}
use Rattle.mt_pattern.specs.Span.{prefix_at, ports_at, span}
use Rattle.mt_pattern.specs.Test.{next_word, first_word, after_side, after_transport, after_ip, after_option, after_port, after_ttl, relation_of, tcp_flag, host_test, net_test, ports_test, related_ports, related_ttl, number_test, equal_to, related, test_or_never}
use Rattle.mt_pattern.specs.Shape.{pattern_of}
use Rattle.mt_pattern.specs.Parser.{parser}
use Rattle.mt_pattern.specs.Grammar.{Level, One, Both, Either, Spells, tested as a_test, negation, group as grouped, one, and, both, or, Begins}
use Rattle.mt_pattern.proofs.Walk.{Partial, test_from, read_is_form}
use Rattle.mt_pattern.proofs.Sound.{Opens, nothing_open, group_open, negation_open, both_open, either_open, Takes, Stands, Comes}

abbrev said : List ℕ → Token
said word = record { at = 0; word = word }

-- the words that end a test

zero_said : AreTokens (said (codes "0") ∷ [])
unfolding tokens_of tokens_from token_len word_len ends_word_at
zero_said = (refl, tt)

port_said : AreTokens (said (codes "port") ∷ (said (codes "0") ∷ []))
unfolding tokens_of tokens_from token_len word_len ends_word_at
port_said = (refl, zero_said)

all_said : AreTokens (said (codes "-") ∷ [])
unfolding tokens_of tokens_from token_len word_len ends_word_at
all_said = (refl, tt)

frag_said : AreTokens (said (codes "frag") ∷ [])
unfolding tokens_of tokens_from token_len word_len ends_word_at
frag_said = (refl, tt)

syn_said : AreTokens (said (codes "syn") ∷ [])
unfolding tokens_of tokens_from token_len word_len ends_word_at
syn_said = (refl, tt)

address_said : AreTokens (said (codes "0.0.0.0") ∷ [])
unfolding tokens_of tokens_from token_len word_len ends_word_at
address_said = (refl, tt)

close_said : AreTokens (said (codes ")") ∷ [])
unfolding tokens_of tokens_from token_len word_len ends_word_at
close_said = (refl, tt)

-- what words there are

zero_keyword : keyword_of (codes "0") ≡ word.Other
unfolding keyword_of operator_of head_of detail_of
zero_keyword = refl

port_keyword : keyword_of (codes "port") ≡ word.Port
unfolding keyword_of operator_of head_of
port_keyword = refl

all_keyword : keyword_of (codes "-") ≡ word.Always
unfolding keyword_of operator_of head_of
all_keyword = refl

frag_keyword : keyword_of (codes "frag") ≡ word.Frag
unfolding keyword_of operator_of head_of detail_of
frag_keyword = refl

syn_keyword : keyword_of (codes "syn") ≡ word.Syn
unfolding keyword_of operator_of head_of detail_of
syn_keyword = refl

close_keyword : keyword_of (codes ")") ≡ word.Close
unfolding keyword_of operator_of
close_keyword = refl

zero_least : (greatest : ℕ) → nat_le 0 greatest ≡ true
zero_least greatest = grind (arith, nat_tests)

zero_below : (greatest : ℕ) → number_up_to greatest (codes "0") ≡ Some 0
unfolding number_up_to number_of decimal_of decimal_value
zero_below greatest = let e = zero_least greatest in rw e refl

zero_address : ipv4_address_of (codes "0.0.0.0") ≡ Some 0
unfolding ipv4_address_of decimal_up_to decimal_of decimal_value
zero_address = refl

zero_ports : ports_at (codes "0") None ≡ Some (span 0 0)
unfolding ports_at number_up_to number_of decimal_of decimal_value
zero_ports = refl

-- how a test can end

abbrev Ends : Stage → Type 0
Ends at = (more : List Token) × (found : Test) × AreTokens more × (test_from more (Partial at) ≡ Some found)

start_ends : Ends stage.Start
unfolding test_from next_word first_word
start_ends = (said (codes "-") ∷ [], test.Always, all_said, rw all_keyword refl)

number_ends : (field : Field) (greatest : ℕ) → Ends (stage.Number field greatest)
unfolding test_from next_word number_test
number_ends field greatest = (said (codes "0") ∷ [], equal_to field 0, zero_said, rw (zero_below greatest) refl)

ttl_ends : Ends stage.Ttl
unfolding test_from next_word after_ttl relation_of number_test
ttl_ends = (said (codes "0") ∷ [], equal_to field.Ttl 0, zero_said, rw (zero_keyword, zero_below 255) refl)

ttl_relation_ends : (relation : Relation) → Ends (stage.TtlRelation relation)
unfolding test_from next_word related_ttl
ttl_relation_ends relation =
    (said (codes "0") ∷ [], test_or_never (λ values. test.Value field.Ttl values) (related relation 0 255), zero_said, rw (zero_below 255) refl)

ip_ends : Ends stage.Ip
unfolding test_from next_word after_ip
ip_ends = (said (codes "frag") ∷ [], test.Fragment, frag_said, rw frag_keyword refl)

option_ends : Ends stage.TcpOption
unfolding test_from next_word after_option tcp_flag
option_ends = (said (codes "syn") ∷ [], equal_to field.Syn 1, syn_said, rw syn_keyword refl)

host_ends : (sides : Sides) → Ends (stage.Host sides)
unfolding test_from next_word host_test
host_ends sides = (said (codes "0.0.0.0") ∷ [], test.Address sides (span 0 0), address_said, rw zero_address refl)

net_ends : (sides : Sides) → Ends (stage.Net sides)
unfolding test_from next_word net_test prefix_at
net_ends sides = (said (codes "0.0.0.0") ∷ [], test.Address sides (span 0 0), address_said, rw zero_address refl)

port_ends : (sides : Sides) (protocol : Transport) → Ends (stage.Port sides protocol)
unfolding test_from next_word after_port relation_of ports_test
port_ends sides protocol = (said (codes "0") ∷ [], test.Ports sides protocol (span 0 0), zero_said, rw (zero_keyword, zero_ports) refl)

port_relation_ends : (sides : Sides) (protocol : Transport) (relation : Relation) → Ends (stage.PortRelation sides protocol relation)
unfolding test_from next_word related_ports
port_relation_ends sides protocol relation =
    (said (codes "0") ∷ [], test_or_never (λ ports. test.Ports sides protocol ports) (related relation 0 65535), zero_said, rw (zero_below 65535) refl)

-- behind `port` a test can end, so it can before it
before_port : (at : Stage) (sides : Sides) (protocol : Transport) → next_word at word.Port (codes "port") ≡ next.On (stage.Port sides protocol) → Ends at
unfolding test_from
before_port at sides protocol e =
    let t = port_ends sides protocol in
    (said (codes "port") ∷ t.0, t.1, (port_said.0, t.2), rw (port_keyword, e) t.3)

side_ends : (sides : Sides) → Ends (stage.Side sides)
unfolding next_word after_side
side_ends sides = before_port (stage.Side sides) sides transport.Unnamed refl

transport_ends : (sides : Sides) (protocol : Transport) → Ends (stage.Transport sides protocol)
unfolding next_word after_transport
transport_ends sides protocol = before_port (stage.Transport sides protocol) sides protocol refl

test_ends : (at : Stage) → Ends at
test_ends stage.Start = start_ends
test_ends (stage.Side sides) = side_ends sides
test_ends (stage.Transport sides protocol) = transport_ends sides protocol
test_ends (stage.Host sides) = host_ends sides
test_ends (stage.Net sides) = net_ends sides
test_ends (stage.Port sides protocol) = port_ends sides protocol
test_ends (stage.PortRelation sides protocol relation) = port_relation_ends sides protocol relation
test_ends stage.Ip = ip_ends
test_ends (stage.Number field greatest) = number_ends field greatest
test_ends stage.Ttl = ttl_ends
test_ends (stage.TtlRelation relation) = ttl_relation_ends relation
test_ends stage.TcpOption = option_ends

-- how a pattern can end

are_tokens_joined : (tokens more : List Token) → AreTokens tokens → AreTokens more → AreTokens (tokens ++ more)
are_tokens_joined [] more h k = k
are_tokens_joined (token ∷ tokens) more h k = (h.0, are_tokens_joined tokens more h.1 k)

at_any_level : (level : Level) (tokens : List Token) (p : Pattern) → Spells level tokens p → Spells Either tokens p
at_any_level One tokens p h = both tokens p (one tokens p h)
at_any_level Both tokens p h = both tokens p h
at_any_level Either tokens p h = h

-- one whole pattern follows these tokens, once more follow
abbrev Closes : List Token → List Token → Type 0
Closes first tokens = (more : List Token) × (q : Pattern) × AreTokens more × Spells Either (first ++ (tokens ++ more)) q

closes : (s : List Open) (first : List Token) → Opens s first → (level : Level) (tokens : List Token) (p : Pattern) → Takes level s → Spells level tokens p → Closes first tokens
closes _ _ nothing_open = λ level tokens p t h. ([], p, tt, rw append-nil (at_any_level level tokens p h))
closes _ _ (group_open s first sign k d) = λ level tokens p t h.
    let closing = said (codes ")") in
    let c = closes s first d One (sign ∷ (tokens ++ closing ∷ [])) p tt (grouped sign closing tokens p k close_keyword (at_any_level level tokens p h)) in
    (closing ∷ c.0, c.1, (close_said.0, c.2), simp append_assoc (simp append_assoc at c.3))
closes _ _ (negation_open s first sign k d) = elim [
  | One ↦ λ tokens p t h. let c = closes s first d One (sign ∷ tokens) (pattern.Not p) tt (negation sign tokens p k h) in (c.0, c.1, c.2, simp append_assoc c.3)
  | Both ↦ λ tokens p t h. absurd t
  | Either ↦ λ tokens p t h. absurd t
]
closes _ _ (both_open s first before sign left k calm l d) = elim [
  | One ↦ λ tokens p t h. let c = closes s first d Both (before ++ sign ∷ tokens) (pattern.And left p) calm (and sign before tokens left p k l h) in (c.0, c.1, c.2, simp append_assoc (simp append_assoc at c.3))
  | Both ↦ λ tokens p t h. absurd t
  | Either ↦ λ tokens p t h. absurd t
]
closes _ _ (either_open s first before sign left k settled l d) = elim [
  | One ↦ λ tokens p t h. let c = closes s first d Either (before ++ sign ∷ tokens) (pattern.Or left p) settled (or sign before tokens left p k l (one tokens p h)) in (c.0, c.1, c.2, simp append_assoc (simp append_assoc at c.3))
  | Both ↦ λ tokens p t h. let c = closes s first d Either (before ++ sign ∷ tokens) (pattern.Or left p) settled (or sign before tokens left p k l h) in (c.0, c.1, c.2, simp append_assoc (simp append_assoc at c.3))
  | Either ↦ λ tokens p t h. absurd t
]

come_apart : (tokens more : List Token) (at : Stage) (found : Test) → Comes tokens (Partial at) → test_from more (Partial at) ≡ Some found → Spells One (tokens ++ more) (pattern_of found)
come_apart tokens more at found h e = a_test (tokens ++ more) found (read_is_form (tokens ++ more) found (h more ∙ e))

pub stands_begins : (s : List Open) (r : Reading) (before : List Token) → Stands before (parser s r) → Begins before
stands_begins s (reading.Partial at) before h =
    let t = test_ends at in
    let c = closes s h.first h.open_before One (h.tokens ++ t.0) (pattern_of t.1) tt (come_apart h.tokens t.0 at t.1 h.reads.0 t.3) in
    (t.0 ++ c.0, c.1, are_tokens_joined t.0 c.0 t.2 c.2, rw (← h.all) (simp append_assoc (simp append_assoc at c.3)))
stands_begins s (reading.Whole p more) before h =
    let c = closes s h.first h.open_before One h.tokens p tt h.reads.0 in
    (c.0, c.1, c.2, rw (← h.all) (simp append_assoc c.3))
