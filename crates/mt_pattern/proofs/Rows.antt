-- The definitions tried on short texts.
use Rattle.std.proofs.Common.{◌≡◌, ℕ, List, [], ◌∷◌, Some, None, refl}
use Rattle.std.specs.Prelude.{codes}
use Rattle.mt_packet.specs.declared.field.Field.TheVariants as field
use Rattle.mt_pattern.specs.declared.pattern.Pattern.{Pattern}
use Rattle.mt_pattern.specs.declared.pattern.Pattern.TheVariants as pattern
use Rattle.mt_pattern.specs.declared.test.Test.TheVariants as test
use Rattle.mt_pattern.specs.Lexis.{Token, tokens_of, tokens_from, token_len, word_len, ends_word_at}
use Rattle.mt_pattern.specs.Keyword.{keyword_of, operator_of, head_of, detail_of}
use Rattle.mt_text.specs.Number.{number_up_to, number_of, hexadecimal_of, hexadecimal_value, decimal_of, decimal_up_to, decimal_value}
use Rattle.mt_text.specs.Address.{ipv4_address_of}
use Rattle.mt_pattern.specs.Span.{span, prefix_at, prefix_of, prefix_span, ports_at, ports_of}
use Rattle.mt_pattern.specs.Test.{next_word, first_word, further_word}
use Rattle.mt_pattern.specs.Forms as form
use Rattle.mt_pattern.specs.Shape.{within}
use Rattle.mt_pattern.specs.Parser.{parse_of, run, step_of, partial_step, opens, joined, finish_of, tight, loose, to_either}
use Rattle.mt_pattern.specs.Grammar.{One, Spells, tested, negation, one, and, both, or, IsPattern, IsWrongAt}
use Rattle.mt_pattern.proofs.Faults.{refused_is_wrong}

-- tokens, with their offsets

abbrev token : ℕ → List ℕ → Token
token at word = record { at = at; word = word }

tokens : tokens_of (codes " not(tcp&&port >=80 )") ≡ (token 1 (codes "not") ∷ token 4 (codes "(") ∷ token 5 (codes "tcp") ∷ token 8 (codes "&&") ∷ token 10 (codes "port") ∷ token 15 (codes ">=") ∷ token 17 (codes "80") ∷ token 20 (codes ")") ∷ [])
unfolding tokens_of tokens_from token_len word_len ends_word_at
tokens = refl

-- a lone bar is a part of a word, and a range is one word
words : tokens_of (codes "a|b 1-2") ≡ (token 0 (codes "a|b") ∷ token 4 (codes "1-2") ∷ [])
unfolding tokens_of tokens_from token_len word_len ends_word_at
words = refl

-- numbers, prefixes and ranges

hexadecimal : number_of (codes "0x1F") ≡ Some 31
unfolding number_of hexadecimal_of hexadecimal_value
hexadecimal = refl

ten_digits : number_of (codes "0000000001") ≡ None
unfolding number_of decimal_of
ten_digits = refl

prefix_of_length_0 : prefix_of (codes "10.0.0.5/0") ≡ Some (span 0 4294967295)
unfolding prefix_at prefix_span ipv4_address_of decimal_up_to decimal_of decimal_value
prefix_of_length_0 = refl

address_alone : prefix_of (codes "10.0.0.5") ≡ Some (span 167772165 167772165)
unfolding prefix_at ipv4_address_of decimal_up_to decimal_of decimal_value
address_alone = refl

range : ports_of (codes "80-90") ≡ Some (span 80 90)
unfolding ports_at number_up_to number_of decimal_of decimal_value
range = refl

range_turned : ports_of (codes "90-80") ≡ None
unfolding ports_at number_up_to number_of decimal_of decimal_value
range_turned = refl

-- derivations

abbrev protocol : ℕ → Pattern
protocol number = within field.Proto number number

udp : (at : ℕ) → Spells One (token at (codes "udp") ∷ []) (protocol 17)
unfolding keyword_of operator_of head_of
udp at = tested (token at (codes "udp") ∷ []) (test.Value field.Proto (span 17 17)) (form.udp (token at (codes "udp")) refl)

tcp : (at : ℕ) → Spells One (token at (codes "tcp") ∷ []) (protocol 6)
unfolding keyword_of operator_of head_of
tcp at = tested (token at (codes "tcp") ∷ []) (test.Value field.Proto (span 6 6)) (form.tcp (token at (codes "tcp")) refl)

icmp : (at : ℕ) → Spells One (token at (codes "icmp") ∷ []) (protocol 1)
unfolding keyword_of operator_of head_of
icmp at = tested (token at (codes "icmp") ∷ []) (test.Value field.Proto (span 1 1)) (form.icmp (token at (codes "icmp")) refl)

or_is_or : (at : ℕ) → keyword_of (token at (codes "or")).word ≡ Rattle.mt_pattern.specs.declared.keyword.Keyword.TheVariants.Or
unfolding keyword_of operator_of
or_is_or at = refl

and_is_and : (at : ℕ) → keyword_of (token at (codes "and")).word ≡ Rattle.mt_pattern.specs.declared.keyword.Keyword.TheVariants.And
unfolding keyword_of operator_of
and_is_and at = refl

not_is_not : (at : ℕ) → keyword_of (token at (codes "!")).word ≡ Rattle.mt_pattern.specs.declared.keyword.Keyword.TheVariants.Not
unfolding keyword_of operator_of
not_is_not at = refl

-- `and` binds tighter than `or`
tcp_or_udp_and_icmp : IsPattern (codes "tcp or udp and icmp") (pattern.Or (protocol 6) (pattern.And (protocol 17) (protocol 1)))
unfolding tokens_of tokens_from token_len word_len ends_word_at
tcp_or_udp_and_icmp =
    or (token 4 (codes "or")) (token 0 (codes "tcp") ∷ []) (token 7 (codes "udp") ∷ token 11 (codes "and") ∷ token 15 (codes "icmp") ∷ []) (protocol 6) (pattern.And (protocol 17) (protocol 1)) (or_is_or 4)
    (both (token 0 (codes "tcp") ∷ []) (protocol 6) (one (token 0 (codes "tcp") ∷ []) (protocol 6) (tcp 0)))
    (and (token 11 (codes "and")) (token 7 (codes "udp") ∷ []) (token 15 (codes "icmp") ∷ []) (protocol 17) (protocol 1) (and_is_and 11)
    (one (token 7 (codes "udp") ∷ []) (protocol 17) (udp 7)) (icmp 15))

-- two negations stay two
not_not_tcp : IsPattern (codes "!!tcp") (pattern.Not (pattern.Not (protocol 6)))
unfolding tokens_of tokens_from token_len word_len ends_word_at
not_not_tcp =
    both _ _ (one _ _ (negation (token 0 (codes "!")) (token 1 (codes "!") ∷ token 2 (codes "tcp") ∷ []) (pattern.Not (protocol 6)) (not_is_not 0)
    (negation (token 1 (codes "!")) (token 2 (codes "tcp") ∷ []) (protocol 6) (not_is_not 1) (tcp 2))))

-- where texts go wrong

wrong_word : IsWrongAt (codes "tcp or foo") 7
unfolding parse_of run step_of partial_step opens joined tight loose to_either tokens_of tokens_from token_len word_len ends_word_at keyword_of operator_of head_of detail_of next_word first_word further_word
wrong_word = refused_is_wrong (codes "tcp or foo") 7 refl

wrong_end : IsWrongAt (codes "(tcp ") 5
unfolding parse_of run step_of partial_step opens finish_of tight loose to_either tokens_of tokens_from token_len word_len ends_word_at keyword_of operator_of head_of detail_of next_word first_word further_word
wrong_end = refused_is_wrong (codes "(tcp ") 5 refl
