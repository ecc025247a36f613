-- The tests of a pattern, form by form. A form ends, where it has one, with the word that is its number,
-- address, prefix or ports.
use Rattle.std.specs.Prelude.{◌≡◌, ℕ, ◌<◌, ◌≤◌, true, List, [], ◌∷◌, ◌++◌, Option, Some, None}
use Rattle.mt_packet.specs.declared.field.Field.{Field}
use Rattle.mt_packet.specs.declared.field.Field.TheVariants as field
use Rattle.mt_packet.specs.declared.span.Span.{Span}
use Rattle.mt_pattern.specs.declared.keyword.Keyword.{Keyword}
use Rattle.mt_pattern.specs.declared.keyword.Keyword.TheVariants as word
use Rattle.mt_pattern.specs.declared.test.Sides.{Sides}
use Rattle.mt_pattern.specs.declared.test.Sides.TheVariants as side
use Rattle.mt_pattern.specs.declared.test.Transport.{Transport}
use Rattle.mt_pattern.specs.declared.test.Transport.TheVariants as transport
use Rattle.mt_pattern.specs.declared.test.Relation.{Relation}
use Rattle.mt_pattern.specs.declared.test.Relation.TheVariants as relation
use Rattle.mt_pattern.specs.declared.test.Test.{Test}
use Rattle.mt_pattern.specs.declared.test.Test.TheVariants as test
use Rattle.mt_pattern.specs.Lexis.{Token}
use Rattle.mt_pattern.specs.Meaning.{contains_number}
use Rattle.mt_pattern.specs.Keyword.{keyword_of}
use Rattle.mt_text.specs.Number.{number_up_to}
use Rattle.mt_text.specs.Address.{ipv4_address_of}
use Rattle.mt_pattern.specs.Span.{span, prefix_of, ports_of}
use Rattle.mt_pattern.specs.Test.{equal_to, tcp_flag, relation_of, related, test_or_never}

abbrev pub Is : Keyword → Token → Type 0
Is keyword token = keyword_of token.word ≡ keyword

-- a number is in the relation to another
abbrev pub IsRelated : Relation → ℕ → ℕ → Type 0
IsRelated relation.More number other = other < number
IsRelated relation.Less number other = number < other
IsRelated relation.AtLeast number other = other ≤ number
IsRelated relation.AtMost number other = number ≤ other

-- a number is in a span, which may be none
abbrev pub IsIn : Option Span → ℕ → Type 0
IsIn None number = ⊥
IsIn (Some values) number = contains_number values number ≡ true

-- `src`, `dst` or nothing
pub data IsDirection : List Token → Sides → Type 0 where
  either : IsDirection [] side.Either
  source : (a : Token) → Is word.Src a → IsDirection (a ∷ []) side.Source
  destination : (a : Token) → Is word.Dst a → IsDirection (a ∷ []) side.Destination

-- `tcp`, `udp` or nothing
pub data IsProtocol : List Token → Transport → Type 0 where
  unnamed : IsProtocol [] transport.Unnamed
  named_tcp : (a : Token) → Is word.Tcp a → IsProtocol (a ∷ []) transport.Tcp
  named_udp : (a : Token) → Is word.Udp a → IsProtocol (a ∷ []) transport.Udp

-- these tokens are that test
pub data IsTest : List Token → Test → Type 0 where
  always : (a : Token) → Is word.Always a → IsTest (a ∷ []) test.Always
  tcp : (a : Token) → Is word.Tcp a → IsTest (a ∷ []) (equal_to field.Proto 6)
  udp : (a : Token) → Is word.Udp a → IsTest (a ∷ []) (equal_to field.Proto 17)
  icmp : (a : Token) → Is word.Icmp a → IsTest (a ∷ []) (equal_to field.Proto 1)
  host : (side : List Token) (a n : Token) (sides : Sides) (address : ℕ) → IsDirection side sides → Is word.Host a → ipv4_address_of n.word ≡ Some address
      → IsTest (side ++ a ∷ n ∷ []) (test.Address sides (span address address))
  net : (side : List Token) (a n : Token) (sides : Sides) (prefix : Span) → IsDirection side sides → Is word.Net a → prefix_of n.word ≡ Some prefix
      → IsTest (side ++ a ∷ n ∷ []) (test.Address sides prefix)
  port : (side named : List Token) (a n : Token) (sides : Sides) (protocol : Transport) (ports : Span) → IsDirection side sides → IsProtocol named protocol → Is word.Port a
      → ports_of n.word ≡ Some ports → IsTest (side ++ (named ++ a ∷ n ∷ [])) (test.Ports sides protocol ports)
  port_related : (side named : List Token) (a b n : Token) (sides : Sides) (protocol : Transport) (relation : Relation) (number : ℕ) → IsDirection side sides → IsProtocol named protocol
      → Is word.Port a → relation_of (keyword_of b.word) ≡ Some relation → number_up_to 65535 n.word ≡ Some number
      → IsTest (side ++ (named ++ a ∷ b ∷ n ∷ [])) (test_or_never (λ ports. test.Ports sides protocol ports) (related relation number 65535))
  ip_proto : (a b n : Token) (number : ℕ) → Is word.Ip a → Is word.Proto b → number_up_to 255 n.word ≡ Some number → IsTest (a ∷ b ∷ n ∷ []) (equal_to field.Proto number)
  ip_dscp : (a b n : Token) (number : ℕ) → Is word.Ip a → Is word.Dscp b → number_up_to 63 n.word ≡ Some number → IsTest (a ∷ b ∷ n ∷ []) (equal_to field.Dscp number)
  ip_ttl : (a b n : Token) (number : ℕ) → Is word.Ip a → Is word.Ttl b → number_up_to 255 n.word ≡ Some number → IsTest (a ∷ b ∷ n ∷ []) (equal_to field.Ttl number)
  ip_ttl_related : (a b c n : Token) (relation : Relation) (number : ℕ) → Is word.Ip a → Is word.Ttl b → relation_of (keyword_of c.word) ≡ Some relation → number_up_to 255 n.word ≡ Some number
      → IsTest (a ∷ b ∷ c ∷ n ∷ []) (test_or_never (λ values. test.Value field.Ttl values) (related relation number 255))
  ip_frag : (a b : Token) → Is word.Ip a → Is word.Frag b → IsTest (a ∷ b ∷ []) test.Fragment
  ip_unfrag : (a b : Token) → Is word.Ip a → Is word.Unfrag b → IsTest (a ∷ b ∷ []) test.Unfragmented
  tcp_opt : (a b c : Token) (flag : Field) → Is word.Tcp a → Is word.Opt b → tcp_flag (keyword_of c.word) ≡ Some flag → IsTest (a ∷ b ∷ c ∷ []) (equal_to flag 1)
  icmp_type : (a b n : Token) (number : ℕ) → Is word.Icmp a → Is word.MessageType b → number_up_to 255 n.word ≡ Some number → IsTest (a ∷ b ∷ n ∷ []) (equal_to field.IcmpType number)
