-- One test of a header: how its words follow one another.
use Rattle.std.specs.Prelude.{ℕ, ◌+◌, ◌-◌, ◌==◌, if◌then◌else◌, List, Option, Some, None, option_map}
use Rattle.mt_packet.specs.declared.field.Field.{Field}
use Rattle.mt_packet.specs.declared.field.Field.TheVariants as field
use Rattle.mt_packet.specs.declared.span.Span.{Span}
use Rattle.mt_pattern.specs.declared.keyword.Keyword.{Keyword}
use Rattle.mt_pattern.specs.declared.keyword.Keyword.TheVariants as word
use Rattle.mt_pattern.specs.declared.test.Sides.{Sides}
use Rattle.mt_pattern.specs.declared.test.Sides.TheVariants.{Source, Destination, Either}
use Rattle.mt_pattern.specs.declared.test.Transport.{Transport}
use Rattle.mt_pattern.specs.declared.test.Transport.TheVariants as transport
use Rattle.mt_pattern.specs.declared.test.Relation.{Relation}
use Rattle.mt_pattern.specs.declared.test.Relation.TheVariants.{More, Less, AtLeast, AtMost}
use Rattle.mt_pattern.specs.declared.test.Test.{Test}
use Rattle.mt_pattern.specs.declared.test.Test.TheVariants as test
use Rattle.mt_pattern.specs.declared.test.Stage.{Stage}
use Rattle.mt_pattern.specs.declared.test.Stage.TheVariants as stage
use Rattle.mt_pattern.specs.declared.test.More.{More as Further}
use Rattle.mt_pattern.specs.declared.test.More.TheVariants as further
use Rattle.mt_pattern.specs.declared.test.Next.{Next}
use Rattle.mt_pattern.specs.declared.test.Next.TheVariants.{Wrong, On, Whole}
use Rattle.mt_text.specs.Number.{number_up_to}
use Rattle.mt_text.specs.Address.{ipv4_address_of}
use Rattle.mt_pattern.specs.Span.{span, prefix_of, ports_of}

-- the field has this value
abbrev pub equal_to : Field → ℕ → Test
equal_to field number = test.Value field (span number number)

-- the first word of a test
unfoldable pub first_word : Keyword → Next
first_word word.Always = Whole test.Always further.Nothing
first_word word.Src = On (stage.Side Source)
first_word word.Dst = On (stage.Side Destination)
first_word word.Host = On (stage.Host Either)
first_word word.Net = On (stage.Net Either)
first_word word.Port = On (stage.Port Either transport.Unnamed)
first_word word.Tcp = Whole (equal_to field.Proto 6) further.Tcp
first_word word.Udp = Whole (equal_to field.Proto 17) further.Udp
first_word word.Icmp = Whole (equal_to field.Proto 1) further.Icmp
first_word word.Ip = On stage.Ip
first_word _ = Wrong

-- behind `src` or `dst`
unfoldable pub after_side : Sides → Keyword → Next
after_side sides word.Host = On (stage.Host sides)
after_side sides word.Net = On (stage.Net sides)
after_side sides word.Port = On (stage.Port sides transport.Unnamed)
after_side sides word.Tcp = On (stage.Transport sides transport.Tcp)
after_side sides word.Udp = On (stage.Transport sides transport.Udp)
after_side sides _ = Wrong

-- behind `src tcp` and the like
unfoldable pub after_transport : Sides → Transport → Keyword → Next
after_transport sides protocol word.Port = On (stage.Port sides protocol)
after_transport sides protocol _ = Wrong

-- behind `ip`
unfoldable pub after_ip : Keyword → Next
after_ip word.Proto = On (stage.Number field.Proto 255)
after_ip word.Dscp = On (stage.Number field.Dscp 63)
after_ip word.Ttl = On stage.Ttl
after_ip word.Frag = Whole test.Fragment further.Nothing
after_ip word.Unfrag = Whole test.Unfragmented further.Nothing
after_ip _ = Wrong

-- the flag that a word names
unfoldable pub tcp_flag : Keyword → Option Field
tcp_flag word.Syn = Some field.Syn
tcp_flag word.Ack = Some field.Ack
tcp_flag word.Fin = Some field.Fin
tcp_flag word.Rst = Some field.Rst
tcp_flag _ = None

abbrev pub flag_test : Option Field → Next
flag_test None = Wrong
flag_test (Some flag) = Whole (equal_to flag 1) further.Nothing

-- behind `tcp opt`
unfoldable pub after_option : Keyword → Next
after_option keyword = flag_test (tcp_flag keyword)

unfoldable pub relation_of : Keyword → Option Relation
relation_of word.More = Some More
relation_of word.Less = Some Less
relation_of word.AtLeast = Some AtLeast
relation_of word.AtMost = Some AtMost
relation_of _ = None

-- the values from 0 to the greatest that are in the relation to a number
unfoldable pub related : Relation → ℕ → ℕ → Option Span
related More number greatest = if number == greatest then None else Some (span (number + 1) greatest)
related Less number greatest = if number == 0 then None else Some (span 0 (number - 1))
related AtLeast number greatest = Some (span number greatest)
related AtMost number greatest = Some (span 0 number)

-- the test of the values that are related, which none may be
abbrev pub test_or_never : (Span → Test) → Option Span → Test
test_or_never make None = test.Never
test_or_never make (Some found) = make found

abbrev pub whole : Option Test → Next
whole None = Wrong
whole (Some found) = Whole found further.Nothing

-- a word that is a number up to the greatest value of a field
unfoldable pub number_test : Field → ℕ → List ℕ → Option Test
number_test field greatest word = option_map (λ n. equal_to field n) (number_up_to greatest word)

-- behind `host`
unfoldable pub host_test : Sides → List ℕ → Option Test
host_test sides word = option_map (λ address. test.Address sides (span address address)) (ipv4_address_of word)

-- behind `net`
unfoldable pub net_test : Sides → List ℕ → Option Test
net_test sides word = option_map (λ prefix. test.Address sides prefix) (prefix_of word)

-- behind `port`
unfoldable pub ports_test : Sides → Transport → List ℕ → Option Test
ports_test sides protocol word = option_map (λ ports. test.Ports sides protocol ports) (ports_of word)

-- behind `port` and a relation
unfoldable pub related_ports : Sides → Transport → Relation → List ℕ → Option Test
related_ports sides protocol relation word =
    option_map (λ port. test_or_never (λ ports. test.Ports sides protocol ports) (related relation port 65535)) (number_up_to 65535 word)

-- behind `ip ttl` and a relation
unfoldable pub related_ttl : Relation → List ℕ → Option Test
related_ttl relation word =
    option_map (λ ttl. test_or_never (λ values. test.Value field.Ttl values) (related relation ttl 255)) (number_up_to 255 word)

abbrev pub on_or_whole : (Relation → Stage) → Option Relation → Option Test → Next
on_or_whole make None found = whole found
on_or_whole make (Some relation) found = On (make relation)

unfoldable pub after_port : Sides → Transport → Keyword → List ℕ → Next
after_port sides protocol keyword word = on_or_whole (λ relation. stage.PortRelation sides protocol relation) (relation_of keyword) (ports_test sides protocol word)

unfoldable pub after_ttl : Keyword → List ℕ → Next
after_ttl keyword word = on_or_whole (λ relation. stage.TtlRelation relation) (relation_of keyword) (number_test field.Ttl 255 word)

-- what the next word makes of a test that is read so far
unfoldable pub next_word : Stage → Keyword → List ℕ → Next
next_word stage.Start keyword word = first_word keyword
next_word (stage.Side sides) keyword word = after_side sides keyword
next_word (stage.Transport sides protocol) keyword word = after_transport sides protocol keyword
next_word (stage.Host sides) keyword word = whole (host_test sides word)
next_word (stage.Net sides) keyword word = whole (net_test sides word)
next_word (stage.Port sides protocol) keyword word = after_port sides protocol keyword word
next_word (stage.PortRelation sides protocol relation) keyword word = whole (related_ports sides protocol relation word)
next_word stage.Ip keyword word = after_ip keyword
next_word (stage.Number field greatest) keyword word = whole (number_test field greatest word)
next_word stage.Ttl keyword word = after_ttl keyword word
next_word (stage.TtlRelation relation) keyword word = whole (related_ttl relation word)
next_word stage.TcpOption keyword word = after_option keyword

-- where a test that is whole goes on: `tcp port`, `tcp opt`, `udp port`, `icmp type`
unfoldable pub further_word : Further → Keyword → Option Stage
further_word further.Tcp word.Port = Some (stage.Port Either transport.Tcp)
further_word further.Tcp word.Opt = Some stage.TcpOption
further_word further.Udp word.Port = Some (stage.Port Either transport.Udp)
further_word further.Icmp word.MessageType = Some (stage.Number field.IcmpType 255)
further_word _ _ = None
