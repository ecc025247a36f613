-- A test is read token by token, and that reads its forms.
use Rattle.std.proofs.Common.{◌≡◌, ℕ, List, [], ◌∷◌, ◌++◌, Option, Some, None, refl, ap, subst, ◌∙◌}
use Rattle.std.specs.Prelude.{option_map}
use Rattle.mt_packet.specs.declared.field.Field.{Field}
use Rattle.mt_packet.specs.declared.field.Field.TheVariants as field
use Rattle.mt_packet.specs.declared.span.Span.{Span}
use Rattle.mt_pattern.specs.declared.keyword.Keyword.{Keyword}
use Rattle.mt_pattern.specs.declared.keyword.Keyword.TheVariants as word
use Rattle.mt_pattern.specs.declared.test.Sides.{Sides}
use Rattle.mt_pattern.specs.declared.test.Sides.TheVariants as side
use Rattle.mt_pattern.specs.declared.test.Transport.{Transport}
use Rattle.mt_pattern.specs.declared.test.Transport.TheVariants as transport
use Rattle.mt_pattern.specs.declared.test.Relation.{Relation}
use Rattle.mt_pattern.specs.declared.test.Test.{Test}
use Rattle.mt_pattern.specs.declared.test.Test.TheVariants as test
use Rattle.mt_pattern.specs.declared.test.Stage.{Stage}
use Rattle.mt_pattern.specs.declared.test.Stage.TheVariants as stage
use Rattle.mt_pattern.specs.declared.test.More.{More}
use Rattle.mt_pattern.specs.declared.test.More.TheVariants as further
use Rattle.mt_pattern.specs.declared.test.Next.{Next}
use Rattle.mt_pattern.specs.declared.test.Next.TheVariants as next
use Rattle.mt_pattern.specs.Lexis.{Token}
use Rattle.mt_pattern.specs.Keyword.{keyword_of}
use Rattle.mt_text.specs.Number.{number_up_to}
use Rattle.mt_text.specs.Address.{ipv4_address_of}
use Rattle.mt_pattern.specs.Span.{span, prefix_of, ports_of}
use Rattle.mt_pattern.specs.Test.{equal_to, next_word, first_word, after_side, after_transport, after_ip, after_option, after_port, after_ttl, relation_of, related, test_or_never, tcp_flag, flag_test, whole, on_or_whole, host_test, net_test, ports_test, related_ports, related_ttl, number_test, further_word}
use Rattle.mt_pattern.specs.Forms.{Is, IsDirection, either, source, destination, IsProtocol, unnamed, named_tcp, named_udp, IsTest, always, tcp, udp, icmp, host, net, port, port_related, ip_proto, ip_dscp, ip_ttl, ip_ttl_related, ip_frag, ip_unfrag, tcp_opt, icmp_type}
use Rattle.mt_pattern.proofs.Signs.{number_no_relation, ports_no_relation}

-- how far a test is read: a part of it, or all of it up to what it may go on with
pub data Far : Type 0 where
  Partial : Stage → Far
  Whole : Test → More → Far

abbrev pub far : Next → Option Far
far next.Wrong = None
far (next.On at) = Some (Partial at)
far (next.Whole found more) = Some (Whole found more)

abbrev pub and_on : Option Far → (Far → Option Test) → Option Test
and_on None go_on = None
and_on (Some at) go_on = go_on at

abbrev pub far_with : Far → Keyword → List ℕ → Option Far
far_with (Partial at) keyword word = far (next_word at keyword word)
far_with (Whole found more) keyword word = option_map (λ at. Partial at) (further_word more keyword)

abbrev pub so_far : Far → Option Test
so_far (Partial at) = None
so_far (Whole found more) = Some found

-- the test that these tokens make of one that is read so far
unfoldable pub test_from : List Token → Far → Option Test
test_from [] at = so_far at
test_from (token ∷ rest) at = and_on (far_with at (keyword_of token.word) token.word) (λ after. test_from rest after)

-- the forms are read

host_read : (before : List Token) (sides : Sides) → IsDirection before sides → (a n : Token) (address : ℕ) → Is word.Host a → ipv4_address_of n.word ≡ Some address
    → test_from (before ++ a ∷ n ∷ []) (Partial stage.Start) ≡ Some (test.Address sides (span address address))
unfolding test_from next_word first_word after_side host_test
host_read _ _ either = λ a n address k e. rw (k, e) refl
host_read _ _ (source b j) = λ a n address k e. rw (j, k, e) refl
host_read _ _ (destination b j) = λ a n address k e. rw (j, k, e) refl

net_read : (before : List Token) (sides : Sides) → IsDirection before sides → (a n : Token) (prefix : Span) → Is word.Net a → prefix_of n.word ≡ Some prefix
    → test_from (before ++ a ∷ n ∷ []) (Partial stage.Start) ≡ Some (test.Address sides prefix)
unfolding test_from next_word first_word after_side net_test
net_read _ _ either = λ a n prefix k e. rw (k, e) refl
net_read _ _ (source b j) = λ a n prefix k e. rw (j, k, e) refl
net_read _ _ (destination b j) = λ a n prefix k e. rw (j, k, e) refl

-- what follows `port` is read alike behind each direction and protocol
port_reached : (before : List Token) (sides : Sides) → IsDirection before sides → (named : List Token) (protocol : Transport) → IsProtocol named protocol → (a : Token) (rest : List Token) → Is word.Port a
    → test_from (before ++ (named ++ a ∷ rest)) (Partial stage.Start) ≡ test_from rest (Partial (stage.Port sides protocol))
unfolding test_from next_word first_word after_side after_transport further_word
port_reached _ _ either = λ named protocol p. elim p as (λ ns t q. (a : Token) (rest : List Token) → Is word.Port a → test_from (ns ++ a ∷ rest) (Partial stage.Start) ≡ test_from rest (Partial (stage.Port side.Either t))) [
  | unnamed ↦ λ a rest k. rw k refl
  | named_tcp b j ↦ λ a rest k. rw (j, k) refl
  | named_udp b j ↦ λ a rest k. rw (j, k) refl
]
port_reached _ _ (source c i) = λ named protocol p. elim p as (λ ns t q. (a : Token) (rest : List Token) → Is word.Port a → test_from (c ∷ (ns ++ a ∷ rest)) (Partial stage.Start) ≡ test_from rest (Partial (stage.Port side.Source t))) [
  | unnamed ↦ λ a rest k. rw (i, k) refl
  | named_tcp b j ↦ λ a rest k. rw (i, j, k) refl
  | named_udp b j ↦ λ a rest k. rw (i, j, k) refl
]
port_reached _ _ (destination c i) = λ named protocol p. elim p as (λ ns t q. (a : Token) (rest : List Token) → Is word.Port a → test_from (c ∷ (ns ++ a ∷ rest)) (Partial stage.Start) ≡ test_from rest (Partial (stage.Port side.Destination t))) [
  | unnamed ↦ λ a rest k. rw (i, k) refl
  | named_tcp b j ↦ λ a rest k. rw (i, j, k) refl
  | named_udp b j ↦ λ a rest k. rw (i, j, k) refl
]

ports_read : (sides : Sides) (protocol : Transport) (n : Token) (ports : Span) → ports_of n.word ≡ Some ports → test_from (n ∷ []) (Partial (stage.Port sides protocol)) ≡ Some (test.Ports sides protocol ports)
unfolding test_from next_word after_port ports_test
ports_read sides protocol n ports e = let r = ports_no_relation n.word ports e in rw (r, e) refl

related_ports_read : (sides : Sides) (protocol : Transport) (relation : Relation) (b n : Token) (number : ℕ) → relation_of (keyword_of b.word) ≡ Some relation → number_up_to 65535 n.word ≡ Some number
    → test_from (b ∷ n ∷ []) (Partial (stage.Port sides protocol)) ≡ Some (test_or_never (λ ports. test.Ports sides protocol ports) (related relation number 65535))
unfolding test_from next_word after_port related_ports
related_ports_read sides protocol relation b n number r e = rw (r, e) refl

pub form_is_read : (tokens : List Token) (found : Test) → IsTest tokens found → test_from tokens (Partial stage.Start) ≡ Some found
unfolding test_from next_word first_word after_ip after_option after_ttl further_word number_test related_ttl
form_is_read _ _ (always a k) = rw k refl
form_is_read _ _ (tcp a k) = rw k refl
form_is_read _ _ (udp a k) = rw k refl
form_is_read _ _ (icmp a k) = rw k refl
form_is_read _ _ (host before a n sides address d k e) = host_read before sides d a n address k e
form_is_read _ _ (net before a n sides prefix d k e) = net_read before sides d a n prefix k e
form_is_read _ _ (port before named a n sides protocol ports d p k e) = port_reached before sides d named protocol p a (n ∷ []) k ∙ ports_read sides protocol n ports e
form_is_read _ _ (port_related before named a b n sides protocol relation number d p k r e) =
    port_reached before sides d named protocol p a (b ∷ n ∷ []) k ∙ related_ports_read sides protocol relation b n number r e
form_is_read _ _ (ip_proto a b n number k j e) = rw (k, j, e) refl
form_is_read _ _ (ip_dscp a b n number k j e) = rw (k, j, e) refl
form_is_read _ _ (ip_ttl a b n number k j e) = let r = number_no_relation 255 n.word number e in rw (k, j, r, e) refl
form_is_read _ _ (ip_ttl_related a b c n relation number k j r e) = rw (k, j, r, e) refl
form_is_read _ _ (ip_frag a b k j) = rw (k, j) refl
form_is_read _ _ (ip_unfrag a b k j) = rw (k, j) refl
form_is_read _ _ (tcp_opt a b c flag k j e) = rw (k, j, e) refl
form_is_read _ _ (icmp_type a b n number k j e) = rw (k, j, e) refl

-- what is read is a form

made_of : {A : Type 0} (make : A → Test) (o : Option A) (found : Test) → option_map make o ≡ Some found → (x : A) × (o ≡ Some x) × (make x ≡ found)
made_of make None found e = absurd cc
made_of make (Some x) found e = let i : make x ≡ found = cc in (x, refl, i)

ends_there : (rest : List Token) (made found : Test) → test_from rest (Whole made further.Nothing) ≡ Some found → (rest ≡ []) × (made ≡ found)
unfolding test_from further_word
ends_there [] made found e = let i : made ≡ found = cc in (refl, i)
ends_there (t ∷ rest) made found e = absurd cc

last_word : (o : Option Test) (rest : List Token) (found : Test) → and_on (far (whole o)) (λ after. test_from rest after) ≡ Some found → (o ≡ Some found) × (rest ≡ [])
last_word None rest found e = absurd cc
last_word (Some made) rest found e = let t = ends_there rest made found e in (ap (λ m. Some m) t.1, t.0)

host_form : (sides : Sides) (tokens : List Token) (found : Test) → test_from tokens (Partial (stage.Host sides)) ≡ Some found
    → (before : List Token) (a : Token) → IsDirection before sides → Is word.Host a → IsTest (before ++ a ∷ tokens) found
unfolding test_from next_word host_test
host_form sides [] found e before a d k = absurd cc
host_form sides (n ∷ rest) found e before a d k =
    let t = last_word (host_test sides n.word) rest found e in
    let m = made_of (λ address. test.Address sides (span address address)) (ipv4_address_of n.word) found t.0 in
    rw (t.1) (subst (λ (f : Test). IsTest (before ++ a ∷ n ∷ []) f) m.2 (host before a n sides m.0 d k m.1))

net_form : (sides : Sides) (tokens : List Token) (found : Test) → test_from tokens (Partial (stage.Net sides)) ≡ Some found
    → (before : List Token) (a : Token) → IsDirection before sides → Is word.Net a → IsTest (before ++ a ∷ tokens) found
unfolding test_from next_word net_test
net_form sides [] found e before a d k = absurd cc
net_form sides (n ∷ rest) found e before a d k =
    let t = last_word (net_test sides n.word) rest found e in
    let m = made_of (λ prefix. test.Address sides prefix) (prefix_of n.word) found t.0 in
    rw (t.1) (subst (λ (f : Test). IsTest (before ++ a ∷ n ∷ []) f) m.2 (net before a n sides m.0 d k m.1))

related_port_form : (sides : Sides) (protocol : Transport) (relation : Relation) (tokens : List Token) (found : Test) → test_from tokens (Partial (stage.PortRelation sides protocol relation)) ≡ Some found
    → (before named : List Token) (a b : Token) → IsDirection before sides → IsProtocol named protocol → Is word.Port a → relation_of (keyword_of b.word) ≡ Some relation
    → IsTest (before ++ (named ++ a ∷ b ∷ tokens)) found
unfolding test_from next_word related_ports
related_port_form sides protocol relation [] found e before named a b d p k r = absurd cc
related_port_form sides protocol relation (n ∷ rest) found e before named a b d p k r =
    let t = last_word (related_ports sides protocol relation n.word) rest found e in
    let m = made_of (λ number. test_or_never (λ ports. test.Ports sides protocol ports) (related relation number 65535)) (number_up_to 65535 n.word) found t.0 in
    rw (t.1) (subst (λ (f : Test). IsTest (before ++ (named ++ a ∷ b ∷ n ∷ [])) f) m.2 (port_related before named a b n sides protocol relation m.0 d p k r m.1))

port_word : (sides : Sides) (protocol : Transport) (n : Token) (rest : List Token) (found : Test) (o : Option Relation) → relation_of (keyword_of n.word) ≡ o
    → and_on (far (on_or_whole (λ relation. stage.PortRelation sides protocol relation) o (ports_test sides protocol n.word))) (λ after. test_from rest after) ≡ Some found
    → (before named : List Token) (a : Token) → IsDirection before sides → IsProtocol named protocol → Is word.Port a → IsTest (before ++ (named ++ a ∷ n ∷ rest)) found
unfolding ports_test
port_word sides protocol n rest found None r e before named a d p k =
    let t = last_word (ports_test sides protocol n.word) rest found e in
    let m = made_of (λ ports. test.Ports sides protocol ports) (ports_of n.word) found t.0 in
    rw (t.1) (subst (λ (f : Test). IsTest (before ++ (named ++ a ∷ n ∷ [])) f) m.2 (port before named a n sides protocol m.0 d p k m.1))
port_word sides protocol n rest found (Some relation) r e before named a d p k = related_port_form sides protocol relation rest found e before named a n d p k r

port_form : (sides : Sides) (protocol : Transport) (tokens : List Token) (found : Test) → test_from tokens (Partial (stage.Port sides protocol)) ≡ Some found
    → (before named : List Token) (a : Token) → IsDirection before sides → IsProtocol named protocol → Is word.Port a → IsTest (before ++ (named ++ a ∷ tokens)) found
unfolding test_from next_word after_port
port_form sides protocol [] found e before named a d p k = absurd cc
port_form sides protocol (n ∷ rest) found e before named a d p k = port_word sides protocol n rest found (relation_of (keyword_of n.word)) refl e before named a d p k

-- a last word that is a number
record Numbers (field : Field) (greatest : ℕ) (tokens : List Token) (found : Test) : Type 0 where
  pub last : Token
  pub number : ℕ
  pub alone : tokens ≡ last ∷ []
  pub says : number_up_to greatest last.word ≡ Some number
  pub makes : equal_to field number ≡ found

number_word : (field : Field) (greatest : ℕ) (n : Token) (rest : List Token) (found : Test) → and_on (far (whole (number_test field greatest n.word))) (λ after. test_from rest after) ≡ Some found
    → Numbers field greatest (n ∷ rest) found
unfolding number_test
number_word field greatest n rest found e =
    let t = last_word (number_test field greatest n.word) rest found e in
    let m = made_of (λ number. equal_to field number) (number_up_to greatest n.word) found t.0 in
    record { last = n; number = m.0; alone = ap (λ ts. n ∷ ts) t.1; says = m.1; makes = m.2 }

number_form : (field : Field) (greatest : ℕ) (tokens : List Token) (found : Test) → test_from tokens (Partial (stage.Number field greatest)) ≡ Some found → Numbers field greatest tokens found
unfolding test_from next_word
number_form field greatest [] found e = absurd cc
number_form field greatest (n ∷ rest) found e = number_word field greatest n rest found e

related_ttl_form : (relation : Relation) (tokens : List Token) (found : Test) → test_from tokens (Partial (stage.TtlRelation relation)) ≡ Some found
    → (a b c : Token) → Is word.Ip a → Is word.Ttl b → relation_of (keyword_of c.word) ≡ Some relation → IsTest (a ∷ b ∷ c ∷ tokens) found
unfolding test_from next_word related_ttl
related_ttl_form relation [] found e a b c k j r = absurd cc
related_ttl_form relation (n ∷ rest) found e a b c k j r =
    let t = last_word (related_ttl relation n.word) rest found e in
    let m = made_of (λ number. test_or_never (λ values. test.Value field.Ttl values) (related relation number 255)) (number_up_to 255 n.word) found t.0 in
    rw (t.1) (subst (λ (f : Test). IsTest (a ∷ b ∷ c ∷ n ∷ []) f) m.2 (ip_ttl_related a b c n relation m.0 k j r m.1))

ttl_word : (n : Token) (rest : List Token) (found : Test) (o : Option Relation) → relation_of (keyword_of n.word) ≡ o
    → and_on (far (on_or_whole (λ relation. stage.TtlRelation relation) o (number_test field.Ttl 255 n.word))) (λ after. test_from rest after) ≡ Some found
    → (a b : Token) → Is word.Ip a → Is word.Ttl b → IsTest (a ∷ b ∷ n ∷ rest) found
ttl_word n rest found None r e a b k j =
    let w = number_word field.Ttl 255 n rest found e in
    rw (w.alone) (subst (λ (f : Test). IsTest (a ∷ b ∷ w.last ∷ []) f) w.makes (ip_ttl a b w.last w.number k j w.says))
ttl_word n rest found (Some relation) r e a b k j = related_ttl_form relation rest found e a b n k j r

ttl_form : (tokens : List Token) (found : Test) → test_from tokens (Partial stage.Ttl) ≡ Some found → (a b : Token) → Is word.Ip a → Is word.Ttl b → IsTest (a ∷ b ∷ tokens) found
unfolding test_from next_word after_ttl
ttl_form [] found e a b k j = absurd cc
ttl_form (n ∷ rest) found e a b k j = ttl_word n rest found (relation_of (keyword_of n.word)) refl e a b k j

ip_word : (keyword : Keyword) (b : Token) (rest : List Token) (found : Test) → Is keyword b → and_on (far (after_ip keyword)) (λ after. test_from rest after) ≡ Some found → (a : Token) → Is word.Ip a → IsTest (a ∷ b ∷ rest) found
unfolding after_ip
ip_word word.Proto b rest found j e a k =
    let w = number_form field.Proto 255 rest found e in
    rw (w.alone) (subst (λ (f : Test). IsTest (a ∷ b ∷ w.last ∷ []) f) w.makes (ip_proto a b w.last w.number k j w.says))
ip_word word.Dscp b rest found j e a k =
    let w = number_form field.Dscp 63 rest found e in
    rw (w.alone) (subst (λ (f : Test). IsTest (a ∷ b ∷ w.last ∷ []) f) w.makes (ip_dscp a b w.last w.number k j w.says))
ip_word word.Ttl b rest found j e a k = ttl_form rest found e a b k j
ip_word word.Frag b rest found j e a k =
    let t = ends_there rest test.Fragment found e in rw (t.0) (subst (λ (f : Test). IsTest (a ∷ b ∷ []) f) t.1 (ip_frag a b k j))
ip_word word.Unfrag b rest found j e a k =
    let t = ends_there rest test.Unfragmented found e in rw (t.0) (subst (λ (f : Test). IsTest (a ∷ b ∷ []) f) t.1 (ip_unfrag a b k j))
ip_word _ b rest found j e a k = absurd cc

ip_form : (tokens : List Token) (found : Test) → test_from tokens (Partial stage.Ip) ≡ Some found → (a : Token) → Is word.Ip a → IsTest (a ∷ tokens) found
unfolding test_from next_word
ip_form [] found e a k = absurd cc
ip_form (b ∷ rest) found e a k = ip_word (keyword_of b.word) b rest found refl e a k

flag_word : (c : Token) (rest : List Token) (found : Test) (o : Option Field) → tcp_flag (keyword_of c.word) ≡ o → and_on (far (flag_test o)) (λ after. test_from rest after) ≡ Some found
    → (a b : Token) → Is word.Tcp a → Is word.Opt b → IsTest (a ∷ b ∷ c ∷ rest) found
flag_word c rest found None o e a b k j = absurd cc
flag_word c rest found (Some flag) o e a b k j =
    let t = ends_there rest (equal_to flag 1) found e in rw (t.0) (subst (λ (f : Test). IsTest (a ∷ b ∷ c ∷ []) f) t.1 (tcp_opt a b c flag k j o))

flag_form : (tokens : List Token) (found : Test) → test_from tokens (Partial stage.TcpOption) ≡ Some found → (a b : Token) → Is word.Tcp a → Is word.Opt b → IsTest (a ∷ b ∷ tokens) found
unfolding test_from next_word after_option
flag_form [] found e a b k j = absurd cc
flag_form (c ∷ rest) found e a b k j = flag_word c rest found (tcp_flag (keyword_of c.word)) refl e a b k j

tcp_word : (keyword : Keyword) (b : Token) (rest : List Token) (found : Test) → Is keyword b → and_on (option_map (λ at. Partial at) (further_word further.Tcp keyword)) (λ after. test_from rest after) ≡ Some found
    → (a : Token) → Is word.Tcp a → IsTest (a ∷ b ∷ rest) found
unfolding further_word
tcp_word word.Port b rest found j e a k = port_form side.Either transport.Tcp rest found e [] (a ∷ []) b either (named_tcp a k) j
tcp_word word.Opt b rest found j e a k = flag_form rest found e a b k j
tcp_word _ b rest found j e a k = absurd cc

tcp_form : (tokens : List Token) (found : Test) → test_from tokens (Whole (equal_to field.Proto 6) further.Tcp) ≡ Some found → (a : Token) → Is word.Tcp a → IsTest (a ∷ tokens) found
unfolding test_from
tcp_form [] found e a k = let i : equal_to field.Proto 6 ≡ found = cc in subst (λ (f : Test). IsTest (a ∷ []) f) i (tcp a k)
tcp_form (b ∷ rest) found e a k = tcp_word (keyword_of b.word) b rest found refl e a k

udp_word : (keyword : Keyword) (b : Token) (rest : List Token) (found : Test) → Is keyword b → and_on (option_map (λ at. Partial at) (further_word further.Udp keyword)) (λ after. test_from rest after) ≡ Some found
    → (a : Token) → Is word.Udp a → IsTest (a ∷ b ∷ rest) found
unfolding further_word
udp_word word.Port b rest found j e a k = port_form side.Either transport.Udp rest found e [] (a ∷ []) b either (named_udp a k) j
udp_word _ b rest found j e a k = absurd cc

udp_form : (tokens : List Token) (found : Test) → test_from tokens (Whole (equal_to field.Proto 17) further.Udp) ≡ Some found → (a : Token) → Is word.Udp a → IsTest (a ∷ tokens) found
unfolding test_from
udp_form [] found e a k = let i : equal_to field.Proto 17 ≡ found = cc in subst (λ (f : Test). IsTest (a ∷ []) f) i (udp a k)
udp_form (b ∷ rest) found e a k = udp_word (keyword_of b.word) b rest found refl e a k

icmp_word : (keyword : Keyword) (b : Token) (rest : List Token) (found : Test) → Is keyword b → and_on (option_map (λ at. Partial at) (further_word further.Icmp keyword)) (λ after. test_from rest after) ≡ Some found
    → (a : Token) → Is word.Icmp a → IsTest (a ∷ b ∷ rest) found
unfolding further_word
icmp_word word.MessageType b rest found j e a k =
    let w = number_form field.IcmpType 255 rest found e in
    rw (w.alone) (subst (λ (f : Test). IsTest (a ∷ b ∷ w.last ∷ []) f) w.makes (icmp_type a b w.last w.number k j w.says))
icmp_word _ b rest found j e a k = absurd cc

icmp_form : (tokens : List Token) (found : Test) → test_from tokens (Whole (equal_to field.Proto 1) further.Icmp) ≡ Some found → (a : Token) → Is word.Icmp a → IsTest (a ∷ tokens) found
unfolding test_from
icmp_form [] found e a k = let i : equal_to field.Proto 1 ≡ found = cc in subst (λ (f : Test). IsTest (a ∷ []) f) i (icmp a k)
icmp_form (b ∷ rest) found e a k = icmp_word (keyword_of b.word) b rest found refl e a k

transport_word : (sides : Sides) (protocol : Transport) (keyword : Keyword) (c : Token) (rest : List Token) (found : Test) → Is keyword c → and_on (far (after_transport sides protocol keyword)) (λ after. test_from rest after) ≡ Some found
    → (before named : List Token) → IsDirection before sides → IsProtocol named protocol → IsTest (before ++ (named ++ c ∷ rest)) found
unfolding after_transport
transport_word sides protocol word.Port c rest found j e before named d p = port_form sides protocol rest found e before named c d p j
transport_word sides protocol _ c rest found j e before named d p = absurd cc

transport_form : (sides : Sides) (protocol : Transport) (tokens : List Token) (found : Test) → test_from tokens (Partial (stage.Transport sides protocol)) ≡ Some found
    → (before named : List Token) → IsDirection before sides → IsProtocol named protocol → IsTest (before ++ (named ++ tokens)) found
unfolding test_from next_word
transport_form sides protocol [] found e before named d p = absurd cc
transport_form sides protocol (c ∷ rest) found e before named d p = transport_word sides protocol (keyword_of c.word) c rest found refl e before named d p

side_word : (sides : Sides) (keyword : Keyword) (b : Token) (rest : List Token) (found : Test) → Is keyword b → and_on (far (after_side sides keyword)) (λ after. test_from rest after) ≡ Some found
    → (before : List Token) → IsDirection before sides → IsTest (before ++ b ∷ rest) found
unfolding after_side
side_word sides word.Host b rest found j e before d = host_form sides rest found e before b d j
side_word sides word.Net b rest found j e before d = net_form sides rest found e before b d j
side_word sides word.Port b rest found j e before d = port_form sides transport.Unnamed rest found e before [] b d unnamed j
side_word sides word.Tcp b rest found j e before d = transport_form sides transport.Tcp rest found e before (b ∷ []) d (named_tcp b j)
side_word sides word.Udp b rest found j e before d = transport_form sides transport.Udp rest found e before (b ∷ []) d (named_udp b j)
side_word sides _ b rest found j e before d = absurd cc

side_form : (sides : Sides) (tokens : List Token) (found : Test) → test_from tokens (Partial (stage.Side sides)) ≡ Some found → (before : List Token) → IsDirection before sides → IsTest (before ++ tokens) found
unfolding test_from next_word
side_form sides [] found e before d = absurd cc
side_form sides (b ∷ rest) found e before d = side_word sides (keyword_of b.word) b rest found refl e before d

first_form : (keyword : Keyword) (a : Token) (rest : List Token) (found : Test) → Is keyword a → and_on (far (first_word keyword)) (λ after. test_from rest after) ≡ Some found → IsTest (a ∷ rest) found
unfolding first_word
first_form word.Always a rest found k e =
    let t = ends_there rest test.Always found e in rw (t.0) (subst (λ (f : Test). IsTest (a ∷ []) f) t.1 (always a k))
first_form word.Src a rest found k e = side_form side.Source rest found e (a ∷ []) (source a k)
first_form word.Dst a rest found k e = side_form side.Destination rest found e (a ∷ []) (destination a k)
first_form word.Host a rest found k e = host_form side.Either rest found e [] a either k
first_form word.Net a rest found k e = net_form side.Either rest found e [] a either k
first_form word.Port a rest found k e = port_form side.Either transport.Unnamed rest found e [] [] a either unnamed k
first_form word.Tcp a rest found k e = tcp_form rest found e a k
first_form word.Udp a rest found k e = udp_form rest found e a k
first_form word.Icmp a rest found k e = icmp_form rest found e a k
first_form word.Ip a rest found k e = ip_form rest found e a k
first_form _ a rest found k e = absurd cc

pub read_is_form : (tokens : List Token) (found : Test) → test_from tokens (Partial stage.Start) ≡ Some found → IsTest tokens found
unfolding test_from next_word
read_is_form [] found e = absurd cc
read_is_form (a ∷ rest) found e = first_form (keyword_of a.word) a rest found refl e
