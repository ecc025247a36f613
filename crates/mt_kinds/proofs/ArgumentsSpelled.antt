-- The arguments of filters and route tables are those that are spelled so.
use Rattle.std.proofs.Common.{◌≡◌, ◌∙◌, sym, ap, subst, ℕ, ◌+◌, ◌-◌, ◌*◌, ◌/◌, ◌%◌, ◌^◌, List, ◌∷◌, ◌++◌, length, drop, arith}
use Rattle.std.specs.Prelude.{◌↔◌, Option, Some, None, Result, Ok, Err}
use Rattle.std.proofs.lemmas.Nat.{mod_below}
use Rattle.std.proofs.Math.Nat.{div-add-mod, mul_comm, mul-mod_left}
use Rattle.std.proofs.lemmas.Option.{option_and_then_some, same_Some, none-some}
use Rattle.mt_lists.specs.Options.{◌>>=◌}
use Rattle.mt_text.specs.Number.{number_up_to, decimal_up_to}
use Rattle.mt_text.specs.Address.{ipv4_address_of}
use Rattle.mt_pattern.specs.Parser.{parse_of}
use Rattle.mt_pattern.specs.declared.pattern.Pattern.{Pattern}
use Rattle.mt_kinds.specs.Filters.{action_of, if_read, ip_pattern_of, rule_at, rule_of}
use Rattle.mt_kinds.specs.Arguments.{words_of}
use Rattle.mt_kinds.specs.Routes.{network_of, net_at, net_of, hop_in, hop_of}
use Rattle.mt_lists.specs.Cuts.{HasNo}
use Rattle.mt_kinds.specs.ArgumentSpelling.{IsRule, IsNet, alone, of_length, IsHop, direct, by_gateway}
use Rattle.mt_kinds.specs.declared.hop.Hop.{Hop}
use Rattle.mt_kinds.specs.declared.rule.FilterAction.{FilterAction}
use Rattle.mt_kinds.specs.declared.rule.Rule.{Rule}
use Rattle.mt_kinds.proofs.WordsCut.{one_word, more_words}
use Rattle.mt_lists.proofs.Cuts.{Cut, whole, parts, cut, index_in, no_index, behind, before}

-- ---- rules

abbrev made_rule : FilterAction → Pattern → Rule
made_rule action pattern = record { action = action; pattern = pattern }

abbrev rule_in : List ℕ → List ℕ → Option Rule
rule_in word text = action_of word >>= λ action. ip_pattern_of text >>= λ pattern. Some (made_rule action pattern)

rule_parts : (word text : List ℕ) → HasNo 32 word → rule_of (word ++ 32 ∷ text) ≡ rule_in word text
unfolding rule_at
rule_parts word text none =
    ap (rule_at (word ++ 32 ∷ text)) (index_in 32 word text none)
    ∙ ap (λ front. rule_in front (drop (length word + 1) (word ++ 32 ∷ text))) (before 32 word text)
    ∙ ap (rule_in word) (behind 32 word text)

no_rule : (argument : List ℕ) → HasNo 32 argument → rule_of argument ≡ None
unfolding rule_at
no_rule argument none = ap (rule_at argument) (no_index 32 argument none)

read_pattern : (found : Result Pattern ℕ) (pattern : Pattern) → if_read found ≡ Some pattern → found ≡ Ok pattern
read_pattern (Ok other) pattern is = ap Ok (same_Some other pattern is)
read_pattern (Err at) pattern is = absurd (none-some pattern is)

parsed : (text : List ℕ) (pattern : Pattern) → ip_pattern_of text ≡ Some pattern → parse_of text ≡ Ok pattern
unfolding ip_pattern_of
parsed text pattern is = read_pattern (parse_of text) pattern is

from_parsed : (text : List ℕ) (pattern : Pattern) → parse_of text ≡ Ok pattern → ip_pattern_of text ≡ Some pattern
unfolding ip_pattern_of
from_parsed text pattern is = ap if_read is

rule_told : (argument : List ℕ) (rule : Rule) → Cut 32 argument → rule_of argument ≡ Some rule → IsRule argument rule
rule_told argument rule (whole none) is = absurd (none-some rule (sym (no_rule argument none) ∙ is))
rule_told argument rule (parts word text spelled none) is =
    option_and_then_some _ (action_of word) rule (sym (ap rule_of spelled ∙ rule_parts word text none) ∙ is) (λ action acts rest.
    option_and_then_some _ (ip_pattern_of text) rule rest (λ pattern holds same.
    let e = same_Some (made_rule action pattern) rule same in
    record {
      word = word;
      text = text;
      spelled = spelled;
      one_word = none;
      acts = acts ∙ ap (λ (r : Rule). Some r.action) e;
      holds = parsed text pattern holds ∙ ap (λ (r : Rule). Ok r.pattern) e;
    }))

rule_read : (argument : List ℕ) (rule : Rule) → IsRule argument rule → rule_of argument ≡ Some rule
rule_read argument rule h =
    ap rule_of h.spelled
    ∙ rule_parts h.word h.text h.one_word
    ∙ ap (λ found. found >>= λ action. ip_pattern_of h.text >>= λ pattern. Some (made_rule action pattern)) h.acts
    ∙ ap (λ found. found >>= λ pattern. Some (made_rule rule.action pattern)) (from_parsed h.text rule.pattern h.holds)

pub rule_spelled : (argument : List ℕ) (rule : Rule) → (rule_of argument ≡ Some rule) ↔ IsRule argument rule
rule_spelled argument rule = (λ is. rule_told argument rule (cut 32 argument) is, λ h. rule_read argument rule h)

-- ---- prefixes

abbrev net_in : List ℕ → List ℕ → Option (ℕ × ℕ)
net_in front rest = ipv4_address_of front >>= λ address. decimal_up_to 32 rest >>= λ len. Some (network_of address len, len)

net_parts : (front rest : List ℕ) → HasNo 47 front → net_of (front ++ 47 ∷ rest) ≡ net_in front rest
unfolding net_at
net_parts front rest none =
    ap (net_at (front ++ 47 ∷ rest)) (index_in 47 front rest none)
    ∙ ap (λ text. net_in text (drop (length front + 1) (front ++ 47 ∷ rest))) (before 47 front rest)
    ∙ ap (net_in front) (behind 47 front rest)

net_alone : (word : List ℕ) → HasNo 47 word → net_of word ≡ (ipv4_address_of word >>= λ address. Some (address, 32))
unfolding net_at
net_alone word none = ap (net_at word) (no_index 47 word none)

net_told : (word : List ℕ) (net : ℕ × ℕ) → Cut 47 word → net_of word ≡ Some net → IsNet word net.0 net.1
net_told word net (whole none) is =
    option_and_then_some _ (ipv4_address_of word) net (sym (net_alone word none) ∙ is) (λ address found same.
    let e = same_Some (address, 32) net same in
    alone none (found ∙ ap (λ (n : ℕ × ℕ). Some n.0) e) (sym (ap (λ (n : ℕ × ℕ). n.1) e)))
net_told word net (parts front rest spelled none) is =
    option_and_then_some _ (ipv4_address_of front) net (sym (ap net_of spelled ∙ net_parts front rest none) ∙ is) (λ address found more.
    option_and_then_some _ (decimal_up_to 32 rest) net more (λ len bits same.
    let e = same_Some (network_of address len, len) net same in
    let len_is = ap (λ (n : ℕ × ℕ). n.1) e in
    of_length front rest address spelled none found (bits ∙ ap Some len_is) (sym (ap (λ (n : ℕ × ℕ). n.0) e) ∙ ap (network_of address) len_is)))

net_read : (word : List ℕ) (address bits : ℕ) → IsNet word address bits → net_of word ≡ Some (address, bits)
net_read word address bits (alone none found whole_is) =
    net_alone word none ∙ ap (λ o. o >>= λ a. Some (a, 32)) found ∙ ap (λ n. Some (address, n)) (sym whole_is)
net_read word network bits (of_length front rest address spelled none found len is) =
    ap net_of spelled
    ∙ net_parts front rest none
    ∙ ap (λ o. o >>= λ a. decimal_up_to 32 rest >>= λ n. Some (network_of a n, n)) found
    ∙ ap (λ o. o >>= λ n. Some (network_of address n, n)) len
    ∙ ap (λ n. Some (n, bits)) (sym is)

-- bits past the length are 0
network_low : (s a : ℕ) → (a - a % s) % s ≡ 0
network_low s a =
    let whole = div-add-mod a s in
    let turned : (a / s) * s ≡ s * (a / s) = mul_comm (a / s) s in
    let e : (a / s) * s ≡ a - a % s = omega arith in
    subst (λ (n : ℕ). n % s ≡ 0) e (mul-mod_left (a / s) s)

net_low : (word : List ℕ) (network bits : ℕ) → IsNet word network bits → network % 2 ^ (32 - bits) ≡ 0
net_low word network bits (alone none found whole_is) = subst (λ (n : ℕ). network % 2 ^ (32 - n) ≡ 0) (sym whole_is) (let below = mod_below network 1 (omega arith) in omega (arith, below))
net_low word network bits (of_length front rest address spelled none found len is) = subst (λ (n : ℕ). n % 2 ^ (32 - bits) ≡ 0) (sym is) (network_low (2 ^ (32 - bits)) address)

-- ---- entries of a route table

abbrev made_hop : ℕ × ℕ → Option ℕ → ℕ → Hop
made_hop net gateway out = record { address = net.0; length = net.1; gateway = gateway; out = out }

abbrev near_hop : Option (ℕ × ℕ) → Option ℕ → Option Hop
near_hop net out = net >>= λ n. out >>= λ o. Some (made_hop n None o)

abbrev far_hop : Option (ℕ × ℕ) → Option ℕ → Option ℕ → Option Hop
far_hop net second out = net >>= λ n. second >>= λ g. out >>= λ o. Some (made_hop n (Some g) o)

two_words : (net last : List ℕ) → HasNo 32 net → HasNo 32 last → hop_of (net ++ 32 ∷ last) ≡ near_hop (net_of net) (number_up_to 511 last)
unfolding hop_in
two_words net last first second =
    ap hop_in (more_words net last first ∙ ap (λ words. net ∷ words) (one_word last second))

three_words : (net second last : List ℕ) → HasNo 32 net → HasNo 32 second → HasNo 32 last
    → hop_of (net ++ 32 ∷ (second ++ 32 ∷ last)) ≡ far_hop (net_of net) (ipv4_address_of second) (number_up_to 511 last)
unfolding hop_in
three_words net second last first middle third =
    ap hop_in (more_words net (second ++ 32 ∷ last) first ∙ ap (λ words. net ∷ words) (more_words second last middle ∙ ap (λ words. second ∷ words) (one_word last third)))

only_one : (argument : List ℕ) → HasNo 32 argument → hop_of argument ≡ None
unfolding hop_in
only_one argument none = ap hop_in (one_word argument none)

four_words : (a b c rest : List ℕ) → Cut 32 rest → HasNo 32 a → HasNo 32 b → HasNo 32 c → hop_of (a ++ 32 ∷ (b ++ 32 ∷ (c ++ 32 ∷ rest))) ≡ None
unfolding hop_in
four_words a b c rest (whole none) first middle third =
    ap hop_in (more_words a (b ++ 32 ∷ (c ++ 32 ∷ rest)) first ∙ ap (λ words. a ∷ words) (more_words b (c ++ 32 ∷ rest) middle ∙ ap (λ words. b ∷ words) (more_words c rest third ∙ ap (λ words. c ∷ words) (one_word rest none))))
four_words a b c rest (parts front more spelled none) first middle third =
    ap hop_in (more_words a (b ++ 32 ∷ (c ++ 32 ∷ rest)) first ∙ ap (λ words. a ∷ words) (more_words b (c ++ 32 ∷ rest) middle ∙ ap (λ words. b ∷ words) (more_words c rest third
    ∙ ap (λ words. c ∷ words) (ap words_of spelled ∙ more_words front more none))))

told_near : (argument net last : List ℕ) (hop : Hop) → argument ≡ net ++ 32 ∷ last → HasNo 32 net → HasNo 32 last → near_hop (net_of net) (number_up_to 511 last) ≡ Some hop → IsHop argument hop
told_near argument net last hop spelled first second is =
    option_and_then_some _ (net_of net) hop is (λ prefix found rest.
    option_and_then_some _ (number_up_to 511 last) hop rest (λ out sent same.
    let e = same_Some (made_hop prefix None out) hop same in
    direct net last spelled first second (subst (λ (h : Hop). IsNet net h.address h.length) e (net_told net prefix (cut 47 net) found)) (sym (ap (λ (h : Hop). h.gateway) e)) (sent ∙ ap (λ (h : Hop). Some h.out) e)))

told_far : (argument net second last : List ℕ) (hop : Hop) → argument ≡ net ++ 32 ∷ (second ++ 32 ∷ last) → HasNo 32 net → HasNo 32 second → HasNo 32 last
    → far_hop (net_of net) (ipv4_address_of second) (number_up_to 511 last) ≡ Some hop → IsHop argument hop
told_far argument net second last hop spelled first middle third is =
    option_and_then_some _ (net_of net) hop is (λ prefix found rest.
    option_and_then_some _ (ipv4_address_of second) hop rest (λ gateway next more.
    option_and_then_some _ (number_up_to 511 last) hop more (λ out sent same.
    let e = same_Some (made_hop prefix (Some gateway) out) hop same in
    by_gateway net second last gateway spelled first middle third (subst (λ (h : Hop). IsNet net h.address h.length) e (net_told net prefix (cut 47 net) found)) next (sym (ap (λ (h : Hop). h.gateway) e))
    (sent ∙ ap (λ (h : Hop). Some h.out) e))))

module _ (argument : List ℕ) (hop : Hop) (is : hop_of argument ≡ Some hop) where
  third_cut : (a b c : List ℕ) → argument ≡ a ++ 32 ∷ (b ++ 32 ∷ c) → HasNo 32 a → HasNo 32 b → Cut 32 c → IsHop argument hop
  third_cut a b c spelled first middle (whole third) = told_far argument a b c hop spelled first middle third (sym (ap hop_of spelled ∙ three_words a b c first middle third) ∙ is)
  third_cut a b c spelled first middle (parts front rest more third) =
      absurd (none-some hop (sym (ap hop_of (spelled ∙ ap (λ l. a ++ 32 ∷ (b ++ 32 ∷ l)) more) ∙ four_words a b front rest (cut 32 rest) first middle third) ∙ is))

  second_cut : (a b : List ℕ) → argument ≡ a ++ 32 ∷ b → HasNo 32 a → Cut 32 b → IsHop argument hop
  second_cut a b spelled first (whole second) = told_near argument a b hop spelled first second (sym (ap hop_of spelled ∙ two_words a b first second) ∙ is)
  second_cut a b spelled first (parts front rest more second) = third_cut a front rest (spelled ∙ ap (λ l. a ++ 32 ∷ l) more) first second (cut 32 rest)

  first_cut : Cut 32 argument → IsHop argument hop
  first_cut (whole none) = absurd (none-some hop (sym (only_one argument none) ∙ is))
  first_cut (parts front rest spelled first) = second_cut front rest spelled first (cut 32 rest)

as_made : (hop : Hop) (gateway : Option ℕ) → hop.gateway ≡ gateway → made_hop (hop.address, hop.length) gateway hop.out ≡ hop
as_made hop gateway is = sym (ap (λ g. made_hop (hop.address, hop.length) g hop.out) is)

hop_read : (argument : List ℕ) (hop : Hop) → IsHop argument hop → hop_of argument ≡ Some hop
hop_read argument hop (direct net last spelled first second prefix near out) =
    ap hop_of spelled
    ∙ two_words net last first second
    ∙ ap (λ n. near_hop n (number_up_to 511 last)) (net_read net hop.address hop.length prefix)
    ∙ ap (near_hop (Some (hop.address, hop.length))) out
    ∙ ap Some (as_made hop None near)
hop_read argument hop (by_gateway net second last gateway spelled first middle third prefix found far out) =
    ap hop_of spelled
    ∙ three_words net second last first middle third
    ∙ ap (λ n. far_hop n (ipv4_address_of second) (number_up_to 511 last)) (net_read net hop.address hop.length prefix)
    ∙ ap (λ g. far_hop (Some (hop.address, hop.length)) g (number_up_to 511 last)) found
    ∙ ap (far_hop (Some (hop.address, hop.length)) (Some gateway)) out
    ∙ ap Some (as_made hop (Some gateway) far)

pub hop_spelled : (argument : List ℕ) (hop : Hop) → (hop_of argument ≡ Some hop) ↔ IsHop argument hop
hop_spelled argument hop = (λ is. first_cut argument hop is (cut 32 argument), λ h. hop_read argument hop h)

low_in : (argument : List ℕ) (hop : Hop) → IsHop argument hop → hop.address % 2 ^ (32 - hop.length) ≡ 0
low_in argument hop (direct net last spelled first second prefix near out) = net_low net hop.address hop.length prefix
low_in argument hop (by_gateway net second last gateway spelled first middle third prefix found far out) = net_low net hop.address hop.length prefix

pub low_bits : (argument : List ℕ) (hop : Hop) → hop_of argument ≡ Some hop → hop.address % 2 ^ (32 - hop.length) ≡ 0
low_bits argument hop is = low_in argument hop ((hop_spelled argument hop).0 is)
