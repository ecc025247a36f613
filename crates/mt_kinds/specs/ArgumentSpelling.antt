-- How the arguments of filters and route tables are spelled.
use Rattle.std.specs.Prelude.{◌≡◌, ◌↔◌, ℕ, ◌-◌, ◌%◌, ◌^◌, List, ◌∷◌, ◌++◌, Some, None, Ok}
use Rattle.mt_text.specs.Number.{number_up_to, decimal_up_to}
use Rattle.mt_text.specs.Address.{ipv4_address_of}
use Rattle.mt_pattern.specs.Parser.{parse_of}
use Rattle.mt_lists.specs.Cuts.{HasNo}
use Rattle.mt_kinds.specs.Filters.{action_of, rule_of}
use Rattle.mt_kinds.specs.Routes.{network_of, hop_of}
use Rattle.mt_kinds.specs.declared.hop.Hop.{Hop}
use Rattle.mt_kinds.specs.declared.rule.Rule.{Rule}

-- ACTION PATTERN
pub record IsRule (argument : List ℕ) (rule : Rule) : Type 0 where
  pub word : List ℕ
  pub text : List ℕ
  pub spelled : argument ≡ word ++ 32 ∷ text
  pub one_word : HasNo 32 word
  pub acts : action_of word ≡ Some rule.action
  pub holds : parse_of text ≡ Ok rule.pattern

-- ADDRESS, or ADDRESS/LENGTH, of which bits past the length do not count
pub data IsNet (word : List ℕ) (network bits : ℕ) : Type 0 where
  alone : HasNo 47 word → ipv4_address_of word ≡ Some network → bits ≡ 32 → IsNet word network bits
  of_length : (front rest : List ℕ) (address : ℕ) → word ≡ front ++ 47 ∷ rest → HasNo 47 front → ipv4_address_of front ≡ Some address → decimal_up_to 32 rest ≡ Some bits
      → network ≡ network_of address bits → IsNet word network bits

-- PREFIX OUT or PREFIX GATEWAY OUT
pub data IsHop (argument : List ℕ) (hop : Hop) : Type 0 where
  direct : (net last : List ℕ) → argument ≡ net ++ 32 ∷ last → HasNo 32 net → HasNo 32 last → IsNet net hop.address hop.length → hop.gateway ≡ None → number_up_to 511 last ≡ Some hop.out
      → IsHop argument hop
  by_gateway : (net second last : List ℕ) (gateway : ℕ) → argument ≡ net ++ 32 ∷ (second ++ 32 ∷ last) → HasNo 32 net → HasNo 32 second → HasNo 32 last → IsNet net hop.address hop.length
      → ipv4_address_of second ≡ Some gateway → hop.gateway ≡ Some gateway → number_up_to 511 last ≡ Some hop.out → IsHop argument hop

-- an argument of an IPFilter is read as a rule exactly where it is spelled as that rule
abbrev pub RulesAreSpelled : Type 0
RulesAreSpelled = (argument : List ℕ) (rule : Rule) → (rule_of argument ≡ Some rule) ↔ IsRule argument rule

-- an argument of a route table is read as an entry exactly where it is spelled as that entry
abbrev pub HopsAreSpelled : Type 0
HopsAreSpelled = (argument : List ℕ) (hop : Hop) → (hop_of argument ≡ Some hop) ↔ IsHop argument hop

-- bits past the length are 0 in the address of an entry
abbrev pub LowBitsAreZero : Type 0
LowBitsAreZero = (argument : List ℕ) (hop : Hop) → hop_of argument ≡ Some hop → hop.address % 2 ^ (32 - hop.length) ≡ 0
