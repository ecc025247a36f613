-- How the arguments of rewriters, mappers and devices are spelled.
use Rattle.std.specs.Prelude.{◌≡◌, ◌≤◌, ◌↔◌, ℕ, true, false, List, [], ◌∷◌, ◌++◌, codes, Option, Some, None}
use Rattle.std.specs.List.{All, join_with_byte}
use Rattle.std.specs.Str.{bytes_eq}
use Rattle.mt_lists.specs.Cuts.{HasNo}
use Rattle.mt_text.specs.Number.{number_up_to}
use Rattle.mt_text.specs.Address.{ipv4_address_of}
use Rattle.mt_text.specs.Byte.{is_identifier}
use Rattle.mt_kinds.specs.Arguments.{is_keyword}
use Rattle.mt_kinds.specs.Rewriters.{template_of, spec_of}
use Rattle.mt_kinds.specs.Descriptions.{device_of}
use Rattle.mt_kinds.specs.declared.written.WrittenPort.{WrittenPort}
use Rattle.mt_kinds.specs.declared.written.WrittenPort.TheVariants as port
use Rattle.mt_kinds.specs.declared.written.WrittenSpec.{WrittenSpec}
use Rattle.mt_kinds.specs.declared.written.WrittenSpec.TheVariants as spec
use Rattle.mt_kinds.specs.declared.written.WrittenTemplate.{WrittenTemplate}

-- words without a space, and a space between two of them
abbrev pub AreWords : List (List ℕ) → List ℕ → Type 0
AreWords words text = (text ≡ join_with_byte 32 words) × All (HasNo 32) words

-- ---- templates

-- `-`, which leaves the address as it is, or an address
pub data IsAddress (word : List ℕ) (address : Option ℕ) : Type 0 where
  stays : word ≡ codes "-" → address ≡ None → IsAddress word address
  becomes : (value : ℕ) → ipv4_address_of word ≡ Some value → address ≡ Some value → IsAddress word address

-- `-`, which leaves the port as it is, or a port
pub data IsPort (word : List ℕ) (number : Option ℕ) : Type 0 where
  port_stays : word ≡ codes "-" → number ≡ None → IsPort word number
  port_becomes : (value : ℕ) → number_up_to 65535 word ≡ Some value → number ≡ Some value → IsPort word number

-- `-`, a port, or LO-HI where the source address becomes another one
pub data IsSource (address : Option ℕ) (word : List ℕ) (ports : WrittenPort) : Type 0 where
  same : word ≡ codes "-" → ports ≡ port.Same → IsSource address word ports
  one : (value : ℕ) → HasNo 45 word → number_up_to 65535 word ≡ Some value → ports ≡ port.One value → IsSource address word ports
  range : (first second : List ℕ) (of lo hi : ℕ) → address ≡ Some of → word ≡ first ++ 45 ∷ second → HasNo 45 first → number_up_to 65535 first ≡ Some lo → number_up_to 65535 second ≡ Some hi
      → lo ≤ hi → ports ≡ port.Range lo hi → IsSource address word ports

-- SADDR SPORT DADDR DPORT FOUT ROUT
pub record IsTemplate (words : List (List ℕ)) (template : WrittenTemplate) : Type 0 where
  pub saddr : List ℕ
  pub sport : List ℕ
  pub daddr : List ℕ
  pub dport : List ℕ
  pub first : List ℕ
  pub second : List ℕ
  pub six : words ≡ saddr ∷ sport ∷ daddr ∷ dport ∷ first ∷ second ∷ []
  pub source : IsAddress saddr template.sa
  pub source_port : IsSource template.sa sport template.sp
  pub destination : IsAddress daddr template.da
  pub destination_port : IsPort dport template.dp
  pub forward : number_up_to 511 first ≡ Some template.fout
  pub reply : number_up_to 511 second ≡ Some template.rout

-- a template of a mapper, with `pattern` before it or not
pub data IsMapped (argument : List ℕ) (template : WrittenTemplate) : Type 0 where
  alone : (words : List (List ℕ)) → AreWords words argument → IsTemplate words template → IsMapped argument template
  behind : (words : List (List ℕ)) → AreWords (codes "pattern" ∷ words) argument → IsTemplate words template → IsMapped argument template

-- ---- specifications

pub data IsSpec (argument : List ℕ) (made : WrittenSpec) : Type 0 where
  drops : argument ≡ codes "drop" → made ≡ spec.Drop → IsSpec argument made
  passes : (word : List ℕ) (out : ℕ) → AreWords (codes "pass" ∷ word ∷ []) argument → number_up_to 511 word ≡ Some out → made ≡ spec.Pass out → IsSpec argument made
  keeps : (first second : List ℕ) (fout rout : ℕ) → AreWords (codes "keep" ∷ first ∷ second ∷ []) argument → number_up_to 511 first ≡ Some fout → number_up_to 511 second ≡ Some rout
      → made ≡ spec.Keep fout rout → IsSpec argument made
  makes : (words : List (List ℕ)) (template : WrittenTemplate) → AreWords (codes "pattern" ∷ words) argument → IsTemplate words template → made ≡ spec.Pattern template → IsSpec argument made
  names : is_identifier argument ≡ true → bytes_eq argument (codes "drop") ≡ false → made ≡ spec.Mapper argument → IsSpec argument made

-- ---- devices

-- the name of a device, and arguments that begin with an upper-case word
pub record IsDevice (arguments : List (List ℕ)) (name : List ℕ) : Type 0 where
  pub others : List (List ℕ)
  pub first : arguments ≡ name ∷ others
  pub named : is_identifier name ≡ true
  pub keywords : All (λ argument. is_keyword argument ≡ true) others

-- ---- read exactly where it is spelled so

-- an argument of an IPRewriter is read as a specification exactly where it is spelled as that one
abbrev pub SpecsAreSpelled : Type 0
SpecsAreSpelled = (argument : List ℕ) (made : WrittenSpec) → (spec_of argument ≡ Some made) ↔ IsSpec argument made

-- an argument of a RoundRobinIPMapper is read as a template exactly where it is spelled as that one
abbrev pub TemplatesAreSpelled : Type 0
TemplatesAreSpelled = (argument : List ℕ) (template : WrittenTemplate) → (template_of argument ≡ Some template) ↔ IsMapped argument template

-- the arguments of a FromDevice or a ToDevice name a device exactly where they are spelled so
abbrev pub DevicesAreSpelled : Type 0
DevicesAreSpelled = (arguments : List (List ℕ)) (name : List ℕ) → (device_of arguments ≡ Some name) ↔ IsDevice arguments name
