-- The arguments of IPRewriter and RoundRobinIPMapper (Click manual, in this project's profile).
use Rattle.std.specs.Prelude.{ℕ, ◌+◌, ◌==◌, nat_le, if◌then◌else◌, List, [], ◌∷◌, length, take, drop, codes, Option, Some, None, option_map}
use Rattle.std.specs.Str.{bytes_eq}
use Rattle.mt_lists.specs.Options.{◌>>=◌, each}
use Rattle.mt_lists.specs.Cuts.{index_of}
use Rattle.mt_text.specs.Number.{number_up_to}
use Rattle.mt_text.specs.Address.{ipv4_address_of}
use Rattle.mt_text.specs.Byte.{is_identifier}
use Rattle.mt_kinds.specs.Arguments.{words_of}
use Rattle.mt_kinds.specs.declared.written.WrittenPort.{WrittenPort}
use Rattle.mt_kinds.specs.declared.written.WrittenPort.TheVariants as port
use Rattle.mt_kinds.specs.declared.written.WrittenSpec.{WrittenSpec}
use Rattle.mt_kinds.specs.declared.written.WrittenSpec.TheVariants as spec
use Rattle.mt_kinds.specs.declared.written.WrittenTemplate.{WrittenTemplate}

-- ---- parts of a template

-- an address, or `-` for the one that stays
unfoldable pub address_part : List ℕ → Option (Option ℕ)
address_part word = if bytes_eq word (codes "-") then Some None else option_map Some (ipv4_address_of word)

-- a port, or `-` for the one that stays
unfoldable pub port_part : List ℕ → Option (Option ℕ)
port_part word = if bytes_eq word (codes "-") then Some None else option_map Some (number_up_to 65535 word)

-- ports of an address from the first to the second
unfoldable pub range_of : Option ℕ → List ℕ → List ℕ → Option WrittenPort
range_of None first second = None
range_of (Some address) first second = do
  lo ← number_up_to 65535 first
  hi ← number_up_to 65535 second
  (if nat_le lo hi then Some (port.Range lo hi) else None)

-- a port, or a range of ports with a dash at that index
unfoldable pub ports_at : Option ℕ → List ℕ → Option ℕ → Option WrittenPort
ports_at address word None = option_map port.One (number_up_to 65535 word)
ports_at address word (Some i) = range_of address (take i word) (drop (i + 1) word)

-- a port or a range of ports of an address, or `-` for the one that stays
unfoldable pub source_port : Option ℕ → List ℕ → Option WrittenPort
source_port address word = if bytes_eq word (codes "-") then Some port.Same else ports_at address word (index_of 45 word)

-- SADDR SPORT DADDR DPORT FOUT ROUT
unfoldable pub template_in : List (List ℕ) → Option WrittenTemplate
template_in (saddr ∷ sport ∷ daddr ∷ dport ∷ first ∷ second ∷ []) = do
  sa ← address_part saddr
  sp ← source_port sa sport
  da ← address_part daddr
  dp ← port_part dport
  fout ← number_up_to 511 first
  rout ← number_up_to 511 second
  Some (record { sa = sa; sp = sp; da = da; dp = dp; fout = fout; rout = rout })
template_in _ = None

-- ---- templates of a mapper

-- the words behind `pattern`, where that is the first of them
unfoldable pub behind_pattern : List (List ℕ) → List (List ℕ)
behind_pattern [] = []
behind_pattern (word ∷ words) = if bytes_eq word (codes "pattern") then words else word ∷ words

-- a template, with the word `pattern` before it or not
abbrev pub template_of : List ℕ → Option WrittenTemplate
template_of argument = template_in (behind_pattern (words_of argument))

-- one template at least
unfoldable pub templates_of : List (List ℕ) → Option (List WrittenTemplate)
templates_of arguments = if length arguments == 0 then None else each template_of arguments

-- ---- specifications of a rewriter

-- OUT
unfoldable pub pass_in : List (List ℕ) → Option WrittenSpec
pass_in (out ∷ []) = option_map spec.Pass (number_up_to 511 out)
pass_in _ = None

-- FOUT ROUT
unfoldable pub keep_in : List (List ℕ) → Option WrittenSpec
keep_in (first ∷ second ∷ []) = do
  fout ← number_up_to 511 first
  rout ← number_up_to 511 second
  Some (spec.Keep fout rout)
keep_in _ = None

-- `drop`, or the name of a mapper
unfoldable pub one_word : List ℕ → Option WrittenSpec
one_word word = if bytes_eq word (codes "drop") then Some spec.Drop else if is_identifier word then Some (spec.Mapper word) else None

-- a word with others behind it
unfoldable pub more_words : List ℕ → List (List ℕ) → Option WrittenSpec
more_words word words =
    if bytes_eq word (codes "pass") then pass_in words
    else if bytes_eq word (codes "keep") then keep_in words
    else if bytes_eq word (codes "pattern") then option_map spec.Pattern (template_in words)
    else None

unfoldable pub spec_in : List (List ℕ) → Option WrittenSpec
spec_in [] = None
spec_in (word ∷ []) = one_word word
spec_in (word ∷ words) = more_words word words

-- a specification, by its words
abbrev pub spec_of : List ℕ → Option WrittenSpec
spec_of argument = spec_in (words_of argument)

-- one specification at least
unfoldable pub specs_of : List (List ℕ) → Option (List WrittenSpec)
specs_of arguments = if length arguments == 0 then None else each spec_of arguments
