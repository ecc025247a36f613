-- The arguments of LookupIPRoute and the other names of a route table (Click manual, in this project's
-- profile).
use Rattle.std.specs.Prelude.{ℕ, ◌+◌, ◌-◌, ◌%◌, ◌^◌, ◌==◌, if◌then◌else◌, List, [], ◌∷◌, length, take, drop, Option, Some, None}
use Rattle.mt_lists.specs.Options.{◌>>=◌}
use Rattle.mt_lists.specs.Cuts.{index_of}
use Rattle.mt_text.specs.Number.{number_up_to, decimal_up_to}
use Rattle.mt_text.specs.Address.{ipv4_address_of}
use Rattle.mt_lists.specs.Options.{each}
use Rattle.mt_kinds.specs.Arguments.{words_of}
use Rattle.mt_kinds.specs.declared.hop.Hop.{Hop}

-- an address with 0 in the bits past a length
abbrev pub network_of : ℕ → ℕ → ℕ
network_of address len = address - address % 2 ^ (32 - len)

-- an address up to an index and a length behind it, or an address alone, which has 32 bits
unfoldable pub net_at : List ℕ → Option ℕ → Option (ℕ × ℕ)
net_at word None = ipv4_address_of word >>= λ address. Some (address, 32)
net_at word (Some i) = do
  address ← ipv4_address_of (take i word)
  len ← decimal_up_to 32 (drop (i + 1) word)
  Some (network_of address len, len)

-- a prefix, as its address and its length: an address, `/` and 0 to 32, or an address alone
abbrev pub net_of : List ℕ → Option (ℕ × ℕ)
net_of word = net_at word (index_of 47 word)

-- a prefix, perhaps a gateway, and an output from 0 to 511
unfoldable pub hop_in : List (List ℕ) → Option Hop
hop_in (prefix ∷ last ∷ []) = do
  net ← net_of prefix
  out ← number_up_to 511 last
  Some (record { address = net.0; length = net.1; gateway = None; out = out })
hop_in (prefix ∷ second ∷ last ∷ []) = do
  net ← net_of prefix
  gateway ← ipv4_address_of second
  out ← number_up_to 511 last
  Some (record { address = net.0; length = net.1; gateway = Some gateway; out = out })
hop_in _ = None

-- an entry of a route table, by its words
abbrev pub hop_of : List ℕ → Option Hop
hop_of argument = hop_in (words_of argument)

-- one entry at least
unfoldable pub hops_of : List (List ℕ) → Option (List Hop)
hops_of arguments = if length arguments == 0 then None else each hop_of arguments
