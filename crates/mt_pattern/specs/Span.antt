-- Spans in words: the addresses of a prefix, and ranges of ports.
use Rattle.std.specs.Prelude.{ℕ, ◌+◌, ◌-◌, ◌%◌, ◌^◌, nat_le, if◌then◌else◌, List, take, drop, Option, Some, None}
use Rattle.mt_packet.specs.declared.span.Span.{Span}
use Rattle.mt_lists.specs.Options.{◌>>=◌}
use Rattle.mt_text.specs.Number.{number_up_to, decimal_up_to}
use Rattle.mt_lists.specs.Cuts.{index_of}
use Rattle.mt_text.specs.Address.{ipv4_address_of}

abbrev pub span : ℕ → ℕ → Span
span lo hi = record { lo = lo; hi = hi }

-- the addresses of a prefix: those that agree with its address in so many high bits
unfoldable pub prefix_span : ℕ → ℕ → Span
prefix_span address len = let size = 2 ^ (32 - len) in span (address - address % size) (address - address % size + (size - 1))

-- a prefix: an address, `/` and 0 to 32 in decimal, or an address alone
unfoldable pub prefix_at : List ℕ → Option ℕ → Option Span
prefix_at word None = ipv4_address_of word >>= λ address. Some (span address address)
prefix_at word (Some i) = do
  address ← ipv4_address_of (take i word)
  len ← decimal_up_to 32 (drop (i + 1) word)
  Some (prefix_span address len)

abbrev pub prefix_of : List ℕ → Option Span
prefix_of word = prefix_at word (index_of 47 word)

-- a port, or a first and a last port joined by `-`, the first no greater than the last
unfoldable pub ports_at : List ℕ → Option ℕ → Option Span
ports_at word None = number_up_to 65535 word >>= λ port. Some (span port port)
ports_at word (Some i) = do
  first ← number_up_to 65535 (take i word)
  last ← number_up_to 65535 (drop (i + 1) word)
  (if nat_le first last then Some (span first last) else None)

abbrev pub ports_of : List ℕ → Option Span
ports_of word = ports_at word (index_of 45 word)
