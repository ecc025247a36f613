-- The entry of a route table for an address: that with the longest prefix (RFC 1812, section 5.2.4.3), and
-- the first of equal ones.
use Rattle.std.specs.Prelude.{◌≡◌, ℕ, ◌<◌, ◌≤◌, Bool, true, false, ◌&&◌, nat_lt, if◌then◌else◌, List, fold, slice_get, Option, Some, None}
use Rattle.mt_pattern.specs.Meaning.{contains_number}
use Rattle.mt_pattern.specs.Span.{prefix_span}
use Rattle.mt_kinds.specs.declared.hop.Hop.{Hop}

-- the address is in the prefix of an entry: both agree in its high bits
unfoldable pub is_in : ℕ → Hop → Bool
is_in address hop = contains_number (prefix_span hop.address hop.length) address

-- the prefix of an entry is longer than that of the entry found so far
abbrev pub is_longer : Hop → Option Hop → Bool
is_longer hop None = true
is_longer hop (Some found) = nat_lt found.length hop.length

-- the entry that is found with one more
unfoldable pub better : ℕ → Option Hop → Hop → Option Hop
better address found hop = if is_in address hop && is_longer hop found then Some hop else found

-- the entry for an address, found one after the other
unfoldable pub route_of : ℕ → List Hop → Option Hop
route_of address hops = fold (better address) None hops

-- ---- which entry it is

-- The line at a index has the address in its prefix. No entry with the address in its prefix has a longer
-- one, and none that stands before it has one as long.
pub record IsLongest (address : ℕ) (hops : List Hop) (index : ℕ) (hop : Hop) : Type 0 where
  pub stands : slice_get hops index ≡ Some hop
  pub holds : is_in address hop ≡ true
  pub longest : (i : ℕ) (other : Hop) → slice_get hops i ≡ Some other → is_in address other ≡ true → other.length ≤ hop.length
  pub first : (i : ℕ) (other : Hop) → slice_get hops i ≡ Some other → is_in address other ≡ true → i < index → other.length < hop.length

-- no entry has the address in its prefix
abbrev pub IsNowhere : ℕ → List Hop → Type 0
IsNowhere address hops = (i : ℕ) (other : Hop) → slice_get hops i ≡ Some other → is_in address other ≡ false

-- the entry of a table for an address, or none
abbrev pub IsRoute : ℕ → List Hop → Option Hop → Type 0
IsRoute address hops (Some hop) = (index : ℕ) × IsLongest address hops index hop
IsRoute address hops None = IsNowhere address hops
