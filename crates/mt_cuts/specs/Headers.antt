-- The headers of a chain as lists.
use Rattle.std.specs.Prelude.{ℕ, ◌≡◌, List, length}
use Rattle.mt_packet.specs.Header.{field_of}
use Rattle.mt_cuts.specs.Canonical.{InDomain}

-- a header of a chain on which frames arrive on so many devices: a number for each field, in its range
pub record IsHeaderOf (devices : ℕ) (header : List ℕ) : Type 0 where
  pub whole : length header ≡ 24
  pub in_domain : InDomain devices (field_of header)
