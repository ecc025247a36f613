-- Where each output leads, as a table.
use Rattle.std.specs.Prelude.{◌≡◌, ℕ, ◌<◌, ◌≤◌, true, List, length, slice_get, Option, Some, None}
use Rattle.mt_elements.specs.ChainState.{ChainState, next_of, outputs_of}
use Rattle.mt_elements.specs.Wired.{free_at}

-- where the outputs of an element lead, in their order; one that leads nowhere may do so
pub record IsRow (chain : ChainState) (element : ℕ) (row : List (Option (ℕ × ℕ))) : Type 0 where
  pub whole : length row ≡ outputs_of chain element
  pub leads : (out : ℕ) → out < outputs_of chain element → slice_get row out ≡ Some (next_of chain element out)
  pub closed : (out : ℕ) → out < outputs_of chain element → next_of chain element out ≡ None → free_at (slice_get chain.kinds element) out ≡ true

-- a row for each element
pub record IsTable (chain : ChainState) (table : List (List (Option (ℕ × ℕ)))) : Type 0 where
  pub whole : length table ≡ length chain.kinds
  pub rows : (element : ℕ) (row : List (Option (ℕ × ℕ))) → slice_get table element ≡ Some row → IsRow chain element row

-- how many outputs each element has
pub record AreCounts (chain : ChainState) (counts : List ℕ) : Type 0 where
  pub whole : length counts ≡ length chain.kinds
  pub each : (element : ℕ) (count : ℕ) → slice_get counts element ≡ Some count → count ≡ outputs_of chain element
  pub few : (element : ℕ) (count : ℕ) → slice_get counts element ≡ Some count → count ≤ 4294967296
