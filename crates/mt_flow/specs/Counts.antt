-- How many mappings each lane has.
use Rattle.std.specs.Prelude.{◌≡◌, ◌≢◌, ◌==◌, ◌&&◌, ℕ, Bool, List, length, filter}
use Rattle.std.specs.BTreeMap as tree
use Rattle.std.specs.Map.{count_at}
use Rattle.mt_flow.specs.Keys.{key_cmp}
use Rattle.mt_flow.specs.declared.keys.LaneKey.{LaneKey}
use Rattle.mt_flow.specs.declared.mapping.Mapping.{Mapping}

abbrev pub Counts : Type 0
Counts = tree.BTreeMap LaneKey ℕ

-- how many a lane has, 0 where none was ever counted
abbrev pub count_of : Counts → LaneKey → ℕ
count_of counts lane = count_at (tree.get key_cmp counts) lane

-- one lane has another count
pub record IsCounted (old new : Counts) (lane : LaneKey) (count : ℕ) : Type 0 where
  pub here : count_of new lane ≡ count
  pub apart : (other : LaneKey) → other ≢ lane → count_of new other ≡ count_of old other

abbrev pub is_at : LaneKey → Mapping → Bool
is_at lane mapping = (mapping.group == lane.group) && (mapping.bucket == lane.bucket)

-- each lane has as many as counted
abbrev pub AreCounted : Counts → List Mapping → Type 0
AreCounted counts mappings = (lane : LaneKey) → count_of counts lane ≡ length (filter (is_at lane) mappings)
