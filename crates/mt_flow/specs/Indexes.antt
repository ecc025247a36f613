-- What entering a mapping into the indexes changes, and taking it out.
use Rattle.std.specs.Prelude.{◌≡◌, [], ◌∷◌, ◌++◌, ◌+◌, ◌-◌, Some, None}
use Rattle.std.specs.BTreeMap as tree
use Rattle.std.specs.Map.{remove_entry}
use Rattle.std.specs.Ordering.{nat_cmp}
use Rattle.mt_flow.specs.Counts.{IsCounted, count_of}
use Rattle.mt_flow.specs.Keys.{lane_cmp, lane_key, reply_cmp}
use Rattle.mt_flow.specs.declared.keys.ForwardKey.{ForwardKey}
use Rattle.mt_flow.specs.declared.keys.ReplyKey.{ReplyKey}
use Rattle.mt_flow.specs.declared.keys.LaneAge.{LaneAge}
use Rattle.mt_flow.specs.declared.keys.LaneKey.{LaneKey}
use Rattle.mt_flow.specs.declared.indexes.Indexes.{Indexes}

pub record IsEntered (old new : Indexes) (answer : ReplyKey) (place : LaneAge) (key : ForwardKey) : Type 0 where
  pub reply : tree.Updates reply_cmp old.by_reply new.by_reply answer (Some key)
  pub lane : tree.Updates lane_cmp old.by_lane new.by_lane place (Some key)
  pub order : new.by_age.entries ≡ old.by_age.entries ++ (place.age, key) ∷ []
  pub count : IsCounted old.counts new.counts (lane_key place) (count_of old.counts (lane_key place) + 1)

pub record IsLeft (old new : Indexes) (answer : ReplyKey) (place : LaneAge) : Type 0 where
  pub reply : tree.Updates reply_cmp old.by_reply new.by_reply answer None
  pub lane : tree.Updates lane_cmp old.by_lane new.by_lane place None
  pub order : new.by_age.entries ≡ remove_entry (tree.is_at (nat_cmp place.age)) old.by_age.entries
  pub count : IsCounted old.counts new.counts (lane_key place) (count_of old.counts (lane_key place) - 1)

-- the same is found
pub record IsAsBefore (old new : Indexes) : Type 0 where
  pub reply : (answer : ReplyKey) → tree.get reply_cmp new.by_reply answer ≡ tree.get reply_cmp old.by_reply answer
  pub lane : (place : LaneAge) → tree.get lane_cmp new.by_lane place ≡ tree.get lane_cmp old.by_lane place
  pub order : new.by_age.entries ≡ old.by_age.entries
  pub count : (lane : LaneKey) → count_of new.counts lane ≡ count_of old.counts lane
