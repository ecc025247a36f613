-- Which mappings are of some lanes, and what is left where the first of them are taken.
use Rattle.std.specs.Prelude.{◌≡◌, ℕ, zero, suc, ◌/◌, ◌%◌, ◌^◌, ◌<◌, ◌≤◌, ◌==◌, ◌&&◌, nat_lt, nat_le, Bool, true, List, [], ◌∷◌, ◌++◌, filter, Option, Some, None, if◌then◌else◌, MatchOption}
use Rattle.mt_flow.specs.declared.keys.ForwardKey.{ForwardKey}
use Rattle.mt_flow.specs.declared.keys.LaneAge.{LaneAge}
use Rattle.mt_flow.specs.declared.mapping.Mapping.{Mapping}

-- a bucket below 64 is meant by its bit, the lowest bit being that of bucket 0
abbrev pub has_bucket : ℕ → ℕ → Bool
has_bucket buckets bucket = nat_lt bucket 64 && ((buckets / 2 ^ bucket) % 2 == 1)

-- the mapping is of the group and of one of the buckets
abbrev pub is_of : ℕ → ℕ → Mapping → Bool
is_of group buckets mapping = (mapping.group == group) && has_bucket buckets mapping.bucket

-- the list without the first so many that pass a test
abbrev pub without : ℕ → (Mapping → Bool) → List Mapping → List Mapping
without zero test mappings = mappings
without (suc count) test [] = []
without (suc count) test (mapping ∷ mappings) = if test mapping then without count test mappings else mapping ∷ without (suc count) test mappings

-- the first mapping that passes a test, taken out
pub record IsTaken (test : Mapping → Bool) (old : List Mapping) (mapping : Mapping) (new : List Mapping) : Type 0 where
  pub front : List Mapping
  pub back : List Mapping
  pub old_is : old ≡ front ++ mapping ∷ back
  pub new_is : new ≡ front ++ back
  pub passes : test mapping ≡ true
  pub none_before : filter test front ≡ []

-- a place of the lanes whose bucket is below a bound
pub record IsIn (group buckets bound : ℕ) (place : LaneAge) : Type 0 where
  pub of_group : place.group ≡ group
  pub below : place.bucket < bound
  pub bucket : has_bucket buckets place.bucket ≡ true

-- the oldest of them
pub record IsOldest (lane : LaneAge → Option ForwardKey) (group buckets bound age : ℕ) (key : ForwardKey) : Type 0 where
  pub place : LaneAge
  pub age_is : place.age ≡ age
  pub stands : lane place ≡ Some key
  pub within : IsIn group buckets bound place
  pub first : (other : LaneAge) (k : ForwardKey) → lane other ≡ Some k → IsIn group buckets bound other → age ≤ other.age

abbrev pub IsFound : (LaneAge → Option ForwardKey) → ℕ → ℕ → ℕ → Option (ℕ × ForwardKey) → Type 0
IsFound lane group buckets bound found =
    MatchOption found ((other : LaneAge) (k : ForwardKey) → lane other ≡ Some k → IsIn group buckets bound other → ⊥) (λ f. IsOldest lane group buckets bound f.0 f.1)

-- the oldest of one lane
pub record IsFirst (lane : LaneAge → Option ForwardKey) (group bucket age : ℕ) (key : ForwardKey) : Type 0 where
  pub stands : lane (record { group = group; bucket = bucket; age = age }) ≡ Some key
  pub first : (other : ℕ) (k : ForwardKey) → lane (record { group = group; bucket = bucket; age = other }) ≡ Some k → age ≤ other

abbrev pub IsFirstOf : (LaneAge → Option ForwardKey) → ℕ → ℕ → Option (ℕ × ForwardKey) → Type 0
IsFirstOf lane group bucket found =
    MatchOption found ((other : ℕ) (k : ForwardKey) → lane (record { group = group; bucket = bucket; age = other }) ≡ Some k → ⊥) (λ f. IsFirst lane group bucket f.0 f.1)

abbrev pub older : Option (ℕ × ForwardKey) → Option (ℕ × ForwardKey) → Option (ℕ × ForwardKey)
older None other = other
older (Some a) None = Some a
older (Some a) (Some b) = if nat_le a.0 b.0 then Some a else Some b
