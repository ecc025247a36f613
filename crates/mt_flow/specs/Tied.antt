-- How the maps of a store belong together.
use Rattle.std.specs.Prelude.{◌≡◌, ℕ, suc, ◌≤◌, List, [], ◌∷◌, Option, Some, None, Contains}
use Rattle.mt_flow.specs.declared.keys.ForwardKey.{ForwardKey}
use Rattle.mt_flow.specs.declared.keys.ReplyKey.{ReplyKey}
use Rattle.mt_flow.specs.declared.keys.LaneAge.{LaneAge}
use Rattle.mt_flow.specs.declared.mapping.Mapping.{Mapping}
use Rattle.mt_flow.specs.Mappings.{forward_key, reply_key}

-- the mappings of the keys in an order
abbrev pub with_found : Option Mapping → List Mapping → List Mapping
with_found None mappings = mappings
with_found (Some mapping) mappings = mapping ∷ mappings

abbrev pub listed : (ForwardKey → Option Mapping) → List (ℕ × ForwardKey) → List Mapping
listed forward [] = []
listed forward (aged ∷ order) = with_found (forward aged.1) (listed forward order)

-- the ages rise from a least one on, all below the next
abbrev pub IsRising : ℕ → ℕ → List (ℕ × ForwardKey) → Type 0
IsRising least next [] = least ≤ next
IsRising least next (aged ∷ order) = (least ≤ aged.0) × IsRising (suc aged.0) next order

abbrev pub lane_age : Mapping → ℕ → LaneAge
lane_age mapping age = record { group = mapping.group; bucket = mapping.bucket; age = age }

-- each key in the order has its mapping, each mapping its key in the order, once; the reply keys and the
-- lanes are those of the mappings
pub record IsTied (order : List (ℕ × ForwardKey)) (forward : ForwardKey → Option Mapping) (reply : ReplyKey → Option ForwardKey) (lane : LaneAge → Option ForwardKey) : Type 0 where
  pub has_mapping : (age : ℕ) (key : ForwardKey) → Contains order (age, key) → (mapping : Mapping) × ((forward key ≡ Some mapping) × (forward_key mapping ≡ key))
  pub has_age : (key : ForwardKey) (mapping : Mapping) → forward key ≡ Some mapping → (age : ℕ) × Contains order (age, key)
  pub one_age : (age other : ℕ) (key : ForwardKey) → Contains order (age, key) → Contains order (other, key) → age ≡ other
  pub reply_of : (answer : ReplyKey) (key : ForwardKey) → reply answer ≡ Some key → (mapping : Mapping) × ((forward key ≡ Some mapping) × (reply_key mapping ≡ answer))
  pub has_reply : (key : ForwardKey) (mapping : Mapping) → forward key ≡ Some mapping → reply (reply_key mapping) ≡ Some key
  pub lane_of : (place : LaneAge) (key : ForwardKey) → lane place ≡ Some key → Contains order (place.age, key) × ((mapping : Mapping) × ((forward key ≡ Some mapping) × (lane_age mapping place.age ≡ place)))
  pub has_lane : (age : ℕ) (key : ForwardKey) (mapping : Mapping) → Contains order (age, key) → forward key ≡ Some mapping → lane (lane_age mapping age) ≡ Some key
