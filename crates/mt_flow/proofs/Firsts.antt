-- The first entry of a part of the map of lanes.
use Rattle.std.proofs.Common.{◌≡◌, ◌≢◌, ◌≤◌, ◌∙◌, ◌⊎◌, ℕ, Option, Some, None, IfSome, IsSome, List, [], ◌∷◌, slice_get, true, false, sym, ap, subst, refl, inl, inr, ◌+◌, leb, arith}
use Rattle.std.specs.Ordering.{is_gt}
use Rattle.mt_flow.specs.declared.keys.ForwardKey.{ForwardKey}
use Rattle.mt_flow.specs.declared.keys.LaneAge.{LaneAge}
use Rattle.mt_flow.specs.Keys.{lane_cmp}
use Rattle.std.proofs.lemmas.Bool.{cases_lt}
use Rattle.std.proofs.lemmas.Bool.Decides.{nat_tests}
use Rattle.mt_flow.specs.Lanes.{IsFirst, IsFirstOf, IsFound, IsIn, IsOldest, has_bucket, older}
use Rattle.mt_flow.proofs.Orders.{lane_at, lane_start, lane_ages, lane_between}

-- what a range from a lane's start on says of its entries
pub record IsPart (lane : LaneAge → Option ForwardKey) (group bucket : ℕ) (entries : List (LaneAge × ForwardKey)) : Type 0 where
  pub inside : IfSome (slice_get entries 0) (λ e. ((is_gt (lane_cmp (lane_at group bucket 0) e.0) ≡ false) × Unit {0}) × (lane e.0 ≡ Some e.1))
  pub least : (q : LaneAge) → is_gt (lane_cmp (lane_at group bucket 0) q) ≡ false → IsSome (lane q) → IfSome (slice_get entries 0) (λ e. is_gt (lane_cmp e.0 q) ≡ false)
  pub empty : entries ≡ [] → (q : LaneAge) → is_gt (lane_cmp (lane_at group bucket 0) q) ≡ false → lane q ≡ None

pub no_first : (lane : LaneAge → Option ForwardKey) (group bucket : ℕ) (entries : List (LaneAge × ForwardKey)) → IsPart lane group bucket entries → entries ≡ [] → (other : ℕ) (k : ForwardKey) → lane (lane_at group bucket other) ≡ Some k → ⊥
no_first lane group bucket entries p none other k e = let absent = p.empty none (lane_at group bucket other) (lane_start group bucket other) in absurd cc

least_of : (lane : LaneAge → Option ForwardKey) (group bucket : ℕ) (place : LaneAge) (key : ForwardKey) (rest : List (LaneAge × ForwardKey)) → IsPart lane group bucket ((place, key) ∷ rest)
    → (other : ℕ) (k : ForwardKey) → lane (lane_at group bucket other) ≡ Some k → is_gt (lane_cmp place (lane_at group bucket other)) ≡ false
least_of lane group bucket place key rest p other k e = p.least (lane_at group bucket other) (lane_start group bucket other) (rw e refl)

pub is_first : (lane : LaneAge → Option ForwardKey) (group bucket : ℕ) (place : LaneAge) (key : ForwardKey) (entries rest : List (LaneAge × ForwardKey)) → IsPart lane group bucket entries → entries ≡ (place, key) ∷ rest
    → place.group ≡ group → place.bucket ≡ bucket → IsFirst lane group bucket place.age key
is_first lane group bucket place key entries rest p e g b =
    let q : IsPart lane group bucket ((place, key) ∷ rest) = subst (λ es. IsPart lane group bucket es) e p in
    let same : place ≡ lane_at group bucket place.age = (let whole : lane_at place.group place.bucket place.age ≡ lane_at group bucket place.age = cc in whole) in
    record {
      stands = ap lane (sym same) ∙ q.inside.1;
      first = λ other k h. lane_ages group bucket place.age other (subst (λ x. is_gt (lane_cmp x (lane_at group bucket other)) ≡ false) same (least_of lane group bucket place key rest q other k h));
    }

pub other_lane : (lane : LaneAge → Option ForwardKey) (group bucket : ℕ) (place : LaneAge) (key : ForwardKey) (entries rest : List (LaneAge × ForwardKey)) → IsPart lane group bucket entries → entries ≡ (place, key) ∷ rest
    → (place.group ≢ group) ⊎ (place.bucket ≢ bucket) → (other : ℕ) (k : ForwardKey) → lane (lane_at group bucket other) ≡ Some k → ⊥
other_lane lane group bucket place key entries rest p e apart other k h =
    let q : IsPart lane group bucket ((place, key) ∷ rest) = subst (λ es. IsPart lane group bucket es) e p in
    let between = lane_between group bucket 0 other place q.inside.0.0 (least_of lane group bucket place key rest q other k h) in
    elim apart [ inl g ↦ g between.0 | inr b ↦ b between.1 ]

-- one more bucket
lane_is : (group bucket : ℕ) (place : LaneAge) → place.group ≡ group → place.bucket ≡ bucket → place ≡ lane_at group bucket place.age
lane_is group bucket place g b = let whole : lane_at place.group place.bucket place.age ≡ lane_at group bucket place.age = cc in whole

split_in : (group buckets bound : ℕ) (place : LaneAge) → IsIn group buckets (bound + 1) place → IsIn group buckets bound place ⊎ (place ≡ lane_at group bound place.age)
split_in group buckets bound place i = elim (cases_lt place.bucket bound) [
  | inl less ↦ inl (record { of_group = i.of_group; below = less; bucket = i.bucket })
  | inr more ↦ inr (lane_is group bound place i.of_group (let below = i.below in omega (arith, more, below)))
]

widen : (group buckets bound : ℕ) (place : LaneAge) → IsIn group buckets bound place → IsIn group buckets (bound + 1) place
widen group buckets bound place i = record { of_group = i.of_group; below = (let below = i.below in omega (arith, below)); bucket = i.bucket }

pub skipped : (lane : LaneAge → Option ForwardKey) (group buckets bound : ℕ) (best : Option (ℕ × ForwardKey)) → IsFound lane group buckets bound best → has_bucket buckets bound ≡ false → IsFound lane group buckets (bound + 1) best
skipped lane group buckets bound None h unmeant = λ other k e i. elim (split_in group buckets bound other i) [
  | inl earlier ↦ h other k e earlier
  | inr here ↦ (let b = ap (λ (p : LaneAge). has_bucket buckets p.bucket) here in let also = i.bucket in absurd cc)
]
skipped lane group buckets bound (Some a) h unmeant = record {
  place = h.place;
  age_is = h.age_is;
  stands = h.stands;
  within = widen group buckets bound h.place h.within;
  first = λ other k e i. elim (split_in group buckets bound other i) [
    | inl earlier ↦ h.first other k e earlier
    | inr here ↦ (let b = ap (λ (p : LaneAge). has_bucket buckets p.bucket) here in let also = i.bucket in absurd cc)
  ];
}

at_lane : (lane : LaneAge → Option ForwardKey) (group bound : ℕ) (other : LaneAge) (k : ForwardKey) → lane other ≡ Some k → other ≡ lane_at group bound other.age → lane (lane_at group bound other.age) ≡ Some k
at_lane lane group bound other k e here = ap lane (sym here) ∙ e

first_in_lane : (lane : LaneAge → Option ForwardKey) (group buckets bound : ℕ) (f : ℕ × ForwardKey) → IsFirst lane group bound f.0 f.1 → has_bucket buckets bound ≡ true
    → ((other : LaneAge) (k : ForwardKey) → lane other ≡ Some k → IsIn group buckets bound other → f.0 ≤ other.age) → IsOldest lane group buckets (bound + 1) f.0 f.1
first_in_lane lane group buckets bound f h meant earlier = record {
  place = lane_at group bound f.0;
  age_is = refl;
  stands = h.stands;
  within = record { of_group = refl; below = omega arith; bucket = meant };
  first = λ other k e i. elim (split_in group buckets bound other i) [
    | inl before ↦ earlier other k e before
    | inr here ↦ h.first other.age k (at_lane lane group bound other k e here)
  ];
}

still_oldest : (lane : LaneAge → Option ForwardKey) (group buckets bound : ℕ) (a : ℕ × ForwardKey) → IsOldest lane group buckets bound a.0 a.1
    → ((other : ℕ) (k : ForwardKey) → lane (lane_at group bound other) ≡ Some k → a.0 ≤ other) → IsOldest lane group buckets (bound + 1) a.0 a.1
still_oldest lane group buckets bound a h later = record {
  place = h.place;
  age_is = h.age_is;
  stands = h.stands;
  within = widen group buckets bound h.place h.within;
  first = λ other k e i. elim (split_in group buckets bound other i) [
    | inl before ↦ h.first other k e before
    | inr here ↦ later other.age k (at_lane lane group bound other k e here)
  ];
}

pub looked_at : (lane : LaneAge → Option ForwardKey) (group buckets bound : ℕ) (best found : Option (ℕ × ForwardKey)) → IsFound lane group buckets bound best → IsFirstOf lane group bound found → has_bucket buckets bound ≡ true
    → IsFound lane group buckets (bound + 1) (older best found)
looked_at lane group buckets bound None None h f meant = λ other k e i. elim (split_in group buckets bound other i) [
  | inl before ↦ h other k e before
  | inr here ↦ f other.age k (at_lane lane group bound other k e here)
]
looked_at lane group buckets bound None (Some b) h f meant = first_in_lane lane group buckets bound b f meant (λ other k e i. absurd (h other k e i))
looked_at lane group buckets bound (Some a) None h f meant = still_oldest lane group buckets bound a h (λ other k e. absurd (f other k e))
looked_at lane group buckets bound (Some a) (Some b) h f meant = elim (cases_lt b.0 a.0) [
  | inl less ↦ (let unmeant : leb a.0 b.0 ≡ false = grind (arith, nat_tests) in rw unmeant (first_in_lane lane group buckets bound b f meant (λ other k e i. let up = h.first other k e i in omega (arith, up, less))))
  | inr more ↦ (let is : leb a.0 b.0 ≡ true = grind (arith, nat_tests) in rw is (still_oldest lane group buckets bound a h (λ other k e. let up = f.first other k e in omega (arith, up, more))))
]
