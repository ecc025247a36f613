-- The oldest mapping of some lanes, and the list without it.
use Rattle.std.proofs.Common.{◌≡◌, ◌∙◌, ℕ, zero, suc, ◌+◌, ◌<◌, ◌≤◌, List, [], ◌∷◌, ◌++◌, Option, Some, None, IfSome, Contains, Bool, true, eqb, ltb, filter, length, take, drop, sym, ap, refl, subst, inl, inr, arith, add-one, length-append}
use Rattle.std.specs.BTreeMap as tree
use Rattle.std.proofs.lemmas.Bool.Decides.{nat_tests}
use Rattle.std.proofs.lemmas.List.Elements.{Contains-append_left}
use Rattle.mt_lists.proofs.Bools.{and_first, and_second}
use Rattle.mt_lists.proofs.Members.{first_in, later_in}
use Rattle.mt_flow.specs.declared.keys.ForwardKey.{ForwardKey}
use Rattle.mt_flow.specs.declared.keys.LaneAge.{LaneAge}
use Rattle.mt_flow.specs.declared.mapping.Mapping.{Mapping}
use Rattle.mt_flow.specs.declared.indexes.Indexes.{Indexes}
use Rattle.mt_flow.specs.Indexes.{IsLeft}
use Rattle.mt_flow.specs.Keys.{forward_cmp, lane_cmp}
use Rattle.mt_flow.specs.Lanes.{is_of, has_bucket, without, IsTaken, IsIn, IsOldest}
use Rattle.mt_flow.specs.Mappings.{reply_key}
use Rattle.mt_flow.specs.Tied.{IsRising, lane_age, listed, with_found}
use Rattle.mt_flow.specs.Counts.{AreCounted}
use Rattle.mt_flow.proofs.Filters.{eqb_same, same_eqb, either, filter-append}
use Rattle.mt_flow.proofs.Kept.{cut, split_at, aged_of}
use Rattle.mt_flow.proofs.Stored.{ForwardMap, AllTied, list_of, left_all}

ltb_less : (m n : ℕ) → ltb m n ≡ true → m < n
ltb_less m n e = grind (arith, nat_tests)

is_in_lanes : (group buckets age : ℕ) (mapping : Mapping) → is_of group buckets mapping ≡ true → IsIn group buckets 64 (lane_age mapping age)
is_in_lanes group buckets age mapping e =
    let bit = and_second (eqb mapping.group group) (has_bucket buckets mapping.bucket) e in
    record {
      of_group = eqb_same mapping.group group (and_first (eqb mapping.group group) (has_bucket buckets mapping.bucket) e);
      below = ltb_less mapping.bucket 64 (and_first (ltb mapping.bucket 64) _ bit);
      bucket = bit;
    }

is_of_lanes : (group buckets bound : ℕ) (mapping : Mapping) → mapping.group ≡ group → has_bucket buckets mapping.bucket ≡ true → is_of group buckets mapping ≡ true
is_of_lanes group buckets bound mapping g b = let one = same_eqb mapping.group group g in rw (one, b) refl

pub filter_none : (test : Mapping → Bool) (mappings : List Mapping) → ((mapping : Mapping) → Contains mappings mapping → test mapping ≡ true → ⊥) → filter test mappings ≡ []
filter_none test [] h = refl
filter_none test (m ∷ ms) h = elim (either (test m)) [
  | inl e ↦ absurd (h m (first_in m ms) e)
  | inr e ↦ rw e (filter_none test ms (λ x c. h x (later_in m ms x c)))
]

-- no lane has any
pub none_of_lanes : (by_forward : ForwardMap) (indexes : Indexes) (group buckets : ℕ) → AllTied by_forward indexes
    → ((other : LaneAge) (k : ForwardKey) → tree.get lane_cmp indexes.by_lane other ≡ Some k → IsIn group buckets 64 other → ⊥) → filter (is_of group buckets) (list_of by_forward indexes) ≡ []
none_of_lanes by_forward indexes group buckets t h = filter_none (is_of group buckets) (list_of by_forward indexes) (λ mapping c passes.
    let a = aged_of (tree.get forward_cmp by_forward) indexes.by_age.entries mapping c in
    h (lane_age mapping a.0) a.1.0 (t.has_lane a.0 a.1.0 mapping a.1.1.0 a.1.1.1) (is_in_lanes group buckets a.0 mapping passes))

-- the oldest is taken out
pub record HasGone (old new : ForwardMap) (before after : Indexes) (next group buckets : ℕ) (result : Option Mapping) : Type 0 where
  pub gone : Mapping
  pub is : result ≡ Some gone
  pub tied : AllTied new after
  pub rising : IsRising 0 next after.by_age.entries
  pub taken : IsTaken (is_of group buckets) (list_of old before) gone (list_of new after)
  pub counted : AreCounted before.counts (list_of old before) → AreCounted after.counts (list_of new after)

pub oldest_gone : (old new : ForwardMap) (before after : Indexes) (next group buckets age : ℕ) (key : ForwardKey) (result : Option Mapping) → AllTied old before → IsRising 0 next before.by_age.entries
    → IsOldest (tree.get lane_cmp before.by_lane) group buckets 64 age key → result ≡ tree.get forward_cmp old key
    → IfSome result (λ _. tree.Updates forward_cmp old new key None) → IfSome result (λ mapping. IsLeft before after (reply_key mapping) (lane_age mapping age)) → HasGone old new before after next group buckets result
oldest_gone old new before after next group buckets age key result tied rising o found f l =
    let lane = tied.lane_of o.place key o.stands in
    let stands : Contains before.by_age.entries (age, key) = subst (λ n. Contains before.by_age.entries (n, key)) o.age_is lane.0 in
    let m = lane.1.0 in
    let is : result ≡ Some m = found ∙ lane.1.1.0 in
    let s = split_at before.by_age.entries (age, key) stands in
    let c = cut 0 next s.0 s.1.0 age key (subst (λ es. IsRising 0 next es) s.1.1 rising) in
    let left = left_all old new before after next age key m s.0 s.1.0 tied rising s.1.1 lane.1.1.0
    (subst (λ r. IfSome r (λ _. tree.Updates forward_cmp old new key None)) is f) (subst (λ r. IfSome r (λ mapping. IsLeft before after (reply_key mapping) (lane_age mapping age))) is l) in
    record {
      gone = m;
      is = is;
      tied = left.tied;
      rising = left.rising;
      counted = left.counted;
      taken = record {
        front = listed (tree.get forward_cmp old) s.0;
        back = listed (tree.get forward_cmp old) s.1.0;
        old_is = left.listed_before;
        new_is = left.listed_after;
        passes = is_of_lanes group buckets 64 m (ap (λ (p : LaneAge). p.group) lane.1.1.1 ∙ o.within.of_group) (ap (λ (p : LaneAge). has_bucket buckets p.bucket) lane.1.1.1 ∙ o.within.bucket);
        none_before = filter_none (is_of group buckets) (listed (tree.get forward_cmp old) s.0) (λ other d passes.
            let a = aged_of (tree.get forward_cmp old) s.0 other d in
            let there : Contains before.by_age.entries (a.0, a.1.0) = subst (λ es. Contains es (a.0, a.1.0)) (sym s.1.1) (Contains-append_left s.0 ((age, key) ∷ s.1.0) (a.0, a.1.0) a.1.1.0) in
            let up = o.first (lane_age other a.0) a.1.0 (tied.has_lane a.0 a.1.0 other there a.1.1.1) (is_in_lanes group buckets a.0 other passes) in
            let down = c.earlier a.0 a.1.0 a.1.1.0 in
            omega (arith, up, down));
      };
    }

-- lists without what was taken
pub filter_taken : (test : Mapping → Bool) (old : List Mapping) (mapping : Mapping) (new : List Mapping) → IsTaken test old mapping new → filter test old ≡ mapping ∷ filter test new
filter_taken test old mapping new t =
    ap (filter test) t.old_is ∙ filter-append test t.front (mapping ∷ t.back) ∙ ap (λ ms. ms ++ filter test (mapping ∷ t.back)) t.none_before ∙ (let p = t.passes in rw p refl)
    ∙ ap (λ ms. mapping ∷ ms) (sym (ap (filter test) t.new_is ∙ filter-append test t.front t.back ∙ ap (λ ms. ms ++ filter test t.back) t.none_before))

without_one : (test : Mapping → Bool) (front : List Mapping) (mapping : Mapping) (back : List Mapping) → test mapping ≡ true → filter test front ≡ [] → without 1 test (front ++ mapping ∷ back) ≡ front ++ back
without_one test [] mapping back passes h = rw passes refl
without_one test (x ∷ front) mapping back passes h = elim (either (test x)) [
  | inl e ↦ absurd (let k = rw e at h in cc)
  | inr e ↦ rw e (ap (λ ms. x ∷ ms) (without_one test front mapping back passes (rw e at h)))
]

without_more : (test : Mapping → Bool) (count : ℕ) (xs : List Mapping) → without (suc count) test xs ≡ without 1 test (without count test xs)
without_more test zero xs = refl
without_more test (suc count) [] = refl
without_more test (suc count) (x ∷ xs) = elim (either (test x)) [
  | inl e ↦ rw e (without_more test count xs)
  | inr e ↦ simp e (ap (λ ms. x ∷ ms) (without_more test (suc count) xs))
]

-- so many taken so far
pub record IsTaking (test : Mapping → Bool) (old now taken : List Mapping) (count : ℕ) : Type 0 where
  pub items : taken ≡ take count (filter test old)
  pub rest : filter test now ≡ drop count (filter test old)
  pub left : now ≡ without count test old
  pub many : length taken ≡ count

pub taking_from : (test : Mapping → Bool) (old : List Mapping) → IsTaking test old old [] 0
taking_from test old = record { items = refl; rest = refl; left = refl; many = refl }

front_more : (xs : List Mapping) (i : ℕ) (x : Mapping) (rest : List Mapping) → drop i xs ≡ x ∷ rest → (take (suc i) xs ≡ take i xs ++ x ∷ []) × ((drop (suc i) xs ≡ rest) × (i < length xs))
front_more [] zero x rest e = absurd cc
front_more [] (suc i) x rest e = absurd cc
front_more (y ∷ xs) zero x rest e = ((let same : y ≡ x = cc in ap (λ z. z ∷ []) same), ((let same : xs ≡ rest = cc in same), omega arith))
front_more (y ∷ xs) (suc i) x rest e = let more = front_more xs i x rest e in (ap (λ ys. y ∷ ys) more.0, (more.1.0, (let lt = more.1.1 in omega (arith, lt))))

pub taking_more : (test : Mapping → Bool) (old now next taken : List Mapping) (count : ℕ) (mapping : Mapping) → IsTaking test old now taken count → IsTaken test now mapping next → IsTaking test old next (taken ++ mapping ∷ []) (count + 1)
taking_more test old now next taken count mapping t k =
    let e = front_more (filter test old) count mapping (filter test next) (sym t.rest ∙ filter_taken test now mapping next k) in
    record {
      items = rw add-one (ap (λ ms. ms ++ mapping ∷ []) t.items ∙ sym e.0);
      rest = rw add-one (sym e.1.0);
      left = rw add-one (k.new_is ∙ sym (without_one test k.front mapping k.back k.passes k.none_before) ∙ ap (without 1 test) (sym k.old_is) ∙ ap (without 1 test) t.left ∙ sym (without_more test count old));
      many = (let l = length-append taken (mapping ∷ []) in let m = t.many in omega (arith, l, m));
    }

pub taking_room : (test : Mapping → Bool) (old now next taken : List Mapping) (count : ℕ) (mapping : Mapping) → IsTaking test old now taken count → IsTaken test now mapping next → count < length (filter test old)
taking_room test old now next taken count mapping t k = (front_more (filter test old) count mapping (filter test next) (sym t.rest ∙ filter_taken test now mapping next k)).1.1

drop_none : (xs : List Mapping) (i n : ℕ) → drop i xs ≡ [] → i ≤ n → take i xs ≡ take n xs
drop_none [] zero zero e le = refl
drop_none [] zero (suc n) e le = refl
drop_none [] (suc i) zero e le = refl
drop_none [] (suc i) (suc n) e le = refl
drop_none (x ∷ xs) zero n e le = absurd cc
drop_none (x ∷ xs) (suc i) zero e le = absurd (omega arith)
drop_none (x ∷ xs) (suc i) (suc n) e le = ap (λ ys. x ∷ ys) (drop_none xs i n e (omega arith))

without_none : (test : Mapping → Bool) (n : ℕ) (xs : List Mapping) → filter test xs ≡ [] → without n test xs ≡ xs
without_none test zero xs e = refl
without_none test (suc n) [] e = refl
without_none test (suc n) (x ∷ xs) e = elim (either (test x)) [
  | inl h ↦ absurd (let k = rw h at e in cc)
  | inr h ↦ rw h (ap (λ ms. x ∷ ms) (without_none test (suc n) xs (rw h at e)))
]

without_enough : (test : Mapping → Bool) (count most : ℕ) (xs : List Mapping) → filter test (without count test xs) ≡ [] → count ≤ most → without most test xs ≡ without count test xs
without_enough test zero most xs e le = without_none test most xs e
without_enough test (suc count) zero xs e le = absurd (omega arith)
without_enough test (suc count) (suc most) [] e le = refl
without_enough test (suc count) (suc most) (x ∷ xs) e le = elim (either (test x)) [
  | inl h ↦ rw h (without_enough test count most xs (rw h at e) (omega arith))
  | inr h ↦ rw h (ap (λ ms. x ∷ ms) (without_enough test (suc count) (suc most) xs (let k = rw h at e in rw h at k) le))
]

pub taking_ends : (test : Mapping → Bool) (old now taken : List Mapping) (count most : ℕ) → IsTaking test old now taken count → filter test now ≡ [] → count ≤ most → (taken ≡ take most (filter test old)) × (now ≡ without most test old)
taking_ends test old now taken count most t none le = (
  t.items ∙ drop_none (filter test old) count most (sym t.rest ∙ none) le,
  t.left ∙ sym (without_enough test count most old (subst (λ ms. filter test ms ≡ []) t.left none) le),
)

-- the list is no longer than the order
length_found : (o : Option Mapping) (ms : List Mapping) → length (with_found o ms) ≤ suc (length ms)
length_found None ms = omega arith
length_found (Some m) ms = omega arith

pub length_listed : (forward : ForwardKey → Option Mapping) (order : List (ℕ × ForwardKey)) → length (listed forward order) ≤ length order
length_listed forward [] = omega arith
length_listed forward (x ∷ xs) = let rest = length_listed forward xs in let here = length_found (forward x.1) (listed forward xs) in omega (arith, rest, here)
