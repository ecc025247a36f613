-- Keys that compare as equal are one key, and what an update of a map leaves.
use Rattle.std.proofs.Common.{◌+◌, unwrap_or, is_some, Result, Ok, Err, OnOk, OnErr, ◌-◌, Some, ◌≡◌, ◌≢◌, ◌⊎◌, ◌∙◌, ℕ, suc, ◌<◌, ◌≤◌, List, [], ◌∷◌, ◌++◌, Option, None, true, false, Ordering, Less, Equal, Greater, sym, ap, refl, inl, inr, arith}
use Rattle.std.specs.BTreeMap as tree
use Rattle.std.specs.Cmp.{IsTotalOrder}
use Rattle.std.specs.Ordering.{nat_cmp, ordering_then, is_eq, is_gt}
use Rattle.std.specs.Map.{lookup}
use Rattle.std.proofs.lemmas.Cmp.{nat_cmp_total, then_total, on_total, tied_itself}
use Rattle.std.proofs.lemmas.Bool.Decides.{nat_tests}
use Rattle.mt_packet.specs.declared.flow.Flow.{Flow}
use Rattle.mt_flow.specs.declared.keys.ForwardKey.{ForwardKey}
use Rattle.mt_flow.specs.declared.keys.ReplyKey.{ReplyKey}
use Rattle.mt_flow.specs.declared.keys.LaneAge.{LaneAge}
use Rattle.mt_flow.specs.declared.keys.LaneKey.{LaneKey}
use Rattle.mt_flow.specs.Keys.{flow_cmp, forward_cmp, reply_cmp, lane_cmp, key_cmp}
use Rattle.mt_flow.specs.Counts.{Counts, count_of, IsCounted}
use Rattle.mt_flow.specs.Tied.{IsRising}

then_equal : (o p : Ordering) → ordering_then o p ≡ Equal → (o ≡ Equal) × (p ≡ Equal)
then_equal Less p e = absurd cc
then_equal Equal p e = (refl, e)
then_equal Greater p e = absurd cc

nat_same : (x y : ℕ) → nat_cmp x y ≡ Equal → x ≡ y
nat_same x y e = grind (arith, nat_tests)

-- a comparison that ties only a key with itself
pub record IsExact {K : Type 0} (cmp : K → K → Ordering) : Type 0 where
  pub total : IsTotalOrder cmp
  pub same : (x y : K) → cmp x y ≡ Equal → x ≡ y

abbrev flow_of : ℕ → ℕ → ℕ → ℕ → ℕ → Flow
flow_of proto sa sp da dp = record { proto = proto; sa = sa; sp = sp; da = da; dp = dp }

abbrev forward_of : ℕ → ℕ → Flow → ForwardKey
forward_of element input before = record { element = element; input = input; before = before }

abbrev reply_from : ℕ → Flow → ReplyKey
reply_from element flow = record { element = element; flow = flow }

abbrev lane_from : ℕ → ℕ → ℕ → LaneAge
lane_from group bucket age = record { group = group; bucket = bucket; age = age }

flow_total : IsTotalOrder flow_cmp
flow_total = then_total (on_total (λ (f : Flow). f.proto) nat_cmp_total) (then_total (on_total (λ (f : Flow). f.sa) nat_cmp_total) (then_total (on_total (λ (f : Flow). f.sp) nat_cmp_total) (then_total (on_total (λ (f : Flow). f.da) nat_cmp_total) (on_total (λ (f : Flow). f.dp) nat_cmp_total))))

flow_same : (x y : Flow) → flow_cmp x y ≡ Equal → x ≡ y
flow_same x y e =
    let a = then_equal _ _ e in
    let b = then_equal _ _ a.1 in
    let c = then_equal _ _ b.1 in
    let d = then_equal _ _ c.1 in
    let proto : x.proto ≡ y.proto = nat_same x.proto y.proto a.0 in
    let sa : x.sa ≡ y.sa = nat_same x.sa y.sa b.0 in
    let sp : x.sp ≡ y.sp = nat_same x.sp y.sp c.0 in
    let da : x.da ≡ y.da = nat_same x.da y.da d.0 in
    let dp : x.dp ≡ y.dp = nat_same x.dp y.dp d.1 in
    let whole : flow_of x.proto x.sa x.sp x.da x.dp ≡ flow_of y.proto y.sa y.sp y.da y.dp = cc in whole

pub forward_exact : IsExact forward_cmp
forward_exact = record {
  total = then_total (on_total (λ (k : ForwardKey). k.element) nat_cmp_total) (then_total (on_total (λ (k : ForwardKey). k.input) nat_cmp_total) (on_total (λ (k : ForwardKey). k.before) flow_total));
  same = λ x y e. let a = then_equal _ _ e in let b = then_equal _ _ a.1 in
      let p : x.element ≡ y.element = nat_same x.element y.element a.0 in let q : x.input ≡ y.input = nat_same x.input y.input b.0 in let r : x.before ≡ y.before = flow_same x.before y.before b.1 in
      let whole : forward_of x.element x.input x.before ≡ forward_of y.element y.input y.before = cc in whole;
}

pub reply_exact : IsExact reply_cmp
reply_exact = record {
  total = then_total (on_total (λ (k : ReplyKey). k.element) nat_cmp_total) (on_total (λ (k : ReplyKey). k.flow) flow_total);
  same = λ x y e. let a = then_equal _ _ e in
      let p : x.element ≡ y.element = nat_same x.element y.element a.0 in let q : x.flow ≡ y.flow = flow_same x.flow y.flow a.1 in
      let whole : reply_from x.element x.flow ≡ reply_from y.element y.flow = cc in whole;
}

pub lane_exact : IsExact lane_cmp
lane_exact = record {
  total = then_total (on_total (λ (k : LaneAge). k.group) nat_cmp_total) (then_total (on_total (λ (k : LaneAge). k.bucket) nat_cmp_total) (on_total (λ (k : LaneAge). k.age) nat_cmp_total));
  same = λ x y e. let a = then_equal _ _ e in let b = then_equal _ _ a.1 in
      let p : x.group ≡ y.group = nat_same x.group y.group a.0 in let q : x.bucket ≡ y.bucket = nat_same x.bucket y.bucket b.0 in let r : x.age ≡ y.age = nat_same x.age y.age b.1 in
      let whole : lane_from x.group x.bucket x.age ≡ lane_from y.group y.bucket y.age = cc in whole;
}

-- two keys are one, or they are apart
pub one_or_apart : {K : Type 0} {cmp : K → K → Ordering} (exact : IsExact cmp) (x y : K) → (x ≡ y) ⊎ (x ≢ y)
one_or_apart {K = K} {cmp = cmp} exact x y = cases (cmp x y) refl where
  cases : (o : Ordering) → cmp x y ≡ o → (x ≡ y) ⊎ (x ≢ y)
  cases Equal e = inl (exact.same x y e)
  cases Less e = inr (λ one. let tied : cmp x x ≡ Equal = tied_itself exact.total x in let other : cmp x x ≡ Less = ap (cmp x) one ∙ e in absurd cc)
  cases Greater e = inr (λ one. let tied : cmp x x ≡ Equal = tied_itself exact.total x in let other : cmp x x ≡ Greater = ap (cmp x) one ∙ e in absurd cc)

abbrev key_from : ℕ → ℕ → LaneKey
key_from group bucket = record { group = group; bucket = bucket }

pub key_exact : IsExact key_cmp
key_exact = record {
  total = then_total (on_total (λ (k : LaneKey). k.group) nat_cmp_total) (on_total (λ (k : LaneKey). k.bucket) nat_cmp_total);
  same = λ x y e. let a = then_equal _ _ e in
      let p : x.group ≡ y.group = nat_same x.group y.group a.0 in let q : x.bucket ≡ y.bucket = nat_same x.bucket y.bucket a.1 in
      let whole : key_from x.group x.bucket ≡ key_from y.group y.bucket = cc in whole;
}

-- what is found after an update
pub record IsUpdate {K X : Type 0} (old new : K → Option X) (key : K) (value : Option X) : Type 0 where
  pub here : new key ≡ value
  pub apart : (other : K) → other ≢ key → new other ≡ old other

untied : {K : Type 0} {cmp : K → K → Ordering} (exact : IsExact cmp) (x y : K) (o : Ordering) → cmp x y ≡ o → y ≢ x → is_eq o ≡ false
untied exact x y Less e ne = refl
untied exact x y Equal e ne = absurd (ne (sym (exact.same x y e)))
untied exact x y Greater e ne = refl

pub update_of : {K X : Type 0} {cmp : K → K → Ordering} (exact : IsExact cmp) (old new : tree.BTreeMap K X) (key : K) (value : Option X) → tree.Updates cmp old new key value → IsUpdate (tree.get cmp old) (tree.get cmp new) key value
update_of {cmp = cmp} exact old new key value u = record { here = u.1; apart = λ other ne. u.2 other (untied exact key other (cmp key other) refl ne) }

-- a key is added and taken out again
pub restored : {K X : Type 0} {cmp : K → K → Ordering} (exact : IsExact cmp) (old mid new : tree.BTreeMap K X) (key : K) (value : Option X) → tree.get cmp old key ≡ None
    → tree.Updates cmp old mid key value → tree.Updates cmp mid new key None → (other : K) → tree.get cmp new other ≡ tree.get cmp old other
restored exact old mid new key value absent added taken other =
    let add = update_of exact old mid key value added in
    let take = update_of exact mid new key None taken in
    elim (one_or_apart exact other key) [
      | inl one ↦ rw one (take.here ∙ sym absent)
      | inr two ↦ take.apart other two ∙ add.apart other two
    ]

pub rising_ends : (least next : ℕ) (order : List (ℕ × ForwardKey)) → IsRising least next order → least ≤ next
rising_ends least next [] h = h
rising_ends least next (first ∷ order) h = let rest = rising_ends (suc first.0) next order h.1 in let low = h.0 in omega (arith, rest, low)

-- an age above all others goes behind them
pub entered_last : (least age : ℕ) (key : ForwardKey) (order : List (ℕ × ForwardKey)) → IsRising least age order → tree.insert_entry nat_cmp order age key ≡ order ++ (age, key) ∷ []
entered_last least age key [] h = refl
entered_last least age key (first ∷ order) h =
    let below = rising_ends (suc first.0) age order h.1 in
    let above : nat_cmp age first.0 ≡ Greater = grind (arith, nat_tests, below) in
    rw above (ap (λ rest. first ∷ rest) (entered_last (suc first.0) age key order h.1))

pub same_found : {K X : Type 0} (cmp : K → K → Ordering) (old new : tree.BTreeMap K X) → new.entries ≡ old.entries → (key : K) → tree.get cmp new key ≡ tree.get cmp old key
same_found cmp old new same key = ap (lookup (tree.is_at (cmp key))) same

-- what "not above" says of keys that are compared part by part
then_up_to : (o p : Ordering) → is_gt (ordering_then o p) ≡ false → (o ≡ Less) ⊎ ((o ≡ Equal) × (is_gt p ≡ false))
then_up_to Less p e = inl refl
then_up_to Equal p e = inr (refl, e)
then_up_to Greater p e = absurd cc

nat_less : (x y : ℕ) → nat_cmp x y ≡ Less → x < y
nat_less x y e = grind (arith, nat_tests)

nat_up_to : (x y : ℕ) → is_gt (nat_cmp x y) ≡ false → x ≤ y
nat_up_to x y e = grind (arith, nat_tests)

nat_equal : (x : ℕ) → nat_cmp x x ≡ Equal
nat_equal x = grind (arith, nat_tests)

nat_zero : (x : ℕ) → is_gt (nat_cmp 0 x) ≡ false
nat_zero x = grind (arith, nat_tests)

abbrev pub lane_at : ℕ → ℕ → ℕ → LaneAge
lane_at group bucket age = record { group = group; bucket = bucket; age = age }

pub lane_start : (group bucket age : ℕ) → is_gt (lane_cmp (lane_at group bucket 0) (lane_at group bucket age)) ≡ false
lane_start group bucket age = let g = nat_equal group in let b = nat_equal bucket in rw (g, b) (nat_zero age)

pub lane_ages : (group bucket age other : ℕ) → is_gt (lane_cmp (lane_at group bucket age) (lane_at group bucket other)) ≡ false → age ≤ other
lane_ages group bucket age other e = elim (then_up_to (nat_cmp group group) (ordering_then (nat_cmp bucket bucket) (nat_cmp age other)) e) [
  | inl less ↦ absurd (let lt = nat_less group group less in omega (arith, lt))
  | inr same ↦ elim (then_up_to (nat_cmp bucket bucket) (nat_cmp age other) same.1) [
    | inl less ↦ absurd (let lt = nat_less bucket bucket less in omega (arith, lt))
    | inr also ↦ nat_up_to age other also.1
  ]
]

pub lane_between : (group bucket age other : ℕ) (place : LaneAge) → is_gt (lane_cmp (lane_at group bucket age) place) ≡ false → is_gt (lane_cmp place (lane_at group bucket other)) ≡ false → (place.group ≡ group) × (place.bucket ≡ bucket)
lane_between group bucket age other place above below =
    elim (then_up_to (nat_cmp group place.group) (ordering_then (nat_cmp bucket place.bucket) (nat_cmp age place.age)) above) [
      | inl less ↦ elim (then_up_to (nat_cmp place.group group) (ordering_then (nat_cmp place.bucket bucket) (nat_cmp place.age other)) below) [
        | inl more ↦ absurd (let a = nat_less group place.group less in let b = nat_less place.group group more in omega (arith, a, b))
        | inr same ↦ absurd (let a = nat_less group place.group less in let b = nat_same place.group group same.0 in omega (arith, a, b))
      ]
      | inr one ↦ elim (then_up_to (nat_cmp place.group group) (ordering_then (nat_cmp place.bucket bucket) (nat_cmp place.age other)) below) [
        | inl more ↦ absurd (let a = nat_same group place.group one.0 in let b = nat_less place.group group more in omega (arith, a, b))
        | inr same ↦ (
          nat_same place.group group same.0,
          elim (then_up_to (nat_cmp bucket place.bucket) (nat_cmp age place.age) one.1) [
            | inl up ↦ elim (then_up_to (nat_cmp place.bucket bucket) (nat_cmp place.age other) same.1) [
              | inl down ↦ absurd (let a = nat_less bucket place.bucket up in let b = nat_less place.bucket bucket down in omega (arith, a, b))
              | inr level ↦ absurd (let a = nat_less bucket place.bucket up in let b = nat_same place.bucket bucket level.0 in omega (arith, a, b))
            ]
            | inr up ↦ sym (nat_same bucket place.bucket up.0)
          ],
        )
      ]
    ]

-- the count of a lane after an update
pub counted : (old new : Counts) (lane : LaneKey) (count : ℕ) → tree.Updates key_cmp old new lane (Some count) → IsCounted old new lane count
counted old new lane count u =
    let update = update_of key_exact old new lane (Some count) u in
    record { here = ap (λ o. unwrap_or o 0) update.here; apart = λ other ne. ap (λ o. unwrap_or o 0) (update.apart other ne) }

-- a key that is there takes another value in any case
pub replaced : {R E : Type 0} (r : Result R E) (old new : Counts) (lane : LaneKey) (count : ℕ) → OnOk r (tree.Updates key_cmp old new lane (Some count)) → OnErr r (tree.get key_cmp old lane ≡ None) → is_some (tree.get key_cmp old lane) ≡ true → IsCounted old new lane count
replaced (Ok x) old new lane count done absent there = counted old new lane count done
replaced (Err e) old new lane count done absent there = absurd (let wrong = rw absent at there in cc)

-- a lane that is not counted has none
pub uncounted : (counts : Counts) (lane : LaneKey) → is_some (tree.get key_cmp counts lane) ≡ false → IsCounted counts counts lane (count_of counts lane - 1)
uncounted counts lane e = record { here = none (tree.get key_cmp counts lane) e; apart = λ other ne. refl } where
  none : (o : Option ℕ) → is_some o ≡ false → unwrap_or o 0 ≡ unwrap_or o 0 - 1
  none None h = refl
  none (Some n) h = absurd cc

-- one in and one out
pub recounted : (old mid new : Counts) (lane : LaneKey) → IsCounted old mid lane (count_of old lane + 1) → IsCounted mid new lane (count_of mid lane - 1) → (other : LaneKey) → count_of new other ≡ count_of old other
recounted old mid new lane up down other = elim (one_or_apart key_exact other lane) [
  | inl one ↦ (let h = down.here in let k = up.here in rw one (omega (arith, h, k)))
  | inr two ↦ down.apart other two ∙ up.apart other two
]

pub same_counts : (old new : Counts) → new.entries ≡ old.entries → (other : LaneKey) → count_of new other ≡ count_of old other
same_counts old new same other = ap (λ o. unwrap_or o 0) (same_found key_cmp old new same other)
