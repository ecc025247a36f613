-- The counts of the lanes are those of the list.
use Rattle.std.proofs.Common.{◌≡◌, ◌≢◌, ◌∙◌, ℕ, ◌+◌, ◌-◌, ◌≤◌, List, [], ◌∷◌, ◌++◌, Bool, true, false, ◌&&◌, eqb, ltb, filter, length, sym, ap, refl, inl, inr, arith, length-append}
use Rattle.std.proofs.lemmas.Bool.{cases_lt}
use Rattle.std.proofs.lemmas.Bool.Decides.{nat_tests}
use Rattle.std.proofs.lemmas.List.Sums.{length-filter, count_by-le-length}
use Rattle.mt_lists.proofs.Bools.{and_first, and_second, false_behind}
use Rattle.mt_flow.specs.declared.keys.LaneKey.{LaneKey}
use Rattle.mt_flow.specs.declared.mapping.Mapping.{Mapping}
use Rattle.mt_flow.specs.Counts.{Counts, count_of, IsCounted, is_at, AreCounted}
use Rattle.mt_flow.specs.Keys.{lane_key}
use Rattle.mt_flow.specs.Lanes.{is_of, has_bucket}
use Rattle.mt_flow.specs.Tied.{lane_age}
use Rattle.mt_flow.proofs.Orders.{one_or_apart, key_exact}
use Rattle.mt_flow.proofs.Filters.{either, filter-append, eqb_same, same_eqb}

abbrev pub key_of : ℕ → ℕ → LaneKey
key_of group bucket = record { group = group; bucket = bucket }

abbrev pub how_many : (Mapping → Bool) → List Mapping → ℕ
how_many test mappings = length (filter test mappings)

many-append : (test : Mapping → Bool) (xs ys : List Mapping) → how_many test (xs ++ ys) ≡ how_many test xs + how_many test ys
many-append test xs ys = ap length (filter-append test xs ys) ∙ length-append (filter test xs) (filter test ys)

at_own : (mapping : Mapping) (age : ℕ) → is_at (lane_key (lane_age mapping age)) mapping ≡ true
at_own mapping age = let g = same_eqb mapping.group mapping.group refl in let b = same_eqb mapping.bucket mapping.bucket refl in rw g b

at_other : (mapping : Mapping) (age : ℕ) (lane : LaneKey) → lane ≢ lane_key (lane_age mapping age) → is_at lane mapping ≡ false
at_other mapping age lane apart = elim (either (is_at lane mapping)) [
  | inl e ↦ absurd (apart (
      let g = eqb_same mapping.group lane.group (and_first (eqb mapping.group lane.group) (eqb mapping.bucket lane.bucket) e) in
      let b = eqb_same mapping.bucket lane.bucket (and_second (eqb mapping.group lane.group) (eqb mapping.bucket lane.bucket) e) in
      let whole : key_of lane.group lane.bucket ≡ key_of mapping.group mapping.bucket = cc in whole))
  | inr e ↦ e
]

one_passes : (test : Mapping → Bool) (mapping : Mapping) → test mapping ≡ true → how_many test (mapping ∷ []) ≡ 1
one_passes test mapping e = rw e refl

none_passes : (test : Mapping → Bool) (mapping : Mapping) → test mapping ≡ false → how_many test (mapping ∷ []) ≡ 0
none_passes test mapping e = rw e refl

between : (test : Mapping → Bool) (front : List Mapping) (mapping : Mapping) (back : List Mapping) → how_many test (front ++ mapping ∷ back) ≡ how_many test (front ++ back) + how_many test (mapping ∷ [])
between test front mapping back =
    let a = many-append test front (mapping ∷ back) in let b = many-append test (mapping ∷ []) back in let c = many-append test front back in
    omega (arith, a, b, c)

pub counted_opened : (old new : Counts) (list : List Mapping) (opened : Mapping) (age : ℕ) → AreCounted old list → IsCounted old new (lane_key (lane_age opened age)) (count_of old (lane_key (lane_age opened age)) + 1) → AreCounted new (list ++ opened ∷ [])
counted_opened old new list opened age h up lane =
    let all = many-append (is_at lane) list (opened ∷ []) in
    elim (one_or_apart key_exact lane (lane_key (lane_age opened age))) [
      | inl one ↦ (let count = h lane in let here = up.here in let yes' = one_passes (is_at lane) opened (ap (λ l. is_at l opened) one ∙ at_own opened age) in
          let same = ap (count_of new) one in let before = ap (count_of old) one in omega (arith, all, count, here, yes', same, before))
      | inr two ↦ (let count = h lane in let other = up.apart lane two in let no' = none_passes (is_at lane) opened (at_other opened age lane two) in omega (arith, all, count, other, no'))
    ]

pub counted_left : (old new : Counts) (front : List Mapping) (gone : Mapping) (back : List Mapping) (age : ℕ) → AreCounted old (front ++ gone ∷ back) → IsCounted old new (lane_key (lane_age gone age)) (count_of old (lane_key (lane_age gone age)) - 1) → AreCounted new (front ++ back)
counted_left old new front gone back age h down lane =
    let all = between (is_at lane) front gone back in
    elim (one_or_apart key_exact lane (lane_key (lane_age gone age))) [
      | inl one ↦ (let count = h lane in let here = down.here in let yes' = one_passes (is_at lane) gone (ap (λ l. is_at l gone) one ∙ at_own gone age) in
          let same = ap (count_of new) one in let before = ap (count_of old) one in omega (arith, all, count, here, yes', same, before))
      | inr two ↦ (let count = h lane in let other = down.apart lane two in let no' = none_passes (is_at lane) gone (at_other gone age lane two) in omega (arith, all, count, other, no'))
    ]

-- the mappings of the buckets below a bound
abbrev pub is_below : ℕ → ℕ → ℕ → Mapping → Bool
is_below group buckets bound mapping = (eqb mapping.group group) && (ltb mapping.bucket bound && has_bucket buckets mapping.bucket)

pub none_below : (group buckets : ℕ) (list : List Mapping) → how_many (is_below group buckets 0) list ≡ 0
none_below group buckets [] = refl
none_below group buckets (m ∷ ms) = elim (either (is_below group buckets 0 m)) [
  | inl e ↦ absurd (let lt = and_first (ltb m.bucket 0) (has_bucket buckets m.bucket) (and_second (eqb m.group group) _ e) in grind (arith, nat_tests, lt))
  | inr e ↦ rw e (none_below group buckets ms)
]

abbrev bit : Bool → ℕ
bit true = 1
bit false = 0

many_cons : (test : Mapping → Bool) (m : Mapping) (ms : List Mapping) → how_many test (m ∷ ms) ≡ bit (test m) + how_many test ms
many_cons test m ms = elim (either (test m)) [
  | inl e ↦ rw e (omega arith)
  | inr e ↦ rw e (omega arith)
]

below_is : (g h : Bool) → bit (g && h) ≡ bit (g && h) + bit (g && false)
below_is true true = refl
below_is true false = refl
below_is false h = refl

here_is : (g : Bool) → bit (g && true) ≡ bit (g && false) + bit (g && true)
here_is true = refl
here_is false = refl

above_is : (g : Bool) → bit (g && false) ≡ bit (g && false) + bit (g && false)
above_is true = refl
above_is false = refl

meets : (g a b c h : Bool) → a ≡ true → b ≡ false → c ≡ true → h ≡ true → bit (g && (a && h)) ≡ bit (g && (b && h)) + bit (g && c)
meets g a b c h ea eb ec eh = rw (ea, eb, ec, eh) (here_is g)

more_below : (group buckets bound : ℕ) (m : Mapping) → has_bucket buckets bound ≡ true → bit (is_below group buckets (bound + 1) m) ≡ bit (is_below group buckets bound m) + bit (is_at (key_of group bound) m)
more_below group buckets bound m e = elim (cases_lt m.bucket bound) [
  | inl less ↦ (let a : ltb m.bucket (bound + 1) ≡ true = grind (arith, nat_tests) in let b : ltb m.bucket bound ≡ true = grind (arith, nat_tests) in let c : eqb m.bucket bound ≡ false = grind (arith, nat_tests) in
      rw (a, b, c) (below_is (eqb m.group group) (has_bucket buckets m.bucket)))
  | inr more ↦ elim (cases_lt bound m.bucket) [
    | inl above ↦ (let a : ltb m.bucket (bound + 1) ≡ false = grind (arith, nat_tests) in let b : ltb m.bucket bound ≡ false = grind (arith, nat_tests) in let c : eqb m.bucket bound ≡ false = grind (arith, nat_tests) in
        rw (a, b, c) (above_is (eqb m.group group)))
    | inr upto ↦ (let same : m.bucket ≡ bound = omega arith in
        let a : ltb m.bucket (bound + 1) ≡ true = grind (arith, nat_tests) in let b : ltb m.bucket bound ≡ false = grind (arith, nat_tests) in let c : eqb m.bucket bound ≡ true = grind (arith, nat_tests) in
        let d : has_bucket buckets m.bucket ≡ true = ap (has_bucket buckets) same ∙ e in
        meets (eqb m.group group) (ltb m.bucket (bound + 1)) (ltb m.bucket bound) (eqb m.bucket bound) (has_bucket buckets m.bucket) a b c d)
  ]
]

same_below : (group buckets bound : ℕ) (m : Mapping) → has_bucket buckets bound ≡ false → is_below group buckets (bound + 1) m ≡ is_below group buckets bound m
same_below group buckets bound m e = elim (cases_lt m.bucket bound) [
  | inl less ↦ (let a : ltb m.bucket (bound + 1) ≡ true = grind (arith, nat_tests) in let b : ltb m.bucket bound ≡ true = grind (arith, nat_tests) in ap (λ t. eqb m.group group && (t && has_bucket buckets m.bucket)) (a ∙ sym b))
  | inr more ↦ elim (cases_lt bound m.bucket) [
    | inl above ↦ (let a : ltb m.bucket (bound + 1) ≡ false = grind (arith, nat_tests) in let b : ltb m.bucket bound ≡ false = grind (arith, nat_tests) in ap (λ t. eqb m.group group && (t && has_bucket buckets m.bucket)) (a ∙ sym b))
    | inr upto ↦ (let same : m.bucket ≡ bound = omega arith in let d : has_bucket buckets m.bucket ≡ false = ap (has_bucket buckets) same ∙ e in
        ap (λ x. eqb m.group group && x) (ap (λ h. ltb m.bucket (bound + 1) && h) d ∙ false_behind (ltb m.bucket (bound + 1)) ∙ sym (ap (λ h. ltb m.bucket bound && h) d ∙ false_behind (ltb m.bucket bound))))
  ]
]

pub counted_below : (group buckets bound : ℕ) (list : List Mapping) → has_bucket buckets bound ≡ true → how_many (is_below group buckets (bound + 1)) list ≡ how_many (is_below group buckets bound) list + how_many (is_at (key_of group bound)) list
counted_below group buckets bound [] e = refl
counted_below group buckets bound (m ∷ ms) e =
    let a = many_cons (is_below group buckets (bound + 1)) m ms in let b = many_cons (is_below group buckets bound) m ms in let c = many_cons (is_at (key_of group bound)) m ms in
    let here = more_below group buckets bound m e in let rest = counted_below group buckets bound ms e in
    omega (arith, a, b, c, here, rest)

pub skipped_below : (group buckets bound : ℕ) (list : List Mapping) → has_bucket buckets bound ≡ false → how_many (is_below group buckets (bound + 1)) list ≡ how_many (is_below group buckets bound) list
skipped_below group buckets bound [] e = refl
skipped_below group buckets bound (m ∷ ms) e =
    let a = many_cons (is_below group buckets (bound + 1)) m ms in let b = many_cons (is_below group buckets bound) m ms in
    let here = ap bit (same_below group buckets bound m e) in let rest = skipped_below group buckets bound ms e in
    omega (arith, a, b, here, rest)

and_twice : (p q : Bool) → (p && (p && q)) ≡ (p && q)
and_twice true q = refl
and_twice false q = refl

pub all_below : (group buckets : ℕ) (list : List Mapping) → how_many (is_below group buckets 64) list ≡ how_many (is_of group buckets) list
all_below group buckets [] = refl
all_below group buckets (m ∷ ms) =
    let a = many_cons (is_below group buckets 64) m ms in let b = many_cons (is_of group buckets) m ms in
    let here : bit (is_below group buckets 64 m) ≡ bit (is_of group buckets m) = ap (λ x. bit (eqb m.group group && x)) (and_twice (ltb m.bucket 64) _) in let rest = all_below group buckets ms in
    omega (arith, a, b, here, rest)

pub many_le : (test : Mapping → Bool) (list : List Mapping) → how_many test list ≤ length list
many_le test list = let a = length-filter test list in let b = count_by-le-length test list in omega (arith, a, b)
