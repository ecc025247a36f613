-- What a walk adds, one element after the other, and the lowest number so far.
use Rattle.std.proofs.Common.{◌≡◌, ◌↔◌, ℕ, ◌+◌, ◌<◌, ◌≤◌, ◌⊎◌, inl, inr, List, length, slice_get, Option, Some, None, Bool, true, false, nat_lt, cond, IfSome, IfNone, refl, sym, ap, ◌∙◌, subst, arith}
use Rattle.std.proofs.lemmas.Bool.{cases_lt}
use Rattle.std.proofs.lemmas.Bool.Decides.{nat_tests}
use Rattle.std.proofs.lemmas.Option.{slice_get_within}
use Rattle.mt_wiring.specs.Pushes.{HasPushed, IsAmong, IsLowest, HasAtMost, HasLowered, lower}

pub some_same : {X : Type 0} (x y : X) → Some x ≡ Some y → x ≡ y
some_same x y e = let q : Some x ≡ Some y = e in cc

module _ {A X : Type 0} (R : ℕ → A → X → Type 0) (xs : List A) where
  pub among_none : (x : X) → IsAmong R xs 0 x → ⊥
  among_none x m = let lt = m.below in omega (arith, lt)

  pub among_before : (i : ℕ) (x : X) → IsAmong R xs i x → IsAmong R xs (i + 1) x
  among_before i x m = let lt = m.below in record { place = m.place; below = omega (arith, lt); element = m.element; is = m.is; related = m.related }

  pub among_here : (i : ℕ) (a : A) (x : X) → slice_get xs i ≡ Some a → R i a x → IsAmong R xs (i + 1) x
  among_here i a x is r = record { place = i; below = omega arith; element = a; is = is; related = r }

  pub among_cases : (i : ℕ) (a : A) (x : X) → slice_get xs i ≡ Some a → IsAmong R xs (i + 1) x → IsAmong R xs i x ⊎ R i a x
  among_cases i a x is m = elim (cases_lt m.place i) [
    | inl before ↦ inl (record { place = m.place; below = before; element = m.element; is = m.is; related = m.related })
    | inr here ↦
        let e : m.place ≡ i = (let lt = m.below in omega (arith, lt, here)) in
        let same : m.element ≡ a = some_same m.element a (sym m.is ∙ ap (slice_get xs) e ∙ is) in
        inr (subst (λ y. R i y x) same (subst (λ k. R k m.element x) e m.related))
  ]

  -- all elements
  pub among_all : (i : ℕ) (x : X) → length xs ≤ i → IsAmong R xs i x ↔ IsAmong R xs (length xs) x
  among_all i x le = (
    λ m. record { place = m.place; below = slice_get_within xs m.place m.element m.is; element = m.element; is = m.is; related = m.related },
    λ m. let lt = m.below in record { place = m.place; below = omega (arith, lt, le); element = m.element; is = m.is; related = m.related },
  )

  pub pushed_none : (old : List X) → HasPushed old old (IsAmong R xs 0)
  pushed_none old = record { kept = λ x c. c; only = λ x c. inl c; all = λ x m. absurd (among_none x m) }

  pub pushed_more : (i : ℕ) (a : A) (old here new : List X) (P : X → Type 0) → slice_get xs i ≡ Some a → ((x : X) → P x ↔ R i a x)
      → HasPushed old here (IsAmong R xs i) → HasPushed here new P → HasPushed old new (IsAmong R xs (i + 1))
  pushed_more i a old here new P is same h n = record {
    kept = λ x c. n.kept x (h.kept x c);
    only = λ x c. elim (n.only x c) [
      | inl before ↦ elim (h.only x before) [ inl first ↦ inl first | inr m ↦ inr (among_before i x m) ]
      | inr p ↦ inr (among_here i a x is ((same x).0 p))
    ];
    all = λ x m. elim (among_cases i a x is m) [
      | inl before ↦ n.kept x (h.all x before)
      | inr r ↦ n.all x ((same x).1 r)
    ];
  }

  pub pushed_all : (i : ℕ) (old new : List X) → length xs ≤ i → HasPushed old new (IsAmong R xs i) → HasPushed old new (IsAmong R xs (length xs))
  pushed_all i old new le h = record {
    kept = h.kept;
    only = λ x c. elim (h.only x c) [ inl first ↦ inl first | inr m ↦ inr ((among_all i x le).0 m) ];
    all = λ x m. h.all x ((among_all i x le).1 m);
  }

-- what is known of the lowest number, fact by fact
pub none_lower : (P : ℕ → Type 0) (r : Option ℕ) → IsLowest P r → IfNone r ((n : ℕ) → P n → ⊥)
none_lower P None h = h
none_lower P (Some n) h = tt

pub found_is : (P : ℕ → Type 0) (r : Option ℕ) → IsLowest P r → IfSome r P
found_is P None h = tt
found_is P (Some n) h = h.0

pub found_lowest : (P : ℕ → Type 0) (r : Option ℕ) → IsLowest P r → IfSome r (λ n. (m : ℕ) → m < n → P m → ⊥)
found_lowest P None h = tt
found_lowest P (Some n) h = h.1

-- the lowest, said of another property
pub lowest_as : (P Q : ℕ → Type 0) (r : Option ℕ) → ((n : ℕ) → P n ↔ Q n) → IsLowest P r → IsLowest Q r
lowest_as P Q None same h = λ n q. h n ((same n).1 q)
lowest_as P Q (Some n) same h = ((same n).0 h.0, λ m lt q. h.1 m lt ((same m).1 q))

one_more : (P R : ℕ → Type 0) (wanted : Bool) (n : ℕ) (r : Option ℕ) → ((m : ℕ) → P m → R m) → (wanted ≡ true → R n) → ((m : ℕ) → R m → P m ⊎ ((wanted ≡ true) × (n ≡ m)))
    → IsLowest P r → IsLowest R (lower wanted n r)
one_more P R false n None before here cases h = λ m x. elim (cases m x) [ inl p ↦ h m p | inr q ↦ absurd (let e : false ≡ true = q.0 in cc) ]
one_more P R false n (Some k) before here cases h = (before k h.0, λ m lt x. elim (cases m x) [ inl p ↦ h.1 m lt p | inr q ↦ absurd (let e : false ≡ true = q.0 in cc) ])
one_more P R true n None before here cases h = (here refl, λ m lt x. elim (cases m x) [ inl p ↦ h m p | inr q ↦ absurd (let e = q.1 in omega (arith, e, lt)) ])
one_more P R true n (Some k) before here cases h = by (nat_lt n k) refl
  where
    by : (t : Bool) → nat_lt n k ≡ t → IsLowest R (cond t (Some n) (Some k))
    by true e =
        let less : n < k = grind (arith, nat_tests) in
        (here refl, λ m lt x. elim (cases m x) [ inl p ↦ h.1 m (omega (arith, lt, less)) p | inr q ↦ absurd (let e = q.1 in omega (arith, e, lt)) ])
    by false e =
        let less : k ≤ n = grind (arith, nat_tests) in
        (before k h.0, λ m lt x. elim (cases m x) [ inl p ↦ h.1 m lt p | inr q ↦ absurd (let e = q.1 in omega (arith, e, lt, less)) ])

module _ {A : Type 0} (R : ℕ → A → ℕ → Type 0) (xs : List A) where
  pub lowest_none : IsLowest (IsAmong R xs 0) None
  lowest_none = λ n m. among_none R xs n m

  pub lowest_more : (i : ℕ) (a : A) (wanted : Bool) (n : ℕ) (r : Option ℕ) → slice_get xs i ≡ Some a → (wanted ≡ true → R i a n) → ((m : ℕ) → R i a m → (wanted ≡ true) × (n ≡ m))
      → IsLowest (IsAmong R xs i) r → IsLowest (IsAmong R xs (i + 1)) (lower wanted n r)
  lowest_more i a wanted n r is here only h = one_more (IsAmong R xs i) (IsAmong R xs (i + 1)) wanted n r
      (among_before R xs i)
      (λ w. among_here R xs i a n is (here w))
      (λ m x. elim (among_cases R xs i a m is x) [ inl before ↦ inl before | inr y ↦ inr (only m y) ])
      h

  pub lowest_all : (i : ℕ) (r : Option ℕ) → length xs ≤ i → IsLowest (IsAmong R xs i) r → IsLowest (IsAmong R xs (length xs)) r
  lowest_all i r le h = lowest_as (IsAmong R xs i) (IsAmong R xs (length xs)) r (λ n. among_all R xs i n le) h

-- one more, and the lowest so far
pub lowered_found : (P : ℕ → Type 0) (Wanted : Type 0) (n : ℕ) (old new : Option ℕ) → (Wanted → P n) → IfSome old P → HasLowered Wanted n old new → IfSome new P
lowered_found P Wanted n old None here h l = tt
lowered_found P Wanted n old (Some m) here h l = elim l.found [
  | inl same ↦ subst (λ r. IfSome r P) same h
  | inr it ↦ subst P it.1 (here it.0)
]

-- the lowest is found, and at most each that is wanted
pub lowest_of_all : (P : ℕ → Type 0) (r : Option ℕ) → IfSome r P → ((m : ℕ) → P m → HasAtMost r m) → IsLowest P r
lowest_of_all P None found least = least
lowest_of_all P (Some k) found least = (found, λ m lt p. let le = least m p in omega (arith, lt, le))
