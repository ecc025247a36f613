-- Whether readers can be merged, as loops over them find it.
use Rattle.std.proofs.Common.{◌≡◌, ℕ, zero, suc, ◌+◌, ◌-◌, ◌<◌, ◌≤◌, inl, inr, Bool, true, false, List, [], ◌∷◌, length, map, drop, Option, Some, None, refl, sym, ap, ◌∙◌, arith}
use Rattle.std.specs.Prelude.{slice_get, option_map, ◌==◌, ◌&&◌, ◌||◌}
use Rattle.std.specs.Bool.{OnTrue, OnFalse}
use Rattle.std.specs.List.{list_any, list_all}
use Rattle.std.specs.Str.{bytes_eq}
use Rattle.std.proofs.lemmas.Bool.{cases_lt, cases_eq, or_parts, eqb-true, eq-eqb}
use Rattle.std.proofs.lemmas.List.{length-drop, get_or-drop}
use Rattle.std.proofs.lemmas.Option.{slice_get-get_or, slice_get_within, get_or_from_slice_get, slice_get-map, same_Some}
use Rattle.std.proofs.lemmas.Slice.Eq.{bytes_eq-Decides}
use Rattle.mt_pcap.specs.Stream.{ReaderState}
use Rattle.mt_pcap.specs.Sources.{AreApart}

no_some : {A : Type 0} (x : A) → None ≡ Some x → ⊥
no_some x e = cc

any_none : {A : Type 0} (p : A → Bool) (xs : List A) → list_any p xs ≡ false → (k : ℕ) (x : A) → slice_get xs k ≡ Some x → p x ≡ false
any_none p [] e k x there = absurd (no_some x there)
any_none p (y ∷ ys) e zero x there = ap p (sym (same_Some y x there)) ∙ (or_parts (p y) (list_any p ys) e).0
any_none p (y ∷ ys) e (suc k) x there = any_none p ys (or_parts (p y) (list_any p ys) e).1 k x there

by_first : {A : Type 0} (p : A → Bool) (y : A) (ys : List A) (b : Bool) → p y ≡ b → (list_any p ys ≡ true → (k : ℕ) × (x : A) × (slice_get ys k ≡ Some x) × (p x ≡ true)) → (b || list_any p ys) ≡ true
    → (k : ℕ) × (x : A) × (slice_get (y ∷ ys) k ≡ Some x) × (p x ≡ true)
by_first p y ys true is others e = (0, y, refl, is)
by_first p y ys false is others e = let m = others e in (suc m.0, m.1, m.2, m.3)

any_some : {A : Type 0} (p : A → Bool) (xs : List A) → list_any p xs ≡ true → (k : ℕ) × (x : A) × (slice_get xs k ≡ Some x) × (p x ≡ true)
any_some p [] e = absurd cc
any_some p (y ∷ ys) e = by_first p y ys (p y) refl (any_some p ys) e

both_true : (a b : Bool) → (a && b) ≡ true → (a ≡ true) × (b ≡ true)
both_true true b e = (refl, e)
both_true false b e = absurd cc

get_behind : {A : Type 0} (xs : List A) (n k : ℕ) (x : A) → slice_get (drop n xs) k ≡ Some x → slice_get xs (n + k) ≡ Some x
get_behind xs n k x there =
    let lt = slice_get_within (drop n xs) k x there in
    slice_get-get_or xs (n + k) x (omega (arith, length-drop n xs)) ∙ ap (λ y. Some y) (sym (get_or-drop n xs k x) ∙ get_or_from_slice_get (drop n xs) k x x there)

get_ahead : {A : Type 0} (xs : List A) (n k : ℕ) (x : A) → slice_get xs (n + k) ≡ Some x → slice_get (drop n xs) k ≡ Some x
get_ahead xs n k x there =
    let lt = slice_get_within xs (n + k) x there in
    slice_get-get_or (drop n xs) k x (omega (arith, length-drop n xs)) ∙ ap (λ y. Some y) (get_or-drop n xs k x ∙ get_or_from_slice_get xs (n + k) x x there)

-- ---- names

abbrev names : List ReaderState → List (List ℕ)
names readers = map (λ (r : ReaderState). r.name) readers

name_at : (xs : List ReaderState) (k : ℕ) (r : ReaderState) → slice_get xs k ≡ Some r → slice_get (names xs) k ≡ Some r.name
name_at xs k r there = slice_get-map (λ (t : ReaderState). t.name) xs k ∙ ap (option_map (λ (t : ReaderState). t.name)) there

abbrev test : List ℕ → ReaderState → Bool
test name r = bytes_eq r.name name

-- the names before a place stand nowhere else
abbrev pub ApartBefore : List ReaderState → ℕ → Type 0
ApartBefore xs n = (i j : ℕ) (r s : ReaderState) → i < n → slice_get xs i ≡ Some r → slice_get xs j ≡ Some s → r.name ≡ s.name → i ≡ j

pub apart_more : (xs behind : List ReaderState) (n : ℕ) (r : ReaderState) (name : List ℕ) → slice_get xs n ≡ Some r → name ≡ r.name → behind ≡ drop (n + 1) xs → list_any (test name) behind ≡ false → ApartBefore xs n → ApartBefore xs (n + 1)
apart_more xs behind n r name there named is none before i j s t lt at_i at_j same =
    elim (cases_eq i n) [
      | inr other ↦ before i j s t (omega arith) at_i at_j same
      | inl here ↦
          let s_is : s ≡ r = same_Some s r (sym at_i ∙ ap (slice_get xs) here ∙ there) in
          elim (cases_lt j n) [
            | inl earlier ↦ sym (before j i t s earlier at_j at_i (sym same))
            | inr later ↦ elim (cases_eq j n) [
              | inl alike ↦ here ∙ sym alike
              | inr more ↦
                  let k = j - (n + 1) in
                  let place : n + 1 + k ≡ j = omega (arith, later, more) in
                  let at : slice_get behind k ≡ Some t = ap (λ l. slice_get l k) is ∙ get_ahead xs (n + 1) k t (ap (slice_get xs) place ∙ at_j) in
                  let differs = any_none (test name) behind none k t at in
                  let alike : bytes_eq t.name name ≡ true = (bytes_eq-Decides t.name name).1 (sym same ∙ ap (λ (u : ReaderState). u.name) s_is ∙ sym named) in
                  absurd cc
            ]
          ]
    ]

pub has_twice : (xs behind : List ReaderState) (n : ℕ) (r : ReaderState) (name : List ℕ) → slice_get xs n ≡ Some r → name ≡ r.name → behind ≡ drop (n + 1) xs → list_any (test name) behind ≡ true → AreApart (names xs) → ⊥
has_twice xs behind n r name there named is some apart =
    let m = any_some (test name) behind some in
    let at = get_behind xs (n + 1) m.0 m.1 (ap (λ l. slice_get l m.0) (sym is) ∙ m.2) in
    let alike : m.1.name ≡ r.name = (bytes_eq-Decides m.1.name name).0 m.3 ∙ named in
    let same = apart n (n + 1 + m.0) r.name (name_at xs n r there) (name_at xs (n + 1 + m.0) m.1 at ∙ ap (λ l. Some l) alike) in
    omega (arith, same)

named_at : (xs : List ReaderState) (k : ℕ) (name : List ℕ) → slice_get (names xs) k ≡ Some name → (r : ReaderState) × (slice_get xs k ≡ Some r) × (r.name ≡ name)
named_at xs k name there = by_element (slice_get xs k) refl (sym (slice_get-map (λ (t : ReaderState). t.name) xs k) ∙ there)
  where
    by_element : (o : Option ReaderState) → slice_get xs k ≡ o → option_map (λ (t : ReaderState). t.name) o ≡ Some name → (r : ReaderState) × (slice_get xs k ≡ Some r) × (r.name ≡ name)
    by_element None at is = absurd (no_some name is)
    by_element (Some r) at is = (r, at, same_Some r.name name is)

pub all_apart : (xs : List ReaderState) (n : ℕ) → length xs ≤ n → ApartBefore xs n → AreApart (names xs)
all_apart xs n le before i j name at_i at_j =
    let r = named_at xs i name at_i in
    let s = named_at xs j name at_j in
    let lt = slice_get_within xs i r.0 r.1 in
    before i j r.0 s.0 (omega arith) r.1 s.1 (r.2 ∙ sym s.2)

-- ---- how many records were given

abbrev NoneGiven : List ReaderState → Type 0
NoneGiven xs = (k : ℕ) (r : ReaderState) → slice_get xs k ≡ Some r → r.given ≡ 0

none_from : (xs : List ReaderState) → list_all (λ r. r.given == 0) xs ≡ true → NoneGiven xs
none_from [] e k r there = absurd (no_some r there)
none_from (x ∷ xs) e zero r there = ap (λ (t : ReaderState). t.given) (sym (same_Some x r there)) ∙ eqb-true x.given 0 (both_true (x.given == 0) (list_all (λ s. s.given == 0) xs) e).0
none_from (x ∷ xs) e (suc k) r there = none_from xs (both_true (x.given == 0) (list_all (λ s. s.given == 0) xs) e).1 k r there

all_from : (xs : List ReaderState) → NoneGiven xs → list_all (λ r. r.given == 0) xs ≡ true
all_from [] none = refl
all_from (x ∷ xs) none = rw (eq-eqb x.given 0 (none 0 x refl)) (all_from xs (λ k r there. none (suc k) r there))

pub none_given : (b : Bool) (xs : List ReaderState) → b ≡ list_all (λ r. r.given == 0) xs → OnTrue b (NoneGiven xs)
none_given true xs is = none_from xs (sym is)
none_given false xs is = tt

pub some_given : (b : Bool) (xs : List ReaderState) (P Q : Type 0) → b ≡ list_all (λ r. r.given == 0) xs → OnFalse b (P → Q → NoneGiven xs → ⊥)
some_given true xs P Q is = tt
some_given false xs P Q is = λ _ _ none. let e : false ≡ true = is ∙ all_from xs none in cc
