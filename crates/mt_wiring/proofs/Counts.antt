-- Elements that are apart, all of them in a list, are at most as many as those of the list.
use Rattle.std.proofs.Common.{◌≡◌, ℕ, zero, suc, ◌+◌, ◌<◌, ◌≤◌, inl, inr, List, [], ◌∷◌, length, slice_get, Some, None, refl, sym, ap, ◌∙◌, subst, arith}
use Rattle.std.specs.List.{Contains}
use Rattle.std.proofs.lemmas.Option.{slice_get-get_or, slice_get_within, get_or_from_slice_get}
use Rattle.mt_lists.proofs.Members.{first_in, later_in, cases_in}
use Rattle.mt_wiring.proofs.Pushing.{some_same}

pub member : {X : Type 0} (xs : List X) (x : X) → Contains xs x → (k : ℕ) × (slice_get xs k ≡ Some x)
member xs x c = (c.0, slice_get-get_or xs c.0 x c.1 ∙ ap Some c.2)

pub contained : {X : Type 0} (xs : List X) (k : ℕ) (x : X) → slice_get xs k ≡ Some x → Contains xs x
contained xs k x e = (k, slice_get_within xs k x e, get_or_from_slice_get xs k x x e)

-- what stands at a place below the length
pub there : {X : Type 0} (xs : List X) (k : ℕ) → k < length xs → (x : X) × (slice_get xs k ≡ Some x)
there [] k lt = absurd (omega arith)
there (x ∷ xs) zero lt = (x, refl)
there (x ∷ xs) (suc k) lt = there xs k (omega arith)

-- no element is one of those behind it
unfoldable pub Apart : {X : Type 0} → List X → Type 0
Apart [] = Unit {0}
Apart (x ∷ xs) = (Contains xs x → ⊥) × Apart xs

without : {X : Type 0} → ℕ → List X → List X
without n [] = []
without zero (x ∷ xs) = xs
without (suc n) (x ∷ xs) = x ∷ without n xs

shorter : {X : Type 0} (n : ℕ) (xs : List X) (x : X) → slice_get xs n ≡ Some x → length (without n xs) + 1 ≡ length xs
unfolding without
shorter n [] x e = absurd (let q : None ≡ Some x = e in cc)
shorter zero (y ∷ ys) x e = omega arith
shorter (suc n) (y ∷ ys) x e = let h = shorter n ys x e in omega (arith, h)

still : {X : Type 0} (n : ℕ) (xs : List X) (x y : X) → slice_get xs n ≡ Some x → (x ≡ y → ⊥) → Contains xs y → Contains (without n xs) y
unfolding without
still n [] x y e ne c = c
still zero (z ∷ zs) x y e ne c = elim (cases_in z zs y c) [ inl same ↦ absurd (ne (some_same x z (sym e) ∙ same)) | inr later ↦ later ]
still (suc n) (z ∷ zs) x y e ne c = elim (cases_in z zs y c) [
  | inl same ↦ subst (Contains (z ∷ without n zs)) same (first_in z (without n zs))
  | inr later ↦ later_in z (without n zs) y (still n zs x y e ne later)
]

pub at_most : {X : Type 0} (xs ys : List X) → Apart xs → ((x : X) → Contains xs x → Contains ys x) → length xs ≤ length ys
unfolding Apart
at_most [] ys apart all = omega arith
at_most (x ∷ xs) ys apart all =
    let m = member ys x (all x (first_in x xs)) in
    let fewer = at_most xs (without m.0 ys) apart.1 (λ y c. still m.0 ys x y m.1 (λ same. apart.0 (subst (Contains xs) (sym same) c)) (all y (later_in x xs y c))) in
    let len = shorter m.0 ys x m.1 in
    omega (arith, fewer, len)

-- elements that stand at one place each
pub apart_of : {X : Type 0} (xs : List X) → ((i j : ℕ) (x : X) → slice_get xs i ≡ Some x → slice_get xs j ≡ Some x → i ≡ j) → Apart xs
unfolding Apart
apart_of [] h = tt
apart_of (x ∷ xs) h = (
  λ c. let m = member xs x c in let e : zero ≡ suc m.0 = h zero (suc m.0) x refl m.1 in absurd (omega (arith, e)),
  apart_of xs (λ i j y a b. let e : suc i ≡ suc j = h (suc i) (suc j) y a b in omega (arith, e)),
)
