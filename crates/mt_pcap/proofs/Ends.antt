-- A list with one element more at its end.
use Rattle.std.proofs.Common.{◌≡◌, ◌⊎◌, inl, inr, ℕ, zero, suc, ◌<◌, List, [], ◌∷◌, ◌++◌, length, take, refl, sym, ap, ◌∙◌, arith}
use Rattle.std.specs.Prelude.{slice_get, Option, Some, None, option_map, option_and_then}
use Rattle.std.proofs.lemmas.Option.{none-some, same_Some}
use Rattle.mt_lists.specs.Options.{each}

-- an element is where it was
pub get_front : {X : Type 0} (xs ys : List X) (k : ℕ) (x : X) → slice_get xs k ≡ Some x → slice_get (xs ++ ys) k ≡ Some x
get_front [] ys k x there = absurd (none-some x there)
get_front (z ∷ xs) ys zero x there = there
get_front (z ∷ xs) ys (suc k) x there = get_front xs ys k x there

-- or is the last
pub get_last : {X : Type 0} (xs : List X) (x : X) → slice_get (xs ++ x ∷ []) (length xs) ≡ Some x
get_last [] x = refl
get_last (z ∷ xs) x = get_last xs x

pub last_cases : {X : Type 0} (xs : List X) (y : X) (k : ℕ) (x : X) → slice_get (xs ++ y ∷ []) k ≡ Some x → (slice_get xs k ≡ Some x) ⊎ ((k ≡ length xs) × (x ≡ y))
last_cases [] y zero x there = inr (refl, sym (same_Some y x there))
last_cases [] y (suc k) x there = absurd (none-some x there)
last_cases (z ∷ xs) y zero x there = inl there
last_cases (z ∷ xs) y (suc k) x there =
    elim (last_cases xs y k x there) [
      | inl front ↦ inl front
      | inr last ↦ inr (ap suc last.0, last.1)
    ]

-- an element of a front
pub get_taken : {X : Type 0} (n : ℕ) (xs : List X) (k : ℕ) (x : X) → slice_get (take n xs) k ≡ Some x → (k < n) × (slice_get xs k ≡ Some x)
get_taken zero xs k x there = absurd (none-some x there)
get_taken (suc n) [] k x there = absurd (none-some x there)
get_taken (suc n) (z ∷ xs) zero x there = (omega arith, there)
get_taken (suc n) (z ∷ xs) (suc k) x there = let t = get_taken n xs k x there in (let lt = t.0 in omega arith, t.1)

-- each of it
abbrev then_last : {B : Type 0} → Option (List B) → Option B → Option (List B)
then_last front last = option_and_then (λ ys. option_map (λ y. ys ++ y ∷ []) last) front

in_front_last : {B : Type 0} (z : B) (front : Option (List B)) (last : Option B) → option_map (λ more. z ∷ more) (then_last front last) ≡ then_last (option_map (λ more. z ∷ more) front) last
in_front_last z None last = refl
in_front_last z (Some ys) None = refl
in_front_last z (Some ys) (Some y) = refl

step_last : {B : Type 0} (o : Option B) (front : Option (List B)) (last : Option B)
    → option_and_then (λ z. option_map (λ more. z ∷ more) (then_last front last)) o ≡ then_last (option_and_then (λ z. option_map (λ more. z ∷ more) front) o) last
step_last None front last = refl
step_last (Some z) front last = in_front_last z front last

last_only : {B : Type 0} (o : Option B) → option_and_then (λ y. option_map (λ more. y ∷ more) (Some [])) o ≡ then_last (Some []) o
last_only None = refl
last_only (Some y) = refl

each_to_last : {A B : Type 0} (f : A → Option B) (xs : List A) (x : A) → each f (xs ++ x ∷ []) ≡ then_last (each f xs) (f x)
unfolding each
each_to_last f [] x = last_only (f x)
each_to_last f (z ∷ xs) x = ap (λ o. option_and_then (λ y. option_map (λ more. y ∷ more) o) (f z)) (each_to_last f xs x) ∙ step_last (f z) (each f xs) (f x)

pub each_last : {A C B : Type 0} (f : A → Option B) (g : C → Option B) (xs : List A) (ys : List C) (x : A) (y : C) → each f xs ≡ each g ys → f x ≡ g y → each f (xs ++ x ∷ []) ≡ each g (ys ++ y ∷ [])
each_last f g xs ys x y front last =
    each_to_last f xs x ∙ ap (λ o. then_last o (f x)) front ∙ ap (then_last (each g ys)) last ∙ sym (each_to_last g ys y)
