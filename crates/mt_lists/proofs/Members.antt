-- The elements of a list that has a first one.
use Rattle.std.proofs.Common.{◌≡◌, ◌⊎◌, zero, suc, inl, inr, List, [], ◌∷◌, All, Contains, refl, arith}
use Rattle.std.proofs.lemmas.List.Elements.{All-nil, All-cons}

pub first_in : {X : Type 0} (x : X) (xs : List X) → Contains (x ∷ xs) x
first_in x xs = (0, omega arith, refl)

pub later_in : {X : Type 0} (x : X) (xs : List X) (y : X) → Contains xs y → Contains (x ∷ xs) y
later_in x xs y c = (suc c.0, (let lt = c.1 in omega (arith, lt)), c.2)

pub cases_in : {X : Type 0} (x : X) (xs : List X) (y : X) → Contains (x ∷ xs) y → (x ≡ y) ⊎ Contains xs y
cases_in x xs y (zero, lt, e) = inl e
cases_in x xs y (suc k, lt, e) = inr (k, omega arith, e)

pub none_in : {X : Type 0} {A : Type 0} (y : X) → Contains [] y → A
none_in y c = let lt = c.1 in absurd (omega (arith, lt))

pub all_of : {X : Type 0} (P : X → Type 0) (xs : List X) → ((y : X) → Contains xs y → P y) → All P xs
all_of P [] h = All-nil P
all_of P (x ∷ xs) h = All-cons P x xs (h x (first_in x xs)) (all_of P xs (λ y c. h y (later_in x xs y c)))
