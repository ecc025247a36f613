-- Elements by their places.
use Rattle.std.proofs.Common.{◌≡◌, ◌≢◌, ◌⊎◌, ◌+◌, ◌-◌, ◌<◌, ℕ, zero, suc, List, [], ◌∷◌, ◌++◌, length, map, take, drop, get_or, slice_get, slice_set, Some, None, option_map, refl, sym, ◌∙◌, ap, subst, inl, inr, arith, append_assoc, append-nil}
use Rattle.std.proofs.lemmas.List.{take_all}
use Rattle.std.proofs.lemmas.Option.{slice_get-map}

pub same_Some : {X : Type 0} (x y : X) → Some x ≡ Some y → x ≡ y
same_Some x y e = cc

pub one_at : {X : Type 0} (xs : List X) (i : ℕ) (x y : X) → slice_get xs i ≡ Some x → slice_get xs i ≡ Some y → x ≡ y
one_at xs i x y a b = same_Some x y (sym a ∙ b)

-- what stands at a place below the length
pub there : {X : Type 0} (xs : List X) (i : ℕ) → i < length xs → (x : X) × (slice_get xs i ≡ Some x)
there [] i lt = absurd (omega (arith, lt))
there (x ∷ xs) zero lt = (x, refl)
there (x ∷ xs) (suc i) lt = there xs i (omega arith)

-- two lists behind each other
pub in_front : {X : Type 0} (xs ys : List X) (i : ℕ) (z : X) → slice_get xs i ≡ Some z → slice_get (xs ++ ys) i ≡ Some z
in_front [] ys i z e = absurd (let q : None ≡ Some z = e in cc)
in_front (x ∷ xs) ys zero z e = e
in_front (x ∷ xs) ys (suc i) z e = in_front xs ys i z e

pub in_back : {X : Type 0} (xs ys : List X) (i j : ℕ) (z : X) → j ≡ length xs + i → slice_get ys i ≡ Some z → slice_get (xs ++ ys) j ≡ Some z
in_back [] ys i j z is e = subst (λ (k : ℕ). slice_get ys k ≡ Some z) (omega arith) e
in_back (x ∷ xs) ys i zero z is e = absurd (omega arith)
in_back (x ∷ xs) ys i (suc j) z is e = in_back xs ys i j z (omega arith) e

pub in_either : {X : Type 0} (xs ys : List X) (i : ℕ) (z : X) → slice_get (xs ++ ys) i ≡ Some z → (slice_get xs i ≡ Some z) ⊎ ((j : ℕ) × (i ≡ length xs + j) × (slice_get ys j ≡ Some z))
in_either [] ys i z e = inr (i, omega arith, e)
in_either (x ∷ xs) ys zero z e = inl e
in_either (x ∷ xs) ys (suc i) z e = elim (in_either xs ys i z e) [ inl h ↦ inl h | inr h ↦ inr (h.0, omega (arith, h.1), h.2) ]

-- one more behind
pub at_last : {X : Type 0} (xs : List X) (y : X) → slice_get (xs ++ y ∷ []) (length xs) ≡ Some y
at_last [] y = refl
at_last (x ∷ xs) y = at_last xs y

pub in_more : {X : Type 0} (xs : List X) (y : X) (i : ℕ) (z : X) → slice_get (xs ++ y ∷ []) i ≡ Some z → ((i < length xs) × (slice_get xs i ≡ Some z)) ⊎ ((i ≡ length xs) × (y ≡ z))
in_more [] y zero z e = inr (refl, same_Some y z e)
in_more [] y (suc i) z e = absurd (let q : None ≡ Some z = e in cc)
in_more (x ∷ xs) y zero z e = inl (omega arith, e)
in_more (x ∷ xs) y (suc i) z e = elim (in_more xs y i z e) [ inl h ↦ inl (omega (arith, h.0), h.1) | inr h ↦ inr (ap suc h.0, h.1) ]

-- another element in a place
pub set_here : {X : Type 0} (xs : List X) (i : ℕ) (x : X) → i < length xs → slice_get (slice_set xs i x) i ≡ Some x
set_here [] i x lt = absurd (omega (arith, lt))
set_here (y ∷ xs) zero x lt = refl
set_here (y ∷ xs) (suc i) x lt = set_here xs i x (omega arith)

pub set_other : {X : Type 0} (xs : List X) (i k : ℕ) (x : X) → k ≢ i → slice_get (slice_set xs i x) k ≡ slice_get xs k
set_other [] i k x apart = refl
set_other (y ∷ xs) zero zero x apart = absurd (apart refl)
set_other (y ∷ xs) zero (suc k) x apart = refl
set_other (y ∷ xs) (suc i) zero x apart = refl
set_other (y ∷ xs) (suc i) (suc k) x apart = set_other xs i k x (λ e. apart (ap suc e))

pub set_length : {X : Type 0} (xs : List X) (i : ℕ) (x : X) → length (slice_set xs i x) ≡ length xs
set_length [] i x = refl
set_length (y ∷ xs) zero x = refl
set_length (y ∷ xs) (suc i) x = ap suc (set_length xs i x)

pub map_set : {X Y : Type 0} (f : X → Y) (xs : List X) (i : ℕ) (x : X) → map f (slice_set xs i x) ≡ slice_set (map f xs) i (f x)
map_set f [] i x = refl
map_set f (y ∷ xs) zero x = refl
map_set f (y ∷ xs) (suc i) x = ap (λ zs. f y ∷ zs) (map_set f xs i x)

-- what is made of the elements
pub map_there : {X Y : Type 0} (f : X → Y) (xs : List X) (i : ℕ) (x : X) → slice_get xs i ≡ Some x → slice_get (map f xs) i ≡ Some (f x)
map_there f xs i x e = slice_get-map f xs i ∙ ap (option_map f) e

pub map_from : {X Y : Type 0} (f : X → Y) (xs : List X) (i : ℕ) (y : Y) → slice_get (map f xs) i ≡ Some y → (x : X) × (slice_get xs i ≡ Some x) × (f x ≡ y)
map_from f [] i y e = absurd (let q : None ≡ Some y = e in cc)
map_from f (x ∷ xs) zero y e = (x, refl, same_Some (f x) y e)
map_from f (x ∷ xs) (suc i) y e = map_from f xs i y e

-- a loop that takes the first of what is left
pub first_left : {X : Type 0} (all done rest : List X) (d : X) → done ++ rest ≡ all → 0 < length rest → slice_get all (length done) ≡ Some (get_or rest 0 d)
first_left all done [] d is lt = absurd (omega (arith, lt))
first_left all done (x ∷ rest) d is lt = subst (λ xs. slice_get xs (length done) ≡ Some x) is (in_back done (x ∷ rest) 0 (length done) x (omega arith) refl)

pub step_on : {X : Type 0} (all done rest : List X) (d : X) → done ++ rest ≡ all → 0 < length rest → (done ++ get_or rest 0 d ∷ []) ++ take (length rest - 1) (drop 1 rest) ≡ all
step_on all done [] d is lt = absurd (omega (arith, lt))
step_on all done (x ∷ rest) d is lt =
    append_assoc done (x ∷ []) (take (length (x ∷ rest) - 1) rest)
    ∙ (ap (λ zs. done ++ x ∷ zs) (take_all (length (x ∷ rest) - 1) rest (omega arith)) ∙ is)

pub all_done : {X : Type 0} (all done rest : List X) → done ++ rest ≡ all → length rest < 1 → done ≡ all
all_done all done [] is lt = sym (append-nil done) ∙ is
all_done all done (x ∷ rest) is lt = absurd (omega (arith, lt))

pub length_more : {X : Type 0} (xs : List X) (x : X) → length (xs ++ x ∷ []) ≡ suc (length xs)
length_more [] x = refl
length_more (y ∷ xs) x = ap suc (length_more xs x)
