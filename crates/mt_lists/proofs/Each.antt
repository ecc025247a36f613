-- Reading each of a list: one more, all, or one that can't be read.
use Rattle.std.proofs.Common.{◌≡◌, ℕ, ◌+◌, ◌<◌, ◌≤◌, List, [], ◌∷◌, ◌++◌, length, map, drop, get_or, refl, sym, ap, ◌∙◌, append_assoc}
use Rattle.std.specs.Prelude.{Option, Some, None, option_map, option_and_then}
use Rattle.std.proofs.lemmas.List.{at_drop_more, at_drop_all, append-nil}
use Rattle.mt_lists.specs.Options.{each}

-- something in front of what is there
pub in_front_none : {B : Type 0} (o : Option (List B)) → option_map (λ more. [] ++ more) o ≡ o
in_front_none None = refl
in_front_none (Some more) = refl

pub in_front_more : {B : Type 0} (done : List B) (y : B) (o : Option (List B)) → option_map (λ more. done ++ more) (option_map (λ more. y ∷ more) o) ≡ option_map (λ more. (done ++ y ∷ []) ++ more) o
in_front_more done y None = refl
in_front_more done y (Some more) = ap Some (sym (append_assoc done (y ∷ []) more))

pub each_one : {A B : Type 0} (f : A → Option B) (x : A) (xs : List A) (y : B) → f x ≡ Some y → each f (x ∷ xs) ≡ option_map (λ more. y ∷ more) (each f xs)
unfolding each
each_one f x xs y h = ap (option_and_then (λ z. option_map (λ more. z ∷ more) (each f xs))) h

not_one : {A B : Type 0} (f : A → Option B) (x : A) (xs : List A) → f x ≡ None → each f (x ∷ xs) ≡ None
unfolding each
not_one f x xs h = ap (option_and_then (λ z. option_map (λ more. z ∷ more) (each f xs))) h

none_left : {A B : Type 0} (f : A → Option B) → each f [] ≡ Some []
unfolding each
none_left f = refl

-- before the first
pub each_begins : {A B : Type 0} (f : A → Option B) (xs : List A) (done : List B) → done ≡ [] → each f xs ≡ option_map (λ more. done ++ more) (each f xs)
each_begins f xs done none = sym (in_front_none (each f xs)) ∙ ap (λ (n : List _). option_map (λ more. n ++ more) (each f xs)) (sym none)

-- one more is read
pub each_more : {A B : Type 0} (f : A → Option B) (xs : List A) (i : ℕ) (d : A) (y : B) (done new : List B) (all : Option (List B)) → i < length xs → Some y ≡ f (get_or xs i d) → new ≡ done ++ y ∷ []
    → all ≡ option_map (λ more. done ++ more) (each f (drop i xs)) → all ≡ option_map (λ more. new ++ more) (each f (drop (i + 1) xs))
each_more f xs i d y done new all lt h made so_far =
    so_far
    ∙ ap (option_map (λ more. done ++ more)) (at_drop_more (each f) xs i d lt ∙ each_one f (get_or xs i d) (drop (i + 1) xs) y (sym h))
    ∙ in_front_more done y (each f (drop (i + 1) xs))
    ∙ ap (λ (n : List _). option_map (λ more. n ++ more) (each f (drop (i + 1) xs))) (sym made)

-- one can't be read
pub each_stops : {A B : Type 0} (f : A → Option B) (xs : List A) (i : ℕ) (d : A) (done : List B) (all : Option (List B)) → i < length xs → None ≡ f (get_or xs i d)
    → all ≡ option_map (λ more. done ++ more) (each f (drop i xs)) → None ≡ all
each_stops f xs i d done all lt h so_far =
    sym (so_far ∙ ap (option_map (λ more. done ++ more)) (at_drop_more (each f) xs i d lt ∙ not_one f (get_or xs i d) (drop (i + 1) xs) (sym h)))

-- all are read
pub each_done : {A B : Type 0} (f : A → Option B) (xs : List A) (i : ℕ) (done : List B) (all : Option (List B)) → length xs ≤ i
    → all ≡ option_map (λ more. done ++ more) (each f (drop i xs)) → Some done ≡ all
each_done f xs i done all le so_far =
    sym (so_far ∙ ap (option_map (λ more. done ++ more)) (at_drop_all (each f) xs i le ∙ none_left f) ∙ ap Some (append-nil done))

-- reading what a function makes of each
pub each-map : {X A B : Type 0} (f : A → Option B) (g : X → A) (xs : List X) → each f (map g xs) ≡ each (λ x. f (g x)) xs
unfolding each
each-map f g [] = refl
each-map f g (x ∷ xs) = ap (λ rest. option_and_then (λ y. option_map (λ more. y ∷ more) rest) (f (g x))) (each-map f g xs)
