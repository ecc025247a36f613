-- The greatest value on a list, as a loop finds it.
use Rattle.std.proofs.Common.{◌≡◌, ℕ, ◌+◌, ◌<◌, ◌≤◌, List, [], ◌∷◌, length, drop, get_or, refl, ◌∙◌, arith}
use Rattle.std.specs.Prelude.{max}
use Rattle.std.proofs.lemmas.List.{at_drop_more, at_drop_all}
use Rattle.mt_kinds.specs.Outputs.{greatest}

one_greatest : {A : Type 0} (of : A → ℕ) (x : A) (xs : List A) → greatest of (x ∷ xs) ≡ max (of x) (greatest of xs)
unfolding greatest
one_greatest of x xs = refl

pub none_greatest : {A : Type 0} (of : A → ℕ) → greatest of [] ≡ 0
unfolding greatest
none_greatest of = refl

-- before the first
pub greatest_begins : {A : Type 0} (of : A → ℕ) (xs : List A) → greatest of xs ≡ max 0 (greatest of xs)
greatest_begins of xs = omega arith

-- one more
pub greatest_more : {A : Type 0} (of : A → ℕ) (xs : List A) (i : ℕ) (d : A) (count value new : ℕ) → i < length xs → value ≡ of (get_or xs i d) → new ≡ max count value
    → greatest of xs ≡ max count (greatest of (drop i xs)) → greatest of xs ≡ max new (greatest of (drop (i + 1) xs))
greatest_more of xs i d count value new lt is larger so_far =
    let step = at_drop_more (greatest of) xs i d lt ∙ one_greatest of (get_or xs i d) (drop (i + 1) xs) in
    omega (arith, step, is, larger, so_far)

-- all of them
pub greatest_done : {A : Type 0} (of : A → ℕ) (xs : List A) (i count : ℕ) → length xs ≤ i → greatest of xs ≡ max count (greatest of (drop i xs)) → count ≡ greatest of xs
greatest_done of xs i count le so_far =
    let over = at_drop_all (greatest of) xs i le ∙ none_greatest of in
    omega (arith, over, so_far)
