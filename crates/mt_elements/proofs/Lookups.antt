-- The first place of what passes a test.
use Rattle.std.proofs.Common.{◌≡◌, ◌∙◌, ap, sym, inl, inr, ℕ, suc, ◌+◌, ◌≤◌, not, cond, Bool, true, false, ◌||◌, List, [], ◌∷◌, length, map, position, arith}
use Rattle.std.specs.Prelude.{Some, None, nat_lt, unwrap_or}
use Rattle.std.specs.List.{list_any, position_or_len}
use Rattle.std.proofs.lemmas.Bool.{cases_lt, lt-ltb}
use Rattle.std.proofs.lemmas.Bool.Decides.{nat_tests}
use Rattle.std.proofs.lemmas.List.{length-map}

pub within_list : {X : Type 0} (p : X → Bool) (xs : List X) → position_or_len p xs ≤ length xs
within_list p [] = omega arith
within_list p (x ∷ xs) = either (p x) (within_list p xs)
  where
    either : (b : Bool) → position_or_len p xs ≤ length xs → cond (not b) (1 + position_or_len p xs) 0 ≤ length (x ∷ xs)
    either true h = omega arith
    either false h = omega (arith, h)

-- the place, or the number of elements
pub or_length : {X : Type 0} (p : X → Bool) (xs : List X) → unwrap_or (position p xs) (length xs) ≡ position_or_len p xs
or_length p xs = elim (cases_lt (position_or_len p xs) (length xs)) [
  | inl lt ↦ ap (λ b. unwrap_or (cond b (Some (position_or_len p xs)) None) (length xs)) (lt-ltb _ _ lt)
  | inr beyond ↦ let all = within_list p xs in grind (arith, nat_tests)
]

-- something passes exactly where the first place is one of the list
one_step : (b any : Bool) (n m : ℕ) → nat_lt n m ≡ any → nat_lt (cond (not b) (1 + n) 0) (suc m) ≡ (b || any)
one_step true any n m h = grind (arith, nat_tests)
one_step false any n m h = grind (arith, nat_tests)

pub any_within : {X : Type 0} (p : X → Bool) (xs : List X) → nat_lt (position_or_len p xs) (length xs) ≡ list_any p xs
any_within p [] = grind (arith, nat_tests)
any_within p (x ∷ xs) = one_step (p x) (list_any p xs) (position_or_len p xs) (length xs) (any_within p xs)

-- the same among the values of a function
pub any_within_map : {X Y : Type 0} (f : X → Y) (p : Y → Bool) (xs : List X) (n : ℕ) → n ≡ position_or_len p (map f xs) → nat_lt n (length xs) ≡ list_any p (map f xs)
any_within_map f p xs n is =
    ap (λ m. nat_lt m (length xs)) is ∙ ap (λ m. nat_lt (position_or_len p (map f xs)) m) (sym (length-map xs f)) ∙ any_within p (map f xs)
