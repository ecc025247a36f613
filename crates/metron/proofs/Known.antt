-- A policy that is known is found.
use Rattle.std.proofs.Common.{◌≡◌, ◌<◌, ℕ, ◌+◌, Bool, true, false, cond, not, List, [], ◌∷◌, length, map, get_or, Option, Some, None, refl, sym, ◌∙◌, ap, subst, arith}
use Rattle.std.specs.Prelude.{◌||◌, MatchOption, nat_lt, position, slice_get}
use Rattle.std.specs.List.{list_any, position_or_len}
use Rattle.std.specs.Str.{bytes_eq}
use Rattle.std.proofs.lemmas.Bool.{true≢false}
use Rattle.std.proofs.lemmas.Bool.Decides.{nat_tests}
use Rattle.std.proofs.lemmas.Option.{none-some, slice_get-get_or}
use Rattle.mt_command.specs.Policies.{is_policy}

module _ {X : Type 0} (p : X → Bool) where
  within : (xs : List X) → list_any p xs ≡ true → position_or_len p xs < length xs
  within [] h = absurd (true≢false (sym h))
  within (x ∷ xs) h = by_first (p x) (within xs) h
    where
      by_first : (b : Bool) → (list_any p xs ≡ true → position_or_len p xs < length xs) → (b || list_any p xs) ≡ true → cond (not b) (1 + position_or_len p xs) 0 < length (x ∷ xs)
      by_first true more h = omega arith
      by_first false more h = let behind = more h in omega (arith, behind)

  -- what stands at the first place that passes is there
  found_there : (xs : List X) (r : Option X) → list_any p xs ≡ true → MatchOption (position p xs) (r ≡ None) (λ place. r ≡ slice_get xs place) → r ≡ None → ⊥
  found_there [] r h taken none = absurd (true≢false (sym h))
  found_there (x ∷ xs) r h taken none =
      let k : ℕ = position_or_len p (x ∷ xs) in
      let inside : k < length (x ∷ xs) = within (x ∷ xs) h in
      let test : nat_lt k (length (x ∷ xs)) ≡ true = grind (arith, nat_tests) in
      let is : r ≡ slice_get (x ∷ xs) k = subst (λ b. MatchOption (cond b (Some k) None) (r ≡ None) (λ place. r ≡ slice_get (x ∷ xs) place)) test taken in
      none-some (get_or (x ∷ xs) k x) (sym none ∙ is ∙ slice_get-get_or (x ∷ xs) k x inside)

any_of_map : {X : Type 0} (f : X → List ℕ) (xs : List X) (name : List ℕ) → list_any (λ known. bytes_eq known name) (map f xs) ≡ list_any (λ x. bytes_eq (f x) name) xs
any_of_map f [] name = refl
any_of_map f (x ∷ xs) name = ap (λ b. bytes_eq (f x) name || b) (any_of_map f xs name)

pub known_is_taken : {X : Type 0} (f : X → List ℕ) (xs : List X) (name : List ℕ) (r : Option X) → MatchOption (position (λ x. bytes_eq (f x) name) xs) (r ≡ None) (λ place. r ≡ slice_get xs place)
    → is_policy (map f xs) name ≡ true → r ≡ None → ⊥
unfolding is_policy
known_is_taken f xs name r taken known none = found_there (λ x. bytes_eq (f x) name) xs r (sym (any_of_map f xs name) ∙ known) taken none
