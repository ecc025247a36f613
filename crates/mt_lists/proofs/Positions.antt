-- The first element that passes a test, as a loop over places finds it.
use Rattle.std.proofs.Common.{◌≡◌, ℕ, suc, [], ◌∷◌, not, cond, ◌<◌, ◌+◌, Bool, true, false, List, length, get_or, position, arith, inl, inr, refl, ◌∙◌, ap}
use Rattle.std.specs.Prelude.{Some, None, slice_get}
use Rattle.std.specs.List.{position_or_len}
use Rattle.std.proofs.lemmas.List.Sums.{position_or_len_is}
use Rattle.std.proofs.lemmas.Bool.Decides.{nat_tests}
use Rattle.std.proofs.lemmas.Bool.{cases_lt}
use Rattle.std.proofs.lemmas.Option.{get_or_from_slice_get, slice_get_within}

-- none of the first ones passes
abbrev pub NoneBefore : {X : Type 0} → (X → Bool) → List X → ℕ → Type 0
NoneBefore {X} p xs n = (k : ℕ) (d : X) → k < n → p (get_or xs k d) ≡ false

pub found : {X : Type 0} (p : X → Bool) (xs : List X) (i : ℕ) (x : X) → NoneBefore p xs i → slice_get xs i ≡ Some x → p x ≡ true → position p xs ≡ Some i
found p xs i x before is passes =
    let within : i < length xs = slice_get_within xs i x is in
    let first : position_or_len p xs ≡ i =
    position_or_len_is p xs i x (omega arith) (λ k. before k x) (λ _. ap p (get_or_from_slice_get xs i x x is) ∙ passes) in
    grind (arith, nat_tests)

none_passes : {X : Type 0} (p : X → Bool) (xs : List X) → NoneBefore p xs (length xs) → position_or_len p xs ≡ length xs
none_passes p [] before = refl
none_passes p (x ∷ xs) before =
    let here : p x ≡ false = before 0 x (omega arith) in
    let rest = none_passes p xs (λ k d within. before (suc k) d (omega arith)) in
    ap (λ b. cond (not b) (1 + position_or_len p xs) 0) here ∙ omega (arith, rest)

pub missing : {X : Type 0} (p : X → Bool) (xs : List X) (i : ℕ) → i ≡ length xs → NoneBefore p xs i → position p xs ≡ None
missing p xs i all before =
    let none = none_passes p xs (λ k d within. before k d (omega arith)) in
    grind (arith, nat_tests)

pub one_more : {X : Type 0} (p : X → Bool) (xs : List X) (i : ℕ) (x : X) → NoneBefore p xs i → slice_get xs i ≡ Some x → p x ≡ false → NoneBefore p xs (i + 1)
one_more p xs i x before is fails k d within = elim (cases_lt k i) [
  | inl earlier ↦ before k d earlier
  | inr last ↦ let same : k ≡ i = omega arith in ap (λ n. p (get_or xs n d)) same ∙ ap p (get_or_from_slice_get xs i x d is) ∙ fails
]
