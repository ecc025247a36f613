-- The elements of the devices on which frames arrive.
use Rattle.std.proofs.Common.{◌≡◌, ◌∙◌, ap, ℕ, zero, suc, ◌+◌, ◌<◌, ◌≤◌, not, cond, Bool, true, false, List, [], ◌∷◌, length, position, arith}
use Rattle.std.specs.Prelude.{Some, slice_get, unwrap_or, ◌==◌}
use Rattle.std.specs.List.{position_or_len}
use Rattle.std.proofs.lemmas.Bool.Decides.{nat_tests}
use Rattle.std.proofs.lemmas.Option.{none-some}
use Rattle.mt_kinds.specs.declared.kind.Kind.TheVariants.{FromDevice}
use Rattle.mt_elements.specs.ChainState.{ChainState, is_entry, entry_of}
use Rattle.mt_elements.specs.Numbered.{IsNumbered}
use Rattle.mt_chain.specs.Run.{IsThere}

-- where an element passes, the first that does is within the list
passed_within : {A : Type 0} (p : A → Bool) (xs : List A) (i : ℕ) (x : A) → slice_get xs i ≡ Some x → p x ≡ true → position_or_len p xs < length xs
passed_within p [] i x is passes = absurd (none-some x is)
passed_within p (y ∷ xs) zero x is passes =
    let here : p y ≡ true = ap p (ap (λ found. unwrap_or found y) is) ∙ passes in
    let first : position_or_len p (y ∷ xs) ≡ 0 = ap (λ b. cond (not b) (1 + position_or_len p xs) 0) here in
    omega (arith, first)
passed_within p (y ∷ xs) (suc i) x is passes = either (p y) (passed_within p xs i x is passes)
  where
    either : (b : Bool) → position_or_len p xs < length xs → cond (not b) (1 + position_or_len p xs) 0 < suc (length xs)
    either true within = omega arith
    either false within = omega (arith, within)

there_is : {A : Type 0} (p : A → Bool) (xs : List A) (i : ℕ) (x : A) → slice_get xs i ≡ Some x → p x ≡ true → IsThere (position p xs)
there_is p xs i x is passes =
    let within = passed_within p xs i x is passes in
    (position_or_len p xs, grind (arith, nat_tests))

same : (n : ℕ) → (n == n) ≡ true
same n = grind (arith, nat_tests)

-- each device on which frames arrive has an element
pub has_entry : (chain : ChainState) (device : ℕ) → IsNumbered chain → 0 < device → device ≤ chain.entries → IsThere (entry_of chain device)
has_entry chain device numbered some among =
    let entered = numbered.entered device some among in
    there_is (is_entry device) chain.kinds entered.0 (FromDevice device) entered.1 (same device)
