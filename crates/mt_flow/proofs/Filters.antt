-- Tests of numbers, and what a filter keeps of two lists.
use Rattle.std.proofs.Common.{◌≡◌, ◌⊎◌, ℕ, List, [], ◌∷◌, ◌++◌, Bool, true, false, eqb, filter, ap, refl, inl, inr, arith}
use Rattle.std.proofs.lemmas.Bool.Decides.{nat_tests}
use Rattle.mt_flow.specs.declared.mapping.Mapping.{Mapping}

pub eqb_same : (m n : ℕ) → eqb m n ≡ true → m ≡ n
eqb_same m n e = grind (arith, nat_tests)

pub same_eqb : (m n : ℕ) → m ≡ n → eqb m n ≡ true
same_eqb m n e = grind (arith, nat_tests)

pub either : (b : Bool) → (b ≡ true) ⊎ (b ≡ false)
either true = inl refl
either false = inr refl

pub filter-append : (test : Mapping → Bool) (xs ys : List Mapping) → filter test (xs ++ ys) ≡ filter test xs ++ filter test ys
filter-append test [] ys = refl
filter-append test (x ∷ xs) ys = elim (either (test x)) [
  | inl e ↦ rw e (ap (λ ms. x ∷ ms) (filter-append test xs ys))
  | inr e ↦ rw e (filter-append test xs ys)
]
