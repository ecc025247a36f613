-- Keys that are distinct stand at one place each.
use Rattle.std.proofs.Common.{◌≡◌, ℕ, zero, suc, List, [], ◌∷◌, slice_get, Some, None, Bool, true, false, refl, sym, ap, ◌∙◌}
use Rattle.std.specs.List.{AllByRecursion, IsDistinct}

same_key : {K : Type 0} (x y : K) → Some x ≡ Some y → x ≡ y
same_key x y e = cc

other : {K : Type 0} (eq : K → K → Bool) → ((x : K) → eq x x ≡ true) → (x : K) (xs : List K) → AllByRecursion (λ y. eq x y ≡ false) xs → (j : ℕ) (p : K) → x ≡ p → slice_get xs j ≡ Some p → ⊥
other eq own x [] h j p e b = let q : None ≡ Some p = b in cc
other eq own x (y ∷ ys) h zero p e b =
    let same : x ≡ y = e ∙ sym (same_key y p b) in
    let q : true ≡ false = sym (own x) ∙ ap (eq x) same ∙ h.0 in cc
other eq own x (y ∷ ys) h (suc j) p e b = other eq own x ys h.1 j p e b

pub distinct_apart : {K : Type 0} (eq : K → K → Bool) → ((x : K) → eq x x ≡ true) → (ks : List K) → IsDistinct eq ks → (i j : ℕ) (p : K) → slice_get ks i ≡ Some p → slice_get ks j ≡ Some p → i ≡ j
unfolding IsDistinct
distinct_apart eq own [] h i j p a b = absurd (let q : None ≡ Some p = a in cc)
distinct_apart eq own (x ∷ xs) h zero zero p a b = refl
distinct_apart eq own (x ∷ xs) h zero (suc j) p a b = absurd (other eq own x xs h.0 j p (same_key x p a) b)
distinct_apart eq own (x ∷ xs) h (suc i) zero p a b = absurd (other eq own x xs h.0 i p (same_key x p b) a)
distinct_apart eq own (x ∷ xs) h (suc i) (suc j) p a b = ap suc (distinct_apart eq own xs h.1 i j p a b)
