-- Places among ends that rise, and the parts of a node.
use Rattle.std.proofs.Common.{◌≡◌, ◌+◌, ◌<◌, ◌≤◌, ℕ, zero, suc, List, [], ◌∷◌, length, get_or, sym, ◌∙◌, ap, arith, true, false, ltb, nat_le}
use Rattle.std.proofs.lemmas.Bool.{cond-true, cond-false, le-leb, lt-leb, ltb-true, ltb-false}
use Rattle.std.specs.List.Sorted.{IsStrictlyIncreasing, IsNonDecreasingBy}
use Rattle.std.proofs.lemmas.List.Sorted.{IsNonDecreasingBy-from_all_adjacent}
use Rattle.std.proofs.lemmas.List.{get_or_default}
use Rattle.mt_cuts.specs.View.{index_among}

-- the ends in front are below a value, the others are not
pub place_is : (v : ℕ) (xs : List ℕ) (i : ℕ) → i ≤ length xs → ((k d : ℕ) → k < i → ltb (get_or xs k d) v ≡ true) → ((k d : ℕ) → i ≤ k → k < length xs → ltb (get_or xs k d) v ≡ false) → i ≡ index_among v xs
place_is v [] i most below others = omega arith
place_is v (e ∷ es) zero most below others =
    sym (cond-true (nat_le v e) 0 (suc (index_among v es)) (le-leb v e (ltb-false e v (others 0 0 (omega arith) (omega arith)))))
place_is v (e ∷ es) (suc i) most below others =
    ap suc (place_is v es i (omega arith) (λ k d lt. below (suc k) d (omega arith)) (λ k d le lt. others (suc k) d (omega arith) (omega arith)))
    ∙ sym (cond-false (nat_le v e) 0 (suc (index_among v es)) (lt-leb v e (ltb-true e v (below 0 0 (omega arith)))))

-- ends that rise strictly never fall
pub never_falls : (xs : List ℕ) → IsStrictlyIncreasing xs → IsNonDecreasingBy (λ (x : ℕ). x) xs
never_falls xs rises = IsNonDecreasingBy-from_all_adjacent (λ (x : ℕ). x) xs (λ k d lt. at_default xs k d lt (rises k lt))
  where
    at_default : (xs : List ℕ) (k d : ℕ) → k + 1 < length xs → get_or xs k 0 < get_or xs (k + 1) 0 → get_or xs k d ≤ get_or xs (k + 1) d
    at_default xs k d lt rise = subst2 (get_or_default xs k 0 d (omega arith)) (get_or_default xs (k + 1) 0 d lt) rise
      where
        subst2 : {a b x y : ℕ} → a ≡ x → b ≡ y → a < b → x ≤ y
        subst2 p q lt = omega arith
