-- The pairs of the set are distinct.
use Rattle.std.proofs.Common.{◌≡◌, ◌∙◌, sym, ap, ℕ, true, eqb, ◌&&◌, arith, slice_get}
use Rattle.std.proofs.lemmas.Bool.Decides.{nat_tests}
use Rattle.mt_cuts.proofs.Apart.{distinct_apart}
use Rattle.mt_cuts.proofs.pairs.product.Goals as goal

own : (a b : ℕ) → (eqb a a && eqb b b) ≡ true
own a b = grind (arith, nat_tests)

same_pair : (x y : ℕ × ℕ) → (y.0 ≡ x.0) × (y.1 ≡ x.1) → y ≡ x
same_pair x y is = let e : (y.0, y.1) ≡ (x.0, x.1) = ap (λ n. (n, y.1)) is.0 ∙ ap (λ n. (x.0, n)) is.1 in e

pub returns-clause-apart : goal.returns-clause-apart
returns-clause-apart c i j pair e e' =
    let same : c.in_ok-pairs.pairs.items ≡ c.merge_behind.new.choice.pairs.keys = c.in_ok-pairs.ensures.items_if_clones_equal same_pair ∙ c.as_slice.ensures.keys in
    distinct_apart _ (λ x. own x.0 x.1) c.merge_behind.new.choice.pairs.keys c.as_slice.ensures.unique i j pair (sym (ap (λ ps. slice_get ps i) same) ∙ e) (sym (ap (λ ps. slice_get ps j) same) ∙ e')
