-- Where the byte of a number stands that no comment hides, one place on.
use Rattle.std.proofs.Common.{◌≡◌, ℕ, zero, suc, ◌+◌, ◌-◌, ◌<◌, List, [], ◌∷◌, length, Option, Some, None, refl, arith, ap, sym}
use Rattle.mt_syntax.specs.Comment.{nothings}
use Rattle.mt_syntax.specs.Arguments.{shown_index}

pub hidden_index : (bs : List (Option ℕ)) (n : ℕ) → shown_index (None ∷ bs) n ≡ shown_index bs n + 1
unfolding shown_index
hidden_index bs n = refl

pub index_here : (b : ℕ) (bs : List (Option ℕ)) (n : ℕ) → n ≡ 0 → shown_index (Some b ∷ bs) n ≡ 0
unfolding shown_index
index_here b bs n z = ap (shown_index (Some b ∷ bs)) z

pub index_more : (b : ℕ) (bs : List (Option ℕ)) (n : ℕ) → 0 < n → shown_index (Some b ∷ bs) n ≡ shown_index bs (n - 1) + 1
unfolding shown_index
index_more b bs zero h = absurd (omega arith)
index_more b bs (suc n) h = let e : suc n - 1 ≡ n = omega arith in ap (λ k. shown_index bs k + 1) (sym e)

pub index_nothings : (bs : List ℕ) (n : ℕ) → shown_index (nothings bs) n ≡ length bs
unfolding shown_index
index_nothings [] n = refl
index_nothings (b ∷ bs) n = omega (arith, index_nothings bs n)

pub index_end : (n : ℕ) → shown_index [] n ≡ 0
unfolding shown_index
index_end n = refl
