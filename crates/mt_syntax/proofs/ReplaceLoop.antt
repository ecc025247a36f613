-- Replacing parameters, one place on.
use Rattle.std.proofs.Common.{◌≡◌, ℕ, zero, suc, ◌+◌, ◌-◌, ◌<◌, ◌≤◌, List, [], ◌∷◌, ◌++◌, length, take, drop, get_or, cond, Option, Some, None, Bool, true, false, refl, sym, ap, ◌∙◌, arith}
use Rattle.std.specs.Option.{option_map}
use Rattle.std.proofs.lemmas.List.{at_drop_more, at_drop_all, drop_more}
use Rattle.mt_syntax.specs.declared.replacing.Binding.{Binding}
use Rattle.mt_syntax.specs.Piece.{name_len}
use Rattle.mt_syntax.specs.Replacing.{argument_at, is_unknown_at, replaced_from, unknown_in}
use Rattle.mt_syntax.proofs.HiddenComments.{to_end, moved}

step_skip : (bs : List Binding) (s b : ℕ) (xs : List ℕ) → 0 < s → replaced_from bs s (b ∷ xs) ≡ replaced_from bs (s - 1) xs
unfolding replaced_from
step_skip bs zero b xs h = absurd (omega arith)
step_skip bs (suc s) b xs h = let e : suc s - 1 ≡ s = omega arith in rw e refl

pub replaced_skip : (bs : List Binding) (xs : List ℕ) (at s : ℕ) → at < length xs → 0 < s → replaced_from bs s (drop at xs) ≡ replaced_from bs (s - 1) (drop (at + 1) xs)
replaced_skip bs xs at s lt h = at_drop_more (replaced_from bs s) xs at 0 lt ∙ step_skip bs s (get_or xs at 0) (drop (at + 1) xs) h

step_none : (bs : List Binding) (b : ℕ) (xs : List ℕ) → argument_at bs (b ∷ xs) ≡ None → replaced_from bs 0 (b ∷ xs) ≡ b ∷ replaced_from bs 0 xs
unfolding replaced_from
step_none bs b xs h = rw (h, replaced_from) refl

step_some : (bs : List Binding) (b : ℕ) (xs argument : List ℕ) → argument_at bs (b ∷ xs) ≡ Some argument → replaced_from bs 0 (b ∷ xs) ≡ argument ++ replaced_from bs (name_len xs) xs
unfolding replaced_from
step_some bs b xs argument h = rw (h, replaced_from) refl

pub here : (bs : List Binding) (xs : List ℕ) (at : ℕ) (r : Option (List ℕ)) → at < length xs → r ≡ argument_at bs (take (length xs - at) (drop at xs)) → argument_at bs (get_or xs at 0 ∷ drop (at + 1) xs) ≡ r
here bs xs at r lt e = sym (at_drop_more (argument_at bs) xs at 0 lt) ∙ ap (argument_at bs) (sym (to_end xs at)) ∙ sym e

pub replaced_none : (bs : List Binding) (xs : List ℕ) (at s : ℕ) → at < length xs → s ≡ 0 → None ≡ argument_at bs (take (length xs - at) (drop at xs)) → replaced_from bs s (drop at xs) ≡ get_or xs at 0 ∷ replaced_from bs 0 (drop (at + 1) xs)
replaced_none bs xs at s lt z e = ap (λ k. replaced_from bs k (drop at xs)) z ∙ at_drop_more (replaced_from bs 0) xs at 0 lt ∙ step_none bs (get_or xs at 0) (drop (at + 1) xs) (here bs xs at None lt e)

pub replaced_some : (bs : List Binding) (xs : List ℕ) (at s : ℕ) (argument : List ℕ) → at < length xs → s ≡ 0 → Some argument ≡ argument_at bs (take (length xs - at) (drop at xs)) → replaced_from bs s (drop at xs) ≡ argument ++ replaced_from bs (name_len (drop (at + 1) xs)) (drop (at + 1) xs)
replaced_some bs xs at s argument lt z e = ap (λ k. replaced_from bs k (drop at xs)) z ∙ at_drop_more (replaced_from bs 0) xs at 0 lt ∙ step_some bs (get_or xs at 0) (drop (at + 1) xs) argument (here bs xs at (Some argument) lt e)

pub replaced_end : (bs : List Binding) (xs : List ℕ) (at s : ℕ) → length xs ≤ at → replaced_from bs s (drop at xs) ≡ []
unfolding replaced_from
replaced_end bs xs at zero le = at_drop_all (replaced_from bs zero) xs at le
replaced_end bs xs at (suc s) le = at_drop_all (replaced_from bs (suc s)) xs at le

unknown_step : (bs : List Binding) (xs : List ℕ) (at : ℕ) → at < length xs → unknown_in bs (drop at xs) ≡ cond (is_unknown_at bs (drop at xs)) (Some 0) (option_map (λ n. n + 1) (unknown_in bs (drop (at + 1) xs)))
unfolding unknown_in
unknown_step bs xs at lt =
    let e : drop at xs ≡ get_or xs at 0 ∷ drop (at + 1) xs = drop_more xs at 0 lt in
    rw e refl

-- the byte at a place begins no unknown name
pub unknown_on : (bs : List Binding) (xs : List ℕ) (at : ℕ) → at < length xs → is_unknown_at bs (drop at xs) ≡ false
    → unknown_in bs xs ≡ option_map (λ n. n + at) (unknown_in bs (drop at xs)) → unknown_in bs xs ≡ option_map (λ n. n + (at + 1)) (unknown_in bs (drop (at + 1) xs))
unknown_on bs xs at lt f so_far = let one : unknown_in bs (drop at xs) ≡ option_map (λ n. n + 1) (unknown_in bs (drop (at + 1) xs)) = unknown_step bs xs at lt ∙ rw f refl in
    so_far ∙ ap (option_map (λ n. n + at)) one ∙ moved at (unknown_in bs (drop (at + 1) xs))

pub unknown_here : (bs : List Binding) (xs : List ℕ) (at : ℕ) → at < length xs → is_unknown_at bs (drop at xs) ≡ true
    → unknown_in bs xs ≡ option_map (λ n. n + at) (unknown_in bs (drop at xs)) → Some at ≡ unknown_in bs xs
unknown_here bs xs at lt t so_far =
    let zero_is : 0 + at ≡ at = omega arith in
    let one : unknown_in bs (drop at xs) ≡ Some 0 = unknown_step bs xs at lt ∙ rw t refl in
    sym (so_far ∙ ap (option_map (λ n. n + at)) one ∙ ap (λ (n : ℕ). Some n) zero_is)

pub unknown_end : (bs : List Binding) (xs : List ℕ) (at : ℕ) → length xs ≤ at → unknown_in bs xs ≡ option_map (λ n. n + at) (unknown_in bs (drop at xs)) → None ≡ unknown_in bs xs
unfolding unknown_in
unknown_end bs xs at le so_far = sym (so_far ∙ ap (option_map (λ n. n + at)) (at_drop_all (unknown_in bs) xs at le))

-- what a test of a slice up to the end says
pub tested : (bs : List Binding) (xs : List ℕ) (at : ℕ) (t : Bool) → t ≡ is_unknown_at bs (take (length xs - at) (drop at xs)) → is_unknown_at bs (drop at xs) ≡ t
tested bs xs at t e = ap (is_unknown_at bs) (sym (to_end xs at)) ∙ sym e
