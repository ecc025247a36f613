-- A text whose comments are hidden, one place on.
use Rattle.std.proofs.Common.{◌≡◌, ℕ, zero, suc, ◌+◌, ◌-◌, ◌<◌, ◌≤◌, List, [], ◌∷◌, ◌++◌, length, take, drop, get_or, Option, Some, None, cond, eqb, leb, Bool, true, false, ◌&&◌, refl, sym, ap, ◌∙◌, arith, length-drop, append_assoc}
use Rattle.std.proofs.lemmas.List.{at_drop_more, at_drop_all, take_all, get_or-drop}
use Rattle.std.specs.Option.{option_map, option_to_list}
use Rattle.std.specs.List.{prefix_len, flat_map}
use Rattle.std.proofs.lemmas.List.Concat.{flat_map-cons}
use Rattle.mt_syntax.specs.declared.comment.Comment.{Comment}
use Rattle.mt_syntax.specs.declared.comment.Comment.TheVariants.{Absent, Closed, Open}
use Rattle.std.proofs.lemmas.Bool.{le-leb}
use Rattle.std.proofs.lemmas.Bool.Decides.{nat_tests}
use Rattle.mt_syntax.specs.Comment.{block_len, comment_at, hidden, nothings}
use Rattle.mt_syntax.specs.Closing.{closing, is_plain, depth_after}

-- as many places as the text has bytes
pub length_hidden : (bytes : List ℕ) (s : ℕ) → length (hidden s bytes) ≡ length bytes
unfolding hidden
length_hidden [] zero = refl
length_hidden [] (suc s) = refl
length_hidden (b ∷ bs) (suc s) = ap suc (length_hidden bs s)
length_hidden (b ∷ bs) zero =
    elim (comment_at (b ∷ bs)) as (λ (c : Comment). length {A = Option ℕ} (elim c [ Absent ↦ Some b ∷ hidden 0 bs | Closed n ↦ None ∷ hidden (n - 1) bs | Open ↦ None ∷ hidden (length bs) bs ]) ≡ suc (length bs)) [
      | Absent ↦ ap suc (length_hidden bs 0)
      | Closed n ↦ ap suc (length_hidden bs (n - 1))
      | Open ↦ ap suc (length_hidden bs (length bs))
    ]

-- a slice up to the end is what is left of the list
pub to_end : (xs : List ℕ) (i : ℕ) → take (length xs - i) (drop i xs) ≡ drop i xs
to_end xs i = take_all (length xs - i) (drop i xs) (omega (arith, length-drop i xs))

step_skip : (s : ℕ) (b : ℕ) (bs : List ℕ) → 0 < s → hidden s (b ∷ bs) ≡ None ∷ hidden (s - 1) bs
unfolding hidden
step_skip zero b bs h = absurd (omega arith)
step_skip (suc s) b bs h = let e : suc s - 1 ≡ s = omega arith in rw e refl

pub hidden_skip : (xs : List ℕ) (i s : ℕ) → i < length xs → 0 < s → hidden s (drop i xs) ≡ None ∷ hidden (s - 1) (drop (i + 1) xs)
hidden_skip xs i s lt h = at_drop_more (hidden s) xs i 0 lt ∙ step_skip s (get_or xs i 0) (drop (i + 1) xs) h

pub step_absent : (b : ℕ) (bs : List ℕ) → comment_at (b ∷ bs) ≡ Absent → hidden 0 (b ∷ bs) ≡ Some b ∷ hidden 0 bs
unfolding hidden
step_absent b bs h = rw (h, hidden) refl

pub step_closed : (n : ℕ) (b : ℕ) (bs : List ℕ) → comment_at (b ∷ bs) ≡ Closed n → hidden 0 (b ∷ bs) ≡ None ∷ hidden (n - 1) bs
unfolding hidden
step_closed n b bs h = rw (h, hidden) refl

pub step_open : (b : ℕ) (bs : List ℕ) → comment_at (b ∷ bs) ≡ Open → hidden 0 (b ∷ bs) ≡ None ∷ hidden (length bs) bs
unfolding hidden
step_open b bs h = rw (h, hidden) refl

-- what the comment at a place is, seen from the place on
at_place : (xs : List ℕ) (i : ℕ) (r : Comment) → i < length xs → r ≡ comment_at (take (length xs - i) (drop i xs)) → comment_at (get_or xs i 0 ∷ drop (i + 1) xs) ≡ r
at_place xs i r lt e = sym (at_drop_more comment_at xs i 0 lt) ∙ ap comment_at (sym (to_end xs i)) ∙ sym e

pub hidden_absent : (xs : List ℕ) (i s : ℕ) → i < length xs → s ≡ 0 → Absent ≡ comment_at (take (length xs - i) (drop i xs)) → hidden s (drop i xs) ≡ Some (get_or xs i 0) ∷ hidden 0 (drop (i + 1) xs)
hidden_absent xs i s lt z e = ap (λ k. hidden k (drop i xs)) z ∙ at_drop_more (hidden 0) xs i 0 lt ∙ step_absent (get_or xs i 0) (drop (i + 1) xs) (at_place xs i Absent lt e)

pub hidden_closed : (xs : List ℕ) (i s n : ℕ) → i < length xs → s ≡ 0 → Closed n ≡ comment_at (take (length xs - i) (drop i xs)) → hidden s (drop i xs) ≡ None ∷ hidden (n - 1) (drop (i + 1) xs)
hidden_closed xs i s n lt z e = ap (λ k. hidden k (drop i xs)) z ∙ at_drop_more (hidden 0) xs i 0 lt ∙ step_closed n (get_or xs i 0) (drop (i + 1) xs) (at_place xs i (Closed n) lt e)

pub hidden_end : (xs : List ℕ) (i s : ℕ) → length xs ≤ i → hidden s (drop i xs) ≡ []
unfolding hidden
hidden_end xs i zero le = at_drop_all (hidden zero) xs i le
hidden_end xs i (suc s) le = at_drop_all (hidden (suc s)) xs i le

pub all_hidden : (bs : List ℕ) (s : ℕ) → length bs ≤ s → hidden s bs ≡ nothings bs
unfolding hidden
all_hidden [] zero le = refl
all_hidden [] (suc s) le = refl
all_hidden (b ∷ bs) zero le = absurd (omega arith)
all_hidden (b ∷ bs) (suc s) le = ap (λ (x : List (Option ℕ)). None ∷ x) (all_hidden bs s (omega arith))

pub hidden_open : (xs : List ℕ) (i s : ℕ) → i < length xs → s ≡ 0 → Open ≡ comment_at (take (length xs - i) (drop i xs)) → hidden s (drop i xs) ≡ nothings (drop i xs)
hidden_open xs i s lt z e =
    let bs = drop (i + 1) xs in
    ap (λ k. hidden k (drop i xs)) z ∙ at_drop_more (hidden 0) xs i 0 lt ∙ step_open (get_or xs i 0) bs (at_place xs i Open lt e)
    ∙ ap (λ (x : List (Option ℕ)). None ∷ x) (all_hidden bs (length bs) (omega arith)) ∙ sym (at_drop_more nothings xs i 0 lt)

pub shown_nothings : (bs : List ℕ) → flat_map option_to_list (nothings bs) ≡ []
shown_nothings [] = refl
shown_nothings (b ∷ bs) = flat_map-cons option_to_list None (nothings bs) ∙ shown_nothings bs

pub shown_step : (front : List ℕ) (x : ℕ) (rest : List (Option ℕ)) → front ++ flat_map option_to_list (Some x ∷ rest) ≡ (front ++ x ∷ []) ++ flat_map option_to_list rest
shown_step front x rest = ap (λ (y : List ℕ). front ++ y) (flat_map-cons option_to_list (Some x) rest) ∙ sym (append_assoc front (x ∷ []) (flat_map option_to_list rest))

pub plain_nothings : (bs : List ℕ) → prefix_len is_plain (nothings bs) ≡ length bs
plain_nothings [] = refl
plain_nothings (b ∷ bs) = omega (arith, plain_nothings bs)

pub plain_some : (b : ℕ) (rest : List (Option ℕ)) → b ≤ 126 → prefix_len is_plain (Some b ∷ rest) ≡ 1 + prefix_len is_plain rest
plain_some b rest h = let t : leb b 126 ≡ true = le-leb b 126 h in rw t refl

pub plain_stop : (b : ℕ) (rest : List (Option ℕ)) → 126 < b → prefix_len is_plain (Some b ∷ rest) ≡ 0
plain_stop b rest h = let t : leb b 126 ≡ false = grind (arith, nat_tests) in rw t refl

pub closing_nothings : (d : ℕ) (bs : List ℕ) → closing d (nothings bs) ≡ None
unfolding closing
closing_nothings d [] = refl
closing_nothings d (b ∷ bs) = rw (closing_nothings d bs) refl

pub closing_end : (d : ℕ) → closing d [] ≡ None
unfolding closing
closing_end d = refl

pub moved : (at : ℕ) (o : Option ℕ) → option_map (λ n. n + at) (option_map (λ n. n + 1) o) ≡ option_map (λ n. n + (at + 1)) o
moved at None = refl
moved at (Some n) = ap (λ (k : ℕ). Some k) (omega arith)

pub closing_none : (d at : ℕ) (rest : List (Option ℕ)) → option_map (λ n. n + at) (closing d (None ∷ rest)) ≡ option_map (λ n. n + (at + 1)) (closing d rest)
unfolding closing
closing_none d at rest = moved at (closing d rest)

pub closing_some : (d at b : ℕ) (rest : List (Option ℕ)) → (b ≡ 41 → d ≡ 0 → ⊥) → option_map (λ n. n + at) (closing d (Some b ∷ rest)) ≡ option_map (λ n. n + (at + 1)) (closing (depth_after d b) rest)
unfolding closing
closing_some d at b rest other = let t : (eqb b 41 && eqb d 0) ≡ false = grind (arith, nat_tests) in rw t (moved at (closing (depth_after d b) rest))

pub closing_here : (d b : ℕ) (rest : List (Option ℕ)) → b ≡ 41 → d ≡ 0 → closing d (Some b ∷ rest) ≡ Some 1
unfolding closing
closing_here d b rest e z = rw (e, z) refl

block_step : (xs : List ℕ) (k : ℕ) → k + 1 < length xs → block_len (drop k xs) ≡ cond (eqb (get_or xs k 0) 42 && eqb (get_or xs (k + 1) 0) 47) (Some 2) (option_map (λ n. n + 1) (block_len (drop (k + 1) xs)))
block_step xs k lt =
    let g : get_or (drop (k + 1) xs) 0 0 ≡ get_or xs (k + 1) 0 = get_or-drop (k + 1) xs 0 0 ∙ ap (λ j. get_or xs j 0) (omega arith) in
    at_drop_more block_len xs k 0 (omega arith) ∙ rw g refl

pub block_off : (xs : List ℕ) (at : ℕ) → 1 ≤ at → at < length xs → (get_or xs (at - 1) 0 ≡ 42 → get_or xs at 0 ≡ 47 → ⊥) → block_len xs ≡ option_map (λ n. n + (at - 1)) (block_len (drop (at - 1) xs)) → block_len xs ≡ option_map (λ n. n + (at + 1 - 1)) (block_len (drop (at + 1 - 1) xs))
block_off xs at low lt other so_far =
    let k : at - 1 + 1 ≡ at = omega arith in
    let k2 : at + 1 - 1 ≡ at = omega arith in
    let f : (eqb (get_or xs (at - 1) 0) 42 && eqb (get_or xs at 0) 47) ≡ false = grind (arith, nat_tests) in
    let s = block_step xs (at - 1) (omega arith) in
    let e : block_len (drop (at - 1) xs) ≡ option_map (λ n. n + 1) (block_len (drop at xs)) = s ∙ rw (k, f) refl in
    rw k2 (so_far ∙ rw e (moved (at - 1) (block_len (drop at xs)) ∙ ap (λ j. option_map (λ n. n + j) (block_len (drop at xs))) k))

pub block_on : (xs : List ℕ) (at : ℕ) → 1 ≤ at → at < length xs → get_or xs (at - 1) 0 ≡ 42 → get_or xs at 0 ≡ 47 → block_len xs ≡ option_map (λ n. n + (at - 1)) (block_len (drop (at - 1) xs)) → Some (at + 1) ≡ block_len xs
block_on xs at low lt a b so_far =
    let k : at - 1 + 1 ≡ at = omega arith in
    let s = block_step xs (at - 1) (omega arith) in
    let e : block_len (drop (at - 1) xs) ≡ Some 2 = s ∙ rw (k, a, b) refl in
    let n : at + 1 ≡ 2 + (at - 1) = omega arith in
    sym (so_far ∙ rw e (ap (λ (j : ℕ). Some j) (sym n)))

and_false : (a : Bool) → (a && false) ≡ false
and_false true = refl
and_false false = refl

short : (xs : List ℕ) → length xs ≤ 1 → block_len xs ≡ None
short [] h = refl
short (b ∷ []) h = rw (and_false (eqb b 42)) refl
short (b ∷ c ∷ bs) h = absurd (omega arith)

pub block_end : (xs : List ℕ) (at : ℕ) → 1 ≤ at → length xs ≤ at → block_len xs ≡ option_map (λ n. n + (at - 1)) (block_len (drop (at - 1) xs)) → None ≡ block_len xs
block_end xs at low le so_far = sym (so_far ∙ ap (option_map (λ n. n + (at - 1))) (short (drop (at - 1) xs) (omega (arith, length-drop (at - 1) xs))))

pub depth_within : (d b : ℕ) → depth_after d b ≤ d + 1
depth_within d b = elim (eqb b 40) as (λ (t : Bool). cond t (d + 1) (cond (eqb b 41) (d - 1) d) ≤ d + 1) [
  | true ↦ omega arith
  | false ↦ elim (eqb b 41) as (λ (t : Bool). cond t (d - 1) d ≤ d + 1) [ true ↦ omega arith | false ↦ omega arith ]
]
