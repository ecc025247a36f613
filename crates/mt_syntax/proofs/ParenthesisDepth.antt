-- Parentheses and commas of a text, piece by piece.
use Rattle.std.proofs.Common.{◌≡◌, ℕ, zero, suc, ◌+◌, ◌<◌, List, [], ◌∷◌, ◌++◌, cond, eqb, Bool, true, false, ◌&&◌, Option, Some, None, refl, sym, ap, subst, ◌∙◌, arith}
use Rattle.std.proofs.lemmas.Bool.{eqb-true}
use Rattle.std.proofs.lemmas.Bool.Decides.{nat_tests}
use Rattle.mt_syntax.specs.Closing.{depth_after}
use Rattle.mt_syntax.specs.Balance.{depth_behind, commas, IsWhole}

-- a byte that passes a test is none that does not
pub apart : (p : ℕ → Bool) (b c : ℕ) → p b ≡ true → p c ≡ false → eqb b c ≡ false
apart p b c h k =
    elim (eqb b c) as (λ (t : Bool). eqb b c ≡ t → t ≡ false) [
      | true ↦ λ e. absurd (let x : true ≡ false = sym (subst (λ z. p z ≡ true) (eqb-true b c e) h) ∙ k in cc)
      | false ↦ λ e. refl
    ] refl

-- neither a parenthesis nor a comma
abbrev pub IsQuiet : ℕ → Type 0
IsQuiet b = (eqb b 40 ≡ false) × (eqb b 41 ≡ false) × (eqb b 44 ≡ false)

pub quiet : (p : ℕ → Bool) (b : ℕ) → p b ≡ true → p 40 ≡ false → p 41 ≡ false → p 44 ≡ false → IsQuiet b
quiet p b h a c d = (apart p b 40 h a, apart p b 41 h c, apart p b 44 h d)

-- one byte

not_none : (t : Bool) (o : Option ℕ) (e : ℕ) → cond t None o ≡ Some e → (t ≡ false) × (o ≡ Some e)
not_none true o e h = absurd cc
not_none false o e h = (refl, h)

pub depth_head : (d b : ℕ) (bs : List ℕ) (e : ℕ) → depth_behind d (b ∷ bs) ≡ Some e → ((eqb b 41 && eqb d 0) ≡ false) × (depth_behind (depth_after d b) bs ≡ Some e)
unfolding depth_behind
depth_head d b bs e h = not_none (eqb b 41 && eqb d 0) (depth_behind (depth_after d b) bs) e h

pub depth_step : (d b : ℕ) (bs : List ℕ) → (eqb b 41 && eqb d 0) ≡ false → depth_behind d (b ∷ bs) ≡ depth_behind (depth_after d b) bs
unfolding depth_behind
depth_step d b bs t = rw t refl

pub commas_step : (d b : ℕ) (bs : List ℕ) → commas d (b ∷ bs) ≡ cond (eqb b 44 && eqb d 0) 1 0 + commas (depth_after d b) bs
unfolding commas
commas_step d b bs = refl

depth_quiet : (d b : ℕ) (bs : List ℕ) → IsQuiet b → depth_behind d (b ∷ bs) ≡ depth_behind d bs
unfolding depth_behind
depth_quiet d b bs q = rw (q.0, q.1) refl

commas_quiet : (d b : ℕ) (bs : List ℕ) → IsQuiet b → commas d (b ∷ bs) ≡ commas d bs
unfolding commas
commas_quiet d b bs q = rw (q.0, q.1, q.2) (omega arith)

-- one text behind the other

pub depth_append : (xs ys : List ℕ) (d e : ℕ) → depth_behind d xs ≡ Some e → depth_behind d (xs ++ ys) ≡ depth_behind e ys
unfolding depth_behind
depth_append [] ys d e h = let k : d ≡ e = cc in ap (λ n. depth_behind n ys) k
depth_append (x ∷ xs) ys d e h =
    let n = depth_head d x xs e h in
    depth_step d x (xs ++ ys) n.0 ∙ depth_append xs ys (depth_after d x) e n.1

pub commas_append : (xs ys : List ℕ) (d e : ℕ) → depth_behind d xs ≡ Some e → commas d (xs ++ ys) ≡ commas d xs + commas e ys
unfolding depth_behind commas
commas_append [] ys d e h = let k : d ≡ e = cc in rw k (omega arith)
commas_append (x ∷ xs) ys d e h =
    let n = depth_head d x xs e h in
    let one = commas_step d x xs in
    let two = commas_step d x (xs ++ ys) in
    let more = commas_append xs ys (depth_after d x) e n.1 in
    omega (arith, one, two, more)

-- with more parentheses open

deeper_test : (k d b : ℕ) → (eqb b 41 && eqb d 0) ≡ false → (eqb b 41 && eqb (k + d) 0) ≡ false
deeper_test k d b t = grind (arith, nat_tests)

deeper_after : (k d b : ℕ) → (eqb b 41 && eqb d 0) ≡ false → depth_after (k + d) b ≡ k + depth_after d b
deeper_after k d b t = grind (arith, nat_tests)

pub deeper : (xs : List ℕ) (k d e : ℕ) → depth_behind d xs ≡ Some e → depth_behind (k + d) xs ≡ Some (k + e)
unfolding depth_behind
deeper [] k d e h = let n : d ≡ e = cc in ap (λ (x : ℕ). Some (k + x)) n
deeper (x ∷ xs) k d e h =
    let n = depth_head d x xs e h in
    depth_step (k + d) x xs (deeper_test k d x n.0) ∙ ap (λ j. depth_behind j xs) (deeper_after k d x n.0) ∙ deeper xs k (depth_after d x) e n.1

and_zero : (a : Bool) (n : ℕ) → 0 < n → ◌≡◌ {A = ℕ} (cond (a && eqb n 0) 1 0) 0
and_zero true zero h = absurd (omega arith)
and_zero true (suc n) h = (let e : eqb (suc n) 0 ≡ false = grind (arith, nat_tests) in rw e refl)
and_zero false n h = refl

pub no_commas : (xs : List ℕ) (k d e : ℕ) → 0 < k → depth_behind d xs ≡ Some e → commas (k + d) xs ≡ 0
unfolding commas
no_commas [] k d e some h = refl
no_commas (x ∷ xs) k d e some h =
    let n = depth_head d x xs e h in
    let one = commas_step (k + d) x xs in
    let here = and_zero (eqb x 44) (k + d) (omega arith) in
    let more = ap (λ j. commas j xs) (deeper_after k d x n.0) ∙ no_commas xs k (depth_after d x) e some n.1 in
    omega (arith, one, here, more)

-- a whole text changes neither what is open nor what is counted

pub whole_depth : (xs : List ℕ) (d : ℕ) → IsWhole xs → depth_behind d xs ≡ Some d
whole_depth xs d w = let k : d + 0 ≡ d = omega arith in subst (λ n. depth_behind n xs ≡ Some n) k (deeper xs d 0 0 w.0)

pub whole_commas : (xs : List ℕ) (d : ℕ) → IsWhole xs → commas d xs ≡ 0
whole_commas xs zero w = w.1
whole_commas xs (suc d) w = let k : suc d + 0 ≡ suc d = omega arith in subst (λ n. commas n xs ≡ 0) k (no_commas xs (suc d) 0 0 (omega arith) w.0)

-- two texts with the same parentheses and commas
abbrev pub IsAlike : List ℕ → List ℕ → Type 0
IsAlike xs ys = (d : ℕ) → (depth_behind d xs ≡ depth_behind d ys) × (commas d xs ≡ commas d ys)

pub alike_itself : (xs : List ℕ) → IsAlike xs xs
alike_itself xs d = (refl, refl)

pub alike_byte : (b : ℕ) (xs ys : List ℕ) → IsAlike xs ys → IsAlike (b ∷ xs) (b ∷ ys)
unfolding depth_behind commas
alike_byte b xs ys h d =
    (ap (λ (o : Option ℕ). cond (eqb b 41 && eqb d 0) None o) (h (depth_after d b)).0, ap (λ n. cond (eqb b 44 && eqb d 0) 1 0 + n) (h (depth_after d b)).1)

-- a byte that is neither more on one side
pub alike_more : (b : ℕ) (xs ys : List ℕ) → IsQuiet b → IsAlike xs ys → IsAlike (b ∷ xs) ys
alike_more b xs ys q h d = (depth_quiet d b xs q ∙ (h d).0, commas_quiet d b xs q ∙ (h d).1)

pub alike_less : (b : ℕ) (xs ys : List ℕ) → IsQuiet b → IsAlike xs ys → IsAlike xs (b ∷ ys)
alike_less b xs ys q h d = ((h d).0 ∙ sym (depth_quiet d b ys q), (h d).1 ∙ sym (commas_quiet d b ys q))

-- a whole text more on one side
pub alike_whole : (front xs ys : List ℕ) → IsWhole front → IsAlike xs ys → IsAlike (front ++ xs) ys
alike_whole front xs ys w h d =
    let c = commas_append front xs d d (whole_depth front d w) in
    let z = whole_commas front d w in
    (depth_append front xs d d (whole_depth front d w) ∙ (h d).0, omega (arith, c, z, (h d).1))

pub alike_is_whole : (xs ys : List ℕ) → IsAlike xs ys → IsWhole ys → IsWhole xs
alike_is_whole xs ys h w = ((h 0).0 ∙ w.0, (h 0).1 ∙ w.1)
