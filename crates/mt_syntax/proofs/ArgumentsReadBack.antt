-- Arguments that are written with a comma and a space between two are read back, and what tidying keeps.
use Rattle.std.proofs.Common.{◌≡◌, ℕ, suc, ◌+◌, List, [], ◌∷◌, ◌++◌, length, map, cond, eqb, Bool, true, false, ◌&&◌, not, Some, refl, sym, ap, ◌∙◌, arith}
use Rattle.std.specs.List.{list_all, AllByRecursion}
use Rattle.mt_lists.proofs.Bools.{false_behind}
use Rattle.mt_text.specs.Byte.{is_white}
use Rattle.mt_syntax.specs.Closing.{depth_after}
use Rattle.mt_syntax.specs.Arguments.{tidy_after, tidy, onto, between_commas, separated, written, solid}
use Rattle.mt_syntax.specs.Balance.{depth_behind, commas, IsTidy}
use Rattle.mt_syntax.proofs.ParenthesisDepth.{depth_head, commas_step}
use Rattle.mt_syntax.proofs.ArgumentsBalanced.{raws_length}

-- the texts between commas

no_comma : (t : Bool) (n : ℕ) → cond t 1 0 + n ≡ 0 → (t ≡ false) × (n ≡ 0)
no_comma true n e = absurd (omega (arith, e))
no_comma false n e = (refl, omega (arith, e))

raw_front : (xs rest : List ℕ) (d : ℕ) → depth_behind d xs ≡ Some 0 → commas d xs ≡ 0 → between_commas d (xs ++ 44 ∷ rest) ≡ xs ∷ between_commas 0 rest
unfolding depth_behind between_commas
raw_front [] rest d h c = let z : d ≡ 0 = cc in rw (z, between_commas) refl
raw_front (x ∷ xs) rest d h c =
    let n = depth_head d x xs 0 h in
    let m = no_comma (eqb x 44 && eqb d 0) (commas (depth_after d x) xs) (sym (commas_step d x xs) ∙ c) in
    let one : between_commas d (x ∷ (xs ++ 44 ∷ rest)) ≡ onto x (between_commas (depth_after d x) (xs ++ 44 ∷ rest)) = rw (m.0, between_commas) refl in
    one ∙ ap (onto x) (raw_front xs rest (depth_after d x) n.1 m.1)

raw_alone : (xs : List ℕ) (d : ℕ) → commas d xs ≡ 0 → between_commas d xs ≡ xs ∷ []
unfolding between_commas
raw_alone [] d c = refl
raw_alone (x ∷ xs) d c =
    let m = no_comma (eqb x 44 && eqb d 0) (commas (depth_after d x) xs) (sym (commas_step d x xs) ∙ c) in
    let one : between_commas d (x ∷ xs) ≡ onto x (between_commas (depth_after d x) xs) = rw (m.0, between_commas) refl in
    one ∙ ap (onto x) (raw_alone xs (depth_after d x) m.1)

space_goes : (xs : List ℕ) → tidy (32 ∷ xs) ≡ tidy xs
unfolding tidy_after
space_goes xs = refl

spaced : (raws : List (List ℕ)) (n : ℕ) → length raws ≡ suc n → map tidy (onto 32 raws) ≡ map tidy raws
spaced [] n e = absurd cc
spaced (raw ∷ raws) n e = ap (λ (x : List ℕ). x ∷ map tidy raws) (space_goes raw)

behind_space : (text : List ℕ) → map tidy (between_commas 0 (32 ∷ text)) ≡ map tidy (between_commas 0 text)
unfolding between_commas
behind_space text = spaced (between_commas 0 text) (commas 0 text) (raws_length text 0)

written_raws : (a : List ℕ) (more : List (List ℕ)) → IsTidy a → AllByRecursion IsTidy more → map tidy (between_commas 0 (written (a ∷ more))) ≡ a ∷ more
written_raws a [] h k = ap (map tidy) (raw_alone a 0 h.0.1) ∙ ap (λ (x : List ℕ). x ∷ []) h.1
written_raws a (b ∷ more) h k =
    ap (map tidy) (raw_front a (32 ∷ written (b ∷ more)) 0 h.0.0 h.0.1)
    ∙ ap (λ (x : List (List ℕ)). tidy a ∷ x) (behind_space (written (b ∷ more)) ∙ written_raws b more k.0 k.1)
    ∙ ap (λ (x : List ℕ). x ∷ b ∷ more) h.1

-- texts of white space alone

white_goes : (xs : List ℕ) (before : Bool) → list_all is_white xs ≡ true → tidy_after before xs ≡ []
unfolding tidy_after
white_goes [] before e = refl
white_goes (x ∷ xs) before e =
    elim (is_white x) as (λ (t : Bool). (t && list_all is_white xs) ≡ true → cond t (cond (before && not (list_all is_white xs)) (32 ∷ tidy_after false xs) (tidy_after false xs)) (x ∷ tidy_after true xs) ≡ []) [
      | true ↦ λ w. rw (w, false_behind before) (white_goes xs false w)
      | false ↦ λ w. absurd cc
    ] e

comma_stays : (xs rest : List ℕ) → list_all is_white (xs ++ 44 ∷ rest) ≡ false
comma_stays [] rest = refl
comma_stays (x ∷ xs) rest = rw (comma_stays xs rest) (false_behind (is_white x))

blank_or_not : (text : List ℕ) (arguments : List (List ℕ)) → list_all is_white text ≡ false → map tidy (between_commas 0 text) ≡ arguments → separated text ≡ arguments
unfolding separated
blank_or_not text arguments w e = rw w e

one_argument : (a : List ℕ) → IsTidy a → (a ≡ [] → ⊥) → list_all is_white a ≡ false
one_argument a h some =
    elim (list_all is_white a) as (λ (t : Bool). list_all is_white a ≡ t → t ≡ false) [
      | true ↦ λ w. absurd (some (sym h.1 ∙ white_goes a false w))
      | false ↦ λ w. refl
    ] refl

pub arguments_read_back : (arguments : List (List ℕ)) → AllByRecursion IsTidy arguments → (arguments ≡ [] ∷ [] → ⊥) → separated (written arguments) ≡ arguments
unfolding separated
arguments_read_back [] h some = refl
arguments_read_back (a ∷ []) h some =
    blank_or_not a (a ∷ []) (one_argument a h.0 (λ e. some (ap (λ (x : List ℕ). x ∷ []) e))) (written_raws a [] h.0 h.1)
arguments_read_back (a ∷ b ∷ more) h some =
    blank_or_not (written (a ∷ b ∷ more)) (a ∷ b ∷ more) (comma_stays a (32 ∷ written (b ∷ more))) (written_raws a (b ∷ more) h.0 h.1)

-- what tidying keeps

solid_gap : (t : Bool) (xs : List ℕ) → solid (cond t (32 ∷ xs) xs) ≡ solid xs
solid_gap true xs = refl
solid_gap false xs = refl

solid_after : (xs : List ℕ) (before : Bool) → solid (tidy_after before xs) ≡ solid xs
unfolding tidy_after
solid_after [] before = refl
solid_after (x ∷ xs) before =
    elim (is_white x) as (λ (t : Bool). is_white x ≡ t → solid (cond t (cond (before && not (list_all is_white xs)) (32 ∷ tidy_after false xs) (tidy_after false xs)) (x ∷ tidy_after true xs)) ≡ cond (not t) (x ∷ solid xs) (solid xs)) [
      | true ↦ λ e. solid_gap (before && not (list_all is_white xs)) (tidy_after false xs) ∙ solid_after xs false
      | false ↦ λ e. rw e (ap (λ (r : List ℕ). x ∷ r) (solid_after xs true))
    ] refl

pub tidying_keeps : (text : List ℕ) → solid (tidy text) ≡ solid text
tidying_keeps text = solid_after text false

white_gap : (t : Bool) (xs : List ℕ) → list_all is_white (cond t (32 ∷ xs) xs) ≡ list_all is_white xs
white_gap true xs = refl
white_gap false xs = refl

white_after : (xs : List ℕ) (before : Bool) → list_all is_white (tidy_after before xs) ≡ list_all is_white xs
unfolding tidy_after
white_after [] before = refl
white_after (x ∷ xs) before =
    elim (is_white x) as (λ (t : Bool). is_white x ≡ t → list_all is_white (cond t (cond (before && not (list_all is_white xs)) (32 ∷ tidy_after false xs) (tidy_after false xs)) (x ∷ tidy_after true xs)) ≡ (t && list_all is_white xs)) [
      | true ↦ λ e. white_gap (before && not (list_all is_white xs)) (tidy_after false xs) ∙ white_after xs false
      | false ↦ λ e. rw e refl
    ] refl

-- behind a gap that is kept something stands, and no gap is left at the end
gap_again : (before white : Bool) (xs rest : List ℕ) → list_all is_white rest ≡ white → (white ≡ true → rest ≡ []) → tidy_after false rest ≡ rest
    → tidy_after before (cond (before && not white) (32 ∷ rest) rest) ≡ cond (before && not white) (32 ∷ rest) rest
unfolding tidy_after
gap_again true true xs rest w none e = rw (none refl) refl
gap_again true false xs rest w none e = rw w (ap (λ (r : List ℕ). 32 ∷ r) e)
gap_again false white xs rest w none e = e

tidy_again : (xs : List ℕ) (before : Bool) → tidy_after before (tidy_after before xs) ≡ tidy_after before xs
unfolding tidy_after
tidy_again [] before = refl
tidy_again (x ∷ xs) before =
    elim (is_white x) as (λ (t : Bool). is_white x ≡ t
    → tidy_after before (cond t (cond (before && not (list_all is_white xs)) (32 ∷ tidy_after false xs) (tidy_after false xs)) (x ∷ tidy_after true xs))
    ≡ cond t (cond (before && not (list_all is_white xs)) (32 ∷ tidy_after false xs) (tidy_after false xs)) (x ∷ tidy_after true xs)) [
      | true ↦ λ e. gap_again before (list_all is_white xs) xs (tidy_after false xs) (white_after xs false) (white_goes xs false) (tidy_again xs false)
      | false ↦ λ e. rw e (ap (λ (r : List ℕ). x ∷ r) (tidy_again xs true))
    ] refl

pub tidying_again : (text : List ℕ) → tidy (tidy text) ≡ tidy text
tidying_again text = tidy_again text false
