-- Arguments keep their parentheses and commas where they are separated, tidied and put in place of
-- parameters.
use Rattle.std.proofs.Common.{◌≡◌, ℕ, zero, suc, ◌+◌, ◌≤◌, List, [], ◌∷◌, ◌++◌, length, map, get_or, cond, eqb, Bool, true, false, ◌&&◌, not, Option, Some, None, refl, sym, ap, subst, ◌∙◌, arith, zero-add}
use Rattle.std.specs.List.{list_all}
use Rattle.std.specs.Str.{bytes_eq}
use Rattle.std.proofs.lemmas.Bool.{eqb-true}
use Rattle.std.proofs.lemmas.Bool.Decides.{nat_tests}
use Rattle.std.proofs.lemmas.List.{length-map}
use Rattle.mt_lists.proofs.Bools.{and_first}
use Rattle.mt_syntax.specs.declared.replacing.Binding.{Binding}
use Rattle.mt_text.specs.Byte.{is_white, is_letter, is_name_byte}
use Rattle.mt_syntax.specs.Closing.{depth_after}
use Rattle.mt_syntax.specs.Piece.{name_len}
use Rattle.mt_syntax.specs.Arguments.{tidy_after, tidy, onto, between_commas, separated}
use Rattle.mt_syntax.specs.Replacing.{argument_for, is_parameter, parameter_name, argument_at, replaced_from, replaced_in}
use Rattle.mt_syntax.specs.Balance.{depth_behind, commas, IsBalanced, IsOne, IsWhole, AreWhole, AreWholeBindings}
use Rattle.mt_syntax.proofs.ParenthesisDepth.{IsQuiet, quiet, depth_head, depth_step, commas_step, IsAlike, alike_itself, alike_byte, alike_more, alike_less, alike_whole, alike_is_whole}

-- arguments in place of parameters

argument_whole : (bindings : List Binding) (name argument : List ℕ) → AreWholeBindings bindings → argument_for bindings name ≡ Some argument → IsWhole argument
argument_whole [] name argument w e = absurd cc
argument_whole (b ∷ bs) name argument w e =
    elim (bytes_eq b.name name) as (λ (t : Bool). cond t (Some b.argument) (argument_for bs name) ≡ Some argument → IsWhole argument) [
      | true ↦ λ k. (let same : b.argument ≡ argument = cc in subst IsWhole same w.0)
      | false ↦ λ k. argument_whole bs name argument w.1 k
    ] e

if_parameter : (t : Bool) (o : Option (List ℕ)) (argument : List ℕ) → cond t o None ≡ Some argument → (t ≡ true) × (o ≡ Some argument)
if_parameter true o argument e = (refl, e)
if_parameter false o argument e = absurd cc

-- the argument that stands for the `$` at the front
found_argument : (bindings : List Binding) (b : ℕ) (bs argument : List ℕ) → AreWholeBindings bindings → argument_at bindings (b ∷ bs) ≡ Some argument → (b ≡ 36) × IsWhole argument
unfolding argument_at
found_argument bindings b bs argument w e =
    let h = if_parameter (is_parameter (b ∷ bs)) (argument_for bindings (parameter_name (b ∷ bs))) argument e in
    (eqb-true b 36 (and_first (eqb b 36) (is_letter (get_or bs 0 0)) h.0), argument_whole bindings (parameter_name (b ∷ bs)) argument w h.1)

one_of_name : (s b : ℕ) (bs : List ℕ) → suc s ≤ name_len (b ∷ bs) → (is_name_byte b ≡ true) × (s ≤ name_len bs)
one_of_name s b bs h =
    elim (is_name_byte b) as (λ (t : Bool). suc s ≤ cond t (1 + name_len bs) 0 → (t ≡ true) × (s ≤ name_len bs)) [
      | true ↦ λ k. (refl, omega (arith, k))
      | false ↦ λ k. absurd (omega (arith, k))
    ] h

dollar_quiet : (b : ℕ) → b ≡ 36 → IsQuiet b
dollar_quiet b e = subst IsQuiet (sym e) (refl, refl, refl)

by_argument : (bindings : List Binding) (b : ℕ) (bs : List ℕ) (o : Option (List ℕ)) → AreWholeBindings bindings → argument_at bindings (b ∷ bs) ≡ o
    → ((s : ℕ) → s ≤ name_len bs → IsAlike (replaced_from bindings s bs) bs)
    → IsAlike (elim o [ None ↦ b ∷ replaced_from bindings 0 bs | Some argument ↦ argument ++ replaced_from bindings (name_len bs) bs ]) (b ∷ bs)
by_argument bindings b bs None w e more = alike_byte b (replaced_from bindings 0 bs) bs (more 0 (omega arith))
by_argument bindings b bs (Some argument) w e more =
    let f = found_argument bindings b bs argument w e in
    let rest = replaced_from bindings (name_len bs) bs in
    alike_whole argument rest (b ∷ bs) f.1 (alike_less b rest bs (dollar_quiet b f.0) (more (name_len bs) (omega arith)))

replaced_alike : (bindings : List Binding) → AreWholeBindings bindings → (text : List ℕ) (skip : ℕ) → skip ≤ name_len text → IsAlike (replaced_from bindings skip text) text
unfolding replaced_from
replaced_alike bindings w [] zero h = alike_itself []
replaced_alike bindings w [] (suc s) h = alike_itself []
replaced_alike bindings w (b ∷ bs) (suc s) h =
    let n = one_of_name s b bs h in
    alike_less b (replaced_from bindings s bs) bs (quiet is_name_byte b n.0 refl refl refl) (replaced_alike bindings w bs s n.1)
replaced_alike bindings w (b ∷ bs) zero h =
    by_argument bindings b bs (argument_at bindings (b ∷ bs)) w refl (λ s le. replaced_alike bindings w bs s le)

pub replaced_balanced : (bindings : List Binding) (text : List ℕ) → AreWholeBindings bindings → IsBalanced text → IsBalanced (replaced_in bindings text)
replaced_balanced bindings text w h = (replaced_alike bindings w text 0 (omega arith) 0).0 ∙ h

pub replaced_commas : (bindings : List Binding) (text : List ℕ) → AreWholeBindings bindings → commas 0 (replaced_in bindings text) ≡ commas 0 text
replaced_commas bindings text w = (replaced_alike bindings w text 0 (omega arith) 0).1

-- tidying

space_quiet : IsQuiet 32
space_quiet = (refl, refl, refl)

by_gap : (t : Bool) (b : ℕ) (out bs : List ℕ) → IsQuiet b → IsAlike out bs → IsAlike (cond t (32 ∷ out) out) (b ∷ bs)
by_gap true b out bs q h = alike_more 32 out (b ∷ bs) space_quiet (alike_less b out bs q h)
by_gap false b out bs q h = alike_less b out bs q h

tidy_alike : (xs : List ℕ) (before : Bool) → IsAlike (tidy_after before xs) xs
unfolding tidy_after
tidy_alike [] before = alike_itself []
tidy_alike (b ∷ bs) before =
    elim (is_white b) as (λ (t : Bool). is_white b ≡ t → IsAlike (cond t (cond (before && not (list_all is_white bs)) (32 ∷ tidy_after false bs) (tidy_after false bs)) (b ∷ tidy_after true bs)) (b ∷ bs)) [
      | true ↦ λ e. by_gap (before && not (list_all is_white bs)) b (tidy_after false bs) bs (quiet is_white b e refl refl refl) (tidy_alike bs false)
      | false ↦ λ e. alike_byte b (tidy_after true bs) bs (tidy_alike bs true)
    ] refl

tidy_whole : (xs : List ℕ) → IsWhole xs → IsWhole (tidy xs)
tidy_whole xs w = alike_is_whole (tidy xs) xs (tidy_alike xs false) w

all_tidy : (raws : List (List ℕ)) → AreWhole raws → AreWhole (map tidy raws)
all_tidy [] w = tt
all_tidy (p ∷ ps) w = (tidy_whole p w.0, all_tidy ps w.1)

-- what stands between commas

-- the first raw closes what is open, and the others are whole
abbrev pub AreRaws : ℕ → List (List ℕ) → Type 0
AreRaws d [] = ⊥
AreRaws d (p ∷ ps) = (depth_behind d p ≡ Some 0) × (commas d p ≡ 0) × AreWhole ps

empty_whole : IsWhole []
unfolding depth_behind commas
empty_whole = (refl, refl)

raw_begins : (raws : List (List ℕ)) → AreRaws 0 raws → AreRaws 0 ([] ∷ raws)
unfolding depth_behind commas
raw_begins [] h = absurd h
raw_begins (p ∷ ps) h = (refl, refl, ((h.0, h.1), h.2))

raw_grows : (d b : ℕ) (raws : List (List ℕ)) → (eqb b 41 && eqb d 0) ≡ false → (eqb b 44 && eqb d 0) ≡ false → AreRaws (depth_after d b) raws → AreRaws d (onto b raws)
raw_grows d b [] t c h = absurd h
raw_grows d b (p ∷ ps) t c h = (depth_step d b p t ∙ h.0, commas_step d b p ∙ rw c (zero-add (commas (depth_after d b) p) ∙ h.1), h.2)

comma_depth : (d b : ℕ) → (eqb b 44 && eqb d 0) ≡ true → (b ≡ 44) × (d ≡ 0)
comma_depth d b t = (eqb-true b 44 (and_first (eqb b 44) (eqb d 0) t), grind (arith, nat_tests))

after_comma : (d b : ℕ) → (eqb b 44 && eqb d 0) ≡ true → depth_after d b ≡ d
after_comma d b t = let c = comma_depth d b t in rw c.0 refl

no_commas_there : (d : ℕ) → commas d [] ≡ 0
unfolding commas
no_commas_there d = refl

are_raws : (text : List ℕ) (d : ℕ) → depth_behind d text ≡ Some 0 → AreRaws d (between_commas d text)
unfolding between_commas
are_raws [] d h = (h, no_commas_there d, tt)
are_raws (b ∷ bs) d h =
    let n = depth_head d b bs 0 h in
    elim (eqb b 44 && eqb d 0) as (λ (t : Bool). (eqb b 44 && eqb d 0) ≡ t → AreRaws d (cond t ([] ∷ between_commas d bs) (onto b (between_commas (depth_after d b) bs)))) [
      | true ↦ λ e. (let c = comma_depth d b e in
          let same = after_comma d b e in
          let rest : depth_behind d bs ≡ Some 0 = subst (λ k. depth_behind k bs ≡ Some 0) same n.1 in
          subst (λ k. AreRaws k (between_commas k bs) → AreRaws k ([] ∷ between_commas k bs)) (sym c.1) (raw_begins (between_commas 0 bs)) (are_raws bs d rest))
      | false ↦ λ e. raw_grows d b (between_commas (depth_after d b) bs) n.0 e (are_raws bs (depth_after d b) n.1)
    ] refl

raws_whole : (raws : List (List ℕ)) → AreRaws 0 raws → AreWhole raws
raws_whole [] h = tt
raws_whole (p ∷ ps) h = ((h.0, h.1), h.2)

-- Each argument of a balanced text is whole.
pub separated_balanced : (text : List ℕ) → IsBalanced text → AreWhole (separated text)
unfolding separated
separated_balanced text h =
    elim (list_all is_white text) as (λ (t : Bool). AreWhole (cond t [] (map tidy (between_commas 0 text)))) [
      | true ↦ tt
      | false ↦ all_tidy (between_commas 0 text) (raws_whole (between_commas 0 text) (are_raws text 0 h))
    ]

-- how many raws there are

onto_length : (b : ℕ) (raws : List (List ℕ)) (n : ℕ) → length raws ≡ suc n → length (onto b raws) ≡ suc n
onto_length b [] n e = absurd cc
onto_length b (p ∷ ps) n e = e

pub raws_length : (text : List ℕ) (d : ℕ) → length (between_commas d text) ≡ suc (commas d text)
unfolding between_commas commas
raws_length [] d = refl
raws_length (b ∷ bs) d =
    elim (eqb b 44 && eqb d 0) as (λ (t : Bool). (eqb b 44 && eqb d 0) ≡ t → length (cond t ([] ∷ between_commas d bs) (onto b (between_commas (depth_after d b) bs))) ≡ suc (cond t 1 0 + commas (depth_after d b) bs)) [
      | true ↦ λ e. (let same = after_comma d b e in let n = raws_length bs d in let k = ap (λ j. commas j bs) same in omega (arith, n, k))
      | false ↦ λ e. onto_length b (between_commas (depth_after d b) bs) (0 + commas (depth_after d b) bs) (omega (arith, raws_length bs (depth_after d b)))
    ] refl

one_at_most : (t : Bool) → ◌≤◌ (cond t 1 0) 1
one_at_most true = omega arith
one_at_most false = omega arith

pub few_commas : (text : List ℕ) (d : ℕ) → commas d text ≤ length text
unfolding commas
few_commas [] d = omega arith
few_commas (b ∷ bs) d = omega (arith, one_at_most (eqb b 44 && eqb d 0), few_commas bs (depth_after d b))

pub few_raws : (text : List ℕ) → length (between_commas 0 text) ≤ length text + 1
few_raws text = omega (arith, raws_length text 0, few_commas text 0)

pub one_raw : (text : List ℕ) → IsOne text → length (between_commas 0 text) ≡ 1
one_raw text h = omega (arith, raws_length text 0, h)

pub raw_is_one : (text : List ℕ) → length (between_commas 0 text) ≡ 1 → IsOne text
raw_is_one text h = omega (arith, raws_length text 0, h)

pub replaced_parts : (bindings : List Binding) (text : List ℕ) → AreWholeBindings bindings → length (between_commas 0 (replaced_in bindings text)) ≡ length (between_commas 0 text)
replaced_parts bindings text w = omega (arith, raws_length (replaced_in bindings text) 0, raws_length text 0, replaced_commas bindings text w)

pub separated_parts : (text : List ℕ) → length (separated text) ≤ length (between_commas 0 text)
unfolding separated
separated_parts text =
    elim (list_all is_white text) as (λ (t : Bool). length (cond t [] (map tidy (between_commas 0 text))) ≤ length (between_commas 0 text)) [
      | true ↦ omega arith
      | false ↦ omega (arith, length-map (between_commas 0 text) tidy)
    ]

pub few_separated : (text : List ℕ) → length (separated text) ≤ length text + 1
few_separated text = omega (arith, separated_parts text, few_raws text)
