-- Tidying an argument, and what stands between commas.
use Rattle.std.proofs.Common.{◌≡◌, ℕ, suc, ◌+◌, ◌-◌, ◌<◌, ◌≤◌, List, [], ◌∷◌, ◌++◌, length, map, take, drop, get_or, cond, eqb, Bool, true, false, ◌&&◌, not, refl, sym, ap, ◌∙◌, arith, append_assoc, length-drop}
use Rattle.std.specs.List.{list_all}
use Rattle.std.proofs.lemmas.List.{at_drop_more, at_drop_all, append-nil, take_more, get_or-drop}
use Rattle.std.proofs.lemmas.Bool.Decides.{nat_tests}
use Rattle.mt_text.specs.Byte.{is_white}
use Rattle.mt_syntax.specs.Arguments.{tidy_after, joined, tidy, onto, between_commas}
use Rattle.mt_syntax.specs.Closing.{depth_after}

-- What is still to come of an argument, of which white space stands right before (`gap`) and something
-- else before that (`begun`).
abbrev pub tidy_rest : Bool → Bool → List ℕ → List ℕ
tidy_rest true true rest = cond (list_all is_white rest) (tidy_after false rest) (32 ∷ tidy_after false rest)
tidy_rest true false rest = tidy_after false rest
tidy_rest false begun rest = tidy_after begun rest

white_step : (before : Bool) (b : ℕ) (bs : List ℕ) → is_white b ≡ true → tidy_after before (b ∷ bs) ≡ cond (before && not (list_all is_white bs)) (32 ∷ tidy_after false bs) (tidy_after false bs)
unfolding tidy_after
white_step before b bs w = rw w refl

other_step : (before : Bool) (b : ℕ) (bs : List ℕ) → is_white b ≡ false → tidy_after before (b ∷ bs) ≡ b ∷ tidy_after true bs
unfolding tidy_after
other_step before b bs w = rw w refl

turned : {A : Type 0} (t : Bool) (x y : A) → cond (not t) x y ≡ cond t y x
turned true x y = refl
turned false x y = refl

rest_white : (gap begun : Bool) (b : ℕ) (bs : List ℕ) → is_white b ≡ true → tidy_rest gap begun (b ∷ bs) ≡ tidy_rest true begun bs
rest_white true true b bs w = rw (w, white_step false b bs w) refl
rest_white true false b bs w = white_step false b bs w
rest_white false true b bs w = white_step true b bs w ∙ turned (list_all is_white bs) (32 ∷ tidy_after false bs) (tidy_after false bs)
rest_white false false b bs w = white_step false b bs w

rest_other : (gap begun : Bool) (b : ℕ) (bs : List ℕ) → is_white b ≡ false → tidy_rest gap begun (b ∷ bs) ≡ cond (gap && begun) (32 ∷ b ∷ tidy_after true bs) (b ∷ tidy_after true bs)
rest_other true true b bs w = rw (w, other_step false b bs w) refl
rest_other true false b bs w = other_step false b bs w
rest_other false true b bs w = other_step true b bs w
rest_other false false b bs w = other_step false b bs w

not_empty : (xs : List ℕ) (b : ℕ) → not (eqb (length (xs ++ b ∷ [])) 0) ≡ true
not_empty [] b = refl
not_empty (x ∷ xs) b = let e : eqb (suc (length (xs ++ b ∷ []))) 0 ≡ false = grind (arith, nat_tests) in rw e refl

joined_step : (out : List ℕ) (t : Bool) (b : ℕ) (rest : List ℕ) → out ++ cond t (32 ∷ b ∷ rest) (b ∷ rest) ≡ cond t (out ++ 32 ∷ b ∷ []) (out ++ b ∷ []) ++ rest
joined_step out true b rest = sym (append_assoc out (32 ∷ b ∷ []) rest)
joined_step out false b rest = sym (append_assoc out (b ∷ []) rest)

joined_begun : (out : List ℕ) (t : Bool) (b : ℕ) → not (eqb (length (cond t (out ++ 32 ∷ b ∷ []) (out ++ b ∷ []))) 0) ≡ true
joined_begun out true b = ap (λ (x : List ℕ). not (eqb (length x) 0)) (sym (append_assoc out (32 ∷ []) (b ∷ []))) ∙ not_empty (out ++ 32 ∷ []) b
joined_begun out false b = not_empty out b

-- a white byte is read
pub tidy_white : (xs out : List ℕ) (i : ℕ) (gap : Bool) → i < length xs → is_white (get_or xs i 0) ≡ true → out ++ tidy_rest gap (not (eqb (length out) 0)) (drop i xs) ≡ tidy xs
    → out ++ tidy_rest true (not (eqb (length out) 0)) (drop (i + 1) xs) ≡ tidy xs
tidy_white xs out i gap lt w so_far =
    let begun = not (eqb (length out) 0) in
    let e = at_drop_more (tidy_rest gap begun) xs i 0 lt ∙ rest_white gap begun (get_or xs i 0) (drop (i + 1) xs) w in
    ap (λ (x : List ℕ). out ++ x) (sym e) ∙ so_far

-- another byte is read
pub tidy_other : (xs out new : List ℕ) (i : ℕ) (gap : Bool) → i < length xs → is_white (get_or xs i 0) ≡ false → new ≡ joined out gap (get_or xs i 0) → out ++ tidy_rest gap (not (eqb (length out) 0)) (drop i xs) ≡ tidy xs
    → new ++ tidy_rest false (not (eqb (length new) 0)) (drop (i + 1) xs) ≡ tidy xs
tidy_other xs out new i gap lt w made so_far =
    let begun = not (eqb (length out) 0) in
    let b = get_or xs i 0 in
    let rest = drop (i + 1) xs in
    let e = at_drop_more (tidy_rest gap begun) xs i 0 lt ∙ rest_other gap begun b rest w in
    let known : not (eqb (length new) 0) ≡ true = ap (λ (x : List ℕ). not (eqb (length x) 0)) made ∙ joined_begun out (gap && begun) b in
    rw (known, made) (sym (joined_step out (gap && begun) b (tidy_after true rest)) ∙ ap (λ (x : List ℕ). out ++ x) (sym e) ∙ so_far)

nothing : (gap begun : Bool) → tidy_rest gap begun [] ≡ []
unfolding tidy_after
nothing true true = refl
nothing true false = refl
nothing false begun = refl

pub tidy_done : (xs out : List ℕ) (i : ℕ) (gap : Bool) → length xs ≤ i → out ++ tidy_rest gap (not (eqb (length out) 0)) (drop i xs) ≡ tidy xs → out ≡ tidy xs
tidy_done xs out i gap le so_far =
    let e = at_drop_all (tidy_rest gap (not (eqb (length out) 0))) xs i le ∙ nothing gap (not (eqb (length out) 0)) in
    sym (append-nil out) ∙ ap (λ (x : List ℕ). out ++ x) (sym e) ∙ so_far

-- bytes in front of the first raw
abbrev pub in_front : List ℕ → List (List ℕ) → List (List ℕ)
in_front front [] = front ∷ []
in_front front (raw ∷ raws) = (front ++ raw) ∷ raws

in_front_onto : (front : List ℕ) (b : ℕ) (raws : List (List ℕ)) → in_front front (onto b raws) ≡ in_front (front ++ b ∷ []) raws
in_front_onto front b [] = refl
in_front_onto front b (raw ∷ raws) = ap (λ (x : List ℕ). x ∷ raws) (sym (append_assoc front (b ∷ []) raw))

plain : (raws : List (List ℕ)) (b : ℕ) → in_front [] (onto b raws) ≡ onto b raws
plain [] b = refl
plain (raw ∷ raws) b = refl

pub in_front_none : (d : ℕ) (bs : List ℕ) → in_front [] (between_commas d bs) ≡ between_commas d bs
unfolding between_commas
in_front_none d [] = refl
in_front_none d (b ∷ bs) = elim (eqb b 44 && eqb d 0) as (λ (t : Bool). in_front [] (cond t ([] ∷ between_commas d bs) (onto b (between_commas (depth_after d b) bs))) ≡ cond t ([] ∷ between_commas d bs) (onto b (between_commas (depth_after d b) bs))) [
  | true ↦ refl
  | false ↦ plain (between_commas (depth_after d b) bs) b
]

slice_more : (xs : List ℕ) (from at : ℕ) → from ≤ at → at < length xs → take (at - from) (drop from xs) ++ get_or xs at 0 ∷ [] ≡ take (at + 1 - from) (drop from xs)
slice_more xs from at le lt =
    let k : at + 1 - from ≡ at - from + 1 = omega arith in
    let n : from + (at - from) ≡ at = omega arith in
    let g : get_or (drop from xs) (at - from) 0 ≡ get_or xs at 0 = get_or-drop from xs (at - from) 0 ∙ ap (λ j. get_or xs j 0) n in
    rw k (sym (take_more (drop from xs) (at - from) 0 (omega (arith, length-drop from xs)) ∙ ap (λ (x : ℕ). take (at - from) (drop from xs) ++ x ∷ []) g))

-- a byte that separates nothing is read
pub raw_goes_on : (xs : List ℕ) (from at d : ℕ) (done : List (List ℕ)) (all : List (List ℕ)) → from ≤ at → at < length xs → (get_or xs at 0 ≡ 44 → d ≡ 0 → ⊥)
    → done ++ map tidy (in_front (take (at - from) (drop from xs)) (between_commas d (drop at xs))) ≡ all
    → done ++ map tidy (in_front (take (at + 1 - from) (drop from xs)) (between_commas (depth_after d (get_or xs at 0)) (drop (at + 1) xs))) ≡ all
unfolding between_commas
raw_goes_on xs from at d done all le lt other so_far =
    let b = get_or xs at 0 in
    let front = take (at - from) (drop from xs) in
    let rest = drop (at + 1) xs in
    let t : (eqb b 44 && eqb d 0) ≡ false = grind (arith, nat_tests) in
    let one : between_commas d (b ∷ rest) ≡ onto b (between_commas (depth_after d b) rest) = rw (t, between_commas) refl in
    let e = at_drop_more (between_commas d) xs at 0 lt ∙ one in
    rw (← slice_more xs from at le lt, ← in_front_onto front b (between_commas (depth_after d b) rest), ← e) so_far

-- a comma between arguments is read
pub raw_ends : (xs : List ℕ) (from at d : ℕ) (done : List (List ℕ)) (all : List (List ℕ)) → from ≤ at → at < length xs → get_or xs at 0 ≡ 44 → d ≡ 0
    → done ++ map tidy (in_front (take (at - from) (drop from xs)) (between_commas d (drop at xs))) ≡ all
    → (done ++ tidy (take (at - from) (drop from xs)) ∷ []) ++ map tidy (in_front (take (at + 1 - (at + 1)) (drop (at + 1) xs)) (between_commas d (drop (at + 1) xs))) ≡ all
unfolding between_commas
raw_ends xs from at d done all le lt comma flat so_far =
    let b = get_or xs at 0 in
    let front = take (at - from) (drop from xs) in
    let rest = drop (at + 1) xs in
    let one : between_commas d (b ∷ rest) ≡ [] ∷ between_commas d rest = rw (comma, flat, between_commas) refl in
    let e = at_drop_more (between_commas d) xs at 0 lt ∙ one in
    let k : at + 1 - (at + 1) ≡ 0 = omega arith in
    let two : done ++ map tidy (in_front front (between_commas d (drop at xs))) ≡ done ++ (tidy (front ++ []) ∷ map tidy (between_commas d rest)) = rw e refl in
    rw (k, in_front_none d rest) (append_assoc done (tidy front ∷ []) (map tidy (between_commas d rest)) ∙ ap (λ (x : List ℕ). done ++ (tidy x ∷ map tidy (between_commas d rest))) (sym (append-nil front)) ∙ sym two ∙ so_far)

pub raws_done : (xs : List ℕ) (from at d : ℕ) (done : List (List ℕ)) (all : List (List ℕ)) → length xs ≤ at → at ≤ length xs
    → done ++ map tidy (in_front (take (at - from) (drop from xs)) (between_commas d (drop at xs))) ≡ all
    → done ++ tidy (take (length xs - from) (drop from xs)) ∷ [] ≡ all
unfolding between_commas
raws_done xs from at d done all le ge so_far =
    let n : at ≡ length xs = omega arith in
    let e = at_drop_all (between_commas d) xs at le in
    let front = take (at - from) (drop from xs) in
    let one : done ++ map tidy (in_front front (between_commas d (drop at xs))) ≡ done ++ tidy (front ++ []) ∷ [] = rw e refl in
    rw (← n) (ap (λ (x : List ℕ). done ++ tidy x ∷ []) (sym (append-nil front)) ∙ sym one ∙ so_far)
