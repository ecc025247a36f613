-- How far the scope of a name reaches, by the last byte of the name.
use Rattle.std.proofs.Common.{◌≡◌, ◌∙◌, ap, refl, sym, ℕ, suc, ◌+◌, ◌-◌, ◌<◌, ◌≤◌, cond, Bool, true, false, List, [], ◌∷◌, ◌++◌, length, take, get_or, arith}
use Rattle.std.specs.Prelude.{◌||◌, ◌≢◌}
use Rattle.std.specs.List.{list_any}
use Rattle.std.proofs.lemmas.Bool.Decides.{nat_tests}
use Rattle.std.proofs.lemmas.List.{take_all, take_more, length-append}
use Rattle.std.proofs.lemmas.List.Folds.{list_any-append}
use Rattle.mt_lists.proofs.Bools.{true_behind}
use Rattle.mt_elements.specs.Described.{is_slash, scope_length}

or_false : (b : Bool) → (b || (false || false)) ≡ b
or_false true = refl
or_false false = refl

any_slash : (front : List ℕ) (b : ℕ) → is_slash b ≡ true → list_any is_slash (front ++ b ∷ []) ≡ true
any_slash front b h =
    list_any-append is_slash front (b ∷ []) ∙ ap (λ t. list_any is_slash front || (t || false)) h ∙ true_behind (list_any is_slash front)

any_other : (front : List ℕ) (b : ℕ) → is_slash b ≡ false → list_any is_slash (front ++ b ∷ []) ≡ list_any is_slash front
any_other front b h =
    list_any-append is_slash front (b ∷ []) ∙ ap (λ t. list_any is_slash front || (t || false)) h ∙ or_false (list_any is_slash front)

-- a name that ends in a slash
pub ends_in_slash : (front : List ℕ) (b : ℕ) → is_slash b ≡ true → scope_length (front ++ b ∷ []) ≡ suc (length front)
unfolding scope_length
ends_in_slash [] b h = ap (λ t. cond (t || false) 1 0) h
ends_in_slash (x ∷ xs) b h =
    ap (λ t. cond t (suc (scope_length (xs ++ b ∷ []))) 0) (any_slash (x ∷ xs) b h) ∙ ap suc (ends_in_slash xs b h)

-- one that ends in another byte
pub ends_otherwise : (front : List ℕ) (b : ℕ) → is_slash b ≡ false → scope_length (front ++ b ∷ []) ≡ scope_length front
unfolding scope_length
ends_otherwise [] b h = ap (λ t. cond (t || false) 1 0) h
ends_otherwise (x ∷ xs) b h =
    ap (λ t. cond t (suc (scope_length (xs ++ b ∷ []))) 0) (any_other (x ∷ xs) b h)
    ∙ ap (λ n. cond (list_any is_slash (x ∷ xs)) (suc n) 0) (ends_otherwise xs b h)

pub scope_within : (name : List ℕ) → scope_length name ≤ length name
unfolding scope_length
scope_within [] = omega arith
scope_within (x ∷ xs) = either (list_any is_slash (x ∷ xs)) (scope_within xs)
  where
    either : (b : Bool) → scope_length xs ≤ length xs → cond b (suc (scope_length xs)) 0 ≤ length (x ∷ xs)
    either true h = omega (arith, h)
    either false h = omega arith

module _ (rest : List ℕ) (some : 1 ≤ length rest) where
  last : ℕ
  last = get_or rest (length rest - 1) 0

  front : List ℕ
  front = take (length rest - 1) rest

  whole : rest ≡ front ++ last ∷ []
  unfolding front last
  whole = sym (take_all (length rest - 1 + 1) rest (omega (arith, some))) ∙ take_more rest (length rest - 1) 0 (omega (arith, some))

  counted : length rest ≡ length front + 1
  counted = ap length whole ∙ length-append front (last ∷ [])

  -- what is left of a name ends in a slash
  pub reaches_slash : get_or rest (length rest - 1) 0 ≡ 47 → scope_length rest ≡ length rest
  unfolding front last
  reaches_slash h =
      let all = counted in
      ap scope_length whole ∙ ends_in_slash front last (ap is_slash h) ∙ omega (arith, all)

  -- it ends in another byte
  pub passes_over : get_or rest (length rest - 1) 0 ≢ 47 → scope_length (take (length rest - 1) rest) ≡ scope_length rest
  unfolding front last
  passes_over h = let other : is_slash (get_or rest (length rest - 1) 0) ≡ false = grind (arith, nat_tests, h) in sym (ap scope_length whole ∙ ends_otherwise front last other)

pub nothing_left : (rest : List ℕ) → length rest < 1 → scope_length rest ≡ 0
unfolding scope_length
nothing_left [] h = refl
nothing_left (x ∷ xs) h = absurd (omega (arith, h))
