-- What the iterator of a vector has given is a front of its items, and all of them at its end.
use Rattle.std.proofs.Common.{◌≡◌, ◌∙◌, refl, sym, ap, ◌+◌, List, [], ◌∷◌, ◌++◌, length, arith}
use Rattle.std.specs.Prelude.{Some, None}
use Rattle.std.specs.Iterator.{Yields}
use Rattle.std.proofs.lemmas.List.{append-nil, length-append}
use Rattle.std.proofs.Common.{append_assoc}
use Rattle.std.specs.Vec.Iter.{into_iter_items, into_iter_len, into_iter_steps}
use Rattle.std.specs.declared.vec.IntoIter.{IntoIter}

taken_front : {X A : Type 0} (s : IntoIter X A) (xs : List X) (t : IntoIter X A) → Yields into_iter_steps s xs t → into_iter_items s ≡ xs ++ into_iter_items t
taken_front s [] t y = ap into_iter_items y
taken_front s (x ∷ xs) t y = y.1.0 ∙ ap (λ ys. x ∷ ys) (taken_front y.0 xs t y.2)

taken_len : {X A : Type 0} (s : IntoIter X A) (xs : List X) (t : IntoIter X A) → Yields into_iter_steps s xs t → into_iter_len s ≡ length xs + into_iter_len t
taken_len s [] t y = let same = ap into_iter_len y in omega (arith, same)
taken_len s (x ∷ xs) t y = let here = y.1.1 in let rest = taken_len y.0 xs t y.2 in omega (arith, here, rest)

module _ {X A : Type 0} (all xs : List X) (s t u : IntoIter X A) (given : into_iter_items s ≡ all) (so_far : Yields into_iter_steps s xs t) where
  -- so many are left
  pub with_rest : all ≡ xs ++ into_iter_items t
  with_rest = sym given ∙ taken_front s xs t so_far

  -- and one of them came
  pub with_one : (x : X) → into_iter_steps t (Some x) u → all ≡ (xs ++ x ∷ []) ++ into_iter_items u
  with_one x step = with_rest ∙ ap (λ l. xs ++ l) step.0 ∙ sym (append_assoc xs (x ∷ []) (into_iter_items u))

  -- none is left
  pub at_end : into_iter_len s ≡ length all → into_iter_steps t None u → all ≡ xs
  at_end counted step =
      let left : length all ≡ length xs + length (into_iter_items t) = ap length with_rest ∙ length-append xs (into_iter_items t) in
      let taken = taken_len s xs t so_far in
      let over = step.0 in
      let none : length (into_iter_items t) ≡ 0 = omega (arith, left, taken, over, counted) in
      with_rest ∙ ap (λ l. xs ++ l) (empty (into_iter_items t) none) ∙ append-nil xs
    where
      empty : (l : List X) → length l ≡ 0 → l ≡ []
      empty [] h = refl
      empty (x ∷ l) h = absurd (omega (arith, h))
