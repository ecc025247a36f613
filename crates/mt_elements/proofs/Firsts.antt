-- What stands in a list of each value once, in the order of first appearance, and where.
use Rattle.std.proofs.Common.{◌≡◌, ◌∙◌, ap, refl, sym, subst, inl, inr, ⊎_elim, ℕ, zero, suc, ◌+◌, ◌<◌, ◌≤◌, not, cond, Bool, true, false, List, [], ◌∷◌, ◌++◌, length, fold, append_assoc, arith}
use Rattle.std.specs.Prelude.{◌⊎◌, ◌||◌, Some, slice_get, Contains}
use Rattle.std.specs.List.{list_any, position_or_len}
use Rattle.std.proofs.lemmas.List.{append-nil, length-append}
use Rattle.std.proofs.lemmas.List.Elements.{Contains-push_cases}
use Rattle.std.proofs.lemmas.List.Folds.{list_any-append}
use Rattle.std.proofs.lemmas.Option.{same_Some, slice_get_within}
use Rattle.mt_lists.proofs.Bools.{true_behind}
use Rattle.mt_lists.proofs.Members.{first_in, later_in, cases_in, none_in}
use Rattle.mt_elements.specs.Described.{added}

-- ---- places

pub place_in_front : {A : Type 0} (p : A → Bool) (xs ys : List A) → position_or_len p xs < length xs → position_or_len p (xs ++ ys) ≡ position_or_len p xs
place_in_front p [] ys lt = absurd (omega (arith, lt))
place_in_front p (x ∷ xs) ys lt = either (p x) _ _ _ lt (place_in_front p xs ys)
  where
    either : (b : Bool) (n m l : ℕ) → cond (not b) (1 + n) 0 < suc l → (n < l → m ≡ n) → cond (not b) (1 + m) 0 ≡ cond (not b) (1 + n) 0
    either true n m l lt h = refl
    either false n m l lt h = ap (λ k. 1 + k) (h (omega (arith, lt)))

pub place_at_end : {A : Type 0} (p : A → Bool) (xs : List A) (y : A) → list_any p xs ≡ false → p y ≡ true → position_or_len p (xs ++ y ∷ []) ≡ length xs
place_at_end p [] y none h = ap (λ b. cond (not b) 1 0) h
place_at_end p (x ∷ xs) y none h = either (p x) (list_any p xs) _ _ none (λ later. place_at_end p xs y later h)
  where
    either : (b any : Bool) (m l : ℕ) → (b || any) ≡ false → (any ≡ false → m ≡ l) → cond (not b) (1 + m) 0 ≡ suc l
    either true any m l none k = absurd cc
    either false any m l none k = let e = k none in omega (arith, e)

at_push : {A : Type 0} (xs : List A) (y : A) (i : ℕ) (z : A) → slice_get (xs ++ y ∷ []) i ≡ Some z → (slice_get xs i ≡ Some z) ⊎ ((i ≡ length xs) × (y ≡ z))
at_push [] y zero z h = inr (refl, same_Some y z h)
at_push [] y (suc i) z h = absurd cc
at_push (x ∷ xs) y zero z h = inl h
at_push (x ∷ xs) y (suc i) z h = ⊎_elim inl (λ r. inr (ap suc r.0, r.1)) (at_push xs y i z h)

module _ {A : Type 0} (same : A → A → Bool) where
  -- each value has no other place than its own
  abbrev pub AtOwnPlace : List A → Type 0
  AtOwnPlace values = (i : ℕ) (y : A) → slice_get values i ≡ Some y → position_or_len (same y) values ≡ i

  -- ---- one value

  one_more : (values : List A) (x : A) → (more : List A) × (added same values x ≡ values ++ more)
  one_more values x = either (list_any (same x) values)
    where
      either : (b : Bool) → (more : List A) × (cond b values (values ++ x ∷ []) ≡ values ++ more)
      either true = ([], sym (append-nil values))
      either false = (x ∷ [], refl)

  one_longer : (values : List A) (x : A) → length (added same values x) ≤ length values + 1
  one_longer values x = either (list_any (same x) values)
    where
      either : (b : Bool) → length (cond b values (values ++ x ∷ [])) ≤ length values + 1
      either true = omega arith
      either false = let e = length-append values (x ∷ []) in omega (arith, e)

  one_source : (values : List A) (x z : A) → Contains (added same values x) z → Contains values z ⊎ (x ≡ z)
  one_source values x z = either (list_any (same x) values)
    where
      either : (b : Bool) → Contains (cond b values (values ++ x ∷ [])) z → Contains values z ⊎ (x ≡ z)
      either true c = inl c
      either false c = Contains-push_cases values x z c

  -- ---- all values

  pub kept : (values xs : List A) → (more : List A) × (fold (added same) values xs ≡ values ++ more)
  kept values [] = ([], sym (append-nil values))
  kept values (x ∷ xs) =
      let first = one_more values x in
      let rest = kept (added same values x) xs in
      (first.0 ++ rest.0, rest.1 ∙ ap (λ l. l ++ rest.0) first.1 ∙ append_assoc values first.0 rest.0)

  pub at_most : (values xs : List A) → length (fold (added same) values xs) ≤ length values + length xs
  at_most values [] = omega arith
  at_most values (x ∷ xs) = let one = one_longer values x in let rest = at_most (added same values x) xs in omega (arith, one, rest)

  pub source : (values xs : List A) (z : A) → Contains (fold (added same) values xs) z → Contains values z ⊎ Contains xs z
  source values [] z c = inl c
  source values (x ∷ xs) z c =
      ⊎_elim
      (λ old. ⊎_elim inl (λ e. inr (subst (Contains (x ∷ xs)) e (first_in x xs))) (one_source values x z old))
      (λ later. inr (later_in x xs z later))
      (source (added same values x) xs z c)

  module _ (itself : (x : A) → same x x ≡ true) where
    has_one : (values : List A) (x : A) → list_any (same x) (added same values x) ≡ true
    has_one values x = either (list_any (same x) values) refl
      where
        either : (b : Bool) → list_any (same x) values ≡ b → list_any (same x) (cond b values (values ++ x ∷ [])) ≡ true
        either true h = h
        either false h = list_any-append (same x) values (x ∷ []) ∙ ap (λ t. list_any (same x) values || (t || false)) (itself x) ∙ true_behind (list_any (same x) values)

    one_apart : (values : List A) (x : A) → AtOwnPlace values → AtOwnPlace (added same values x)
    one_apart values x own = either (list_any (same x) values) refl
      where
        either : (b : Bool) → list_any (same x) values ≡ b → AtOwnPlace (cond b values (values ++ x ∷ []))
        either true none i y at = own i y at
        either false none i y at =
            ⊎_elim
            (λ old. let e = own i y old in place_in_front (same y) values (x ∷ []) (subst (λ n. n < length values) (sym e) (slice_get_within values i y old)) ∙ e)
            (λ new. ap (λ z. position_or_len (same z) (values ++ x ∷ [])) (sym new.1) ∙ place_at_end (same x) values x none (itself x) ∙ sym new.0)
            (at_push values x i y at)

    pub has_each : (values xs : List A) (x : A) → Contains xs x → list_any (same x) (fold (added same) values xs) ≡ true
    has_each values [] x c = none_in x c
    has_each values (y ∷ ys) x c =
        ⊎_elim
        (λ here.
        let k = kept (added same values y) ys in
        ap (list_any (same x)) k.1 ∙ list_any-append (same x) (added same values y) k.0
        ∙ ap (λ t. t || list_any (same x) k.0) (subst (λ z. list_any (same z) (added same values y) ≡ true) here (has_one values y)))
        (λ later. has_each (added same values y) ys x later)
        (cases_in y ys x c)

    pub apart : (values xs : List A) → AtOwnPlace values → AtOwnPlace (fold (added same) values xs)
    apart values [] own = own
    apart values (x ∷ xs) own = apart (added same values x) xs (one_apart values x own)
