-- The numbers below a number, and lists that are read from the fourth element on.
use Rattle.std.proofs.Common.{◌≡◌, ◌∙◌, refl, sym, ap, ℕ, zero, suc, ◌+◌, Bool, true, false, ◌||◌, cond, nat_le, List, [], ◌∷◌, ◌++◌, length, drop, filter, add-one, zero-add, arith}
use Rattle.std.specs.Prelude.{Option, Some, None, IsSome, option_map, option_and_then}
use Rattle.std.specs.List.{list_any, range_with_len, filter_map, cons_option}
use Rattle.std.specs.Option.{option_to_list}
use Rattle.std.proofs.lemmas.Bool.Decides.{nat_tests}
use Rattle.std.proofs.lemmas.List.{append-nil}
use Rattle.std.proofs.lemmas.List.Elements.{filter-append, filter_map-append}
use Rattle.std.proofs.lemmas.List.Folds.{list_any-append}
use Rattle.mt_lists.specs.Options.{each}
use Rattle.mt_command.specs.Words.{below}

range_more : (a n : ℕ) → range_with_len a (suc n) ≡ range_with_len a n ++ (a + n) ∷ []
range_more a zero = ap (λ k. k ∷ []) (omega arith)
range_more a (suc n) =
    let next : a + 1 + n ≡ a + suc n = omega arith in
    ap (λ l. a ∷ l) (range_more (a + 1) n ∙ ap (λ k. range_with_len (a + 1) n ++ k ∷ []) next)

pub below_more : (n : ℕ) → below (n + 1) ≡ below n ++ n ∷ []
below_more n = ap below (add-one n) ∙ range_more 0 n ∙ ap (λ k. below n ++ k ∷ []) (zero-add n)

or_none : (b : Bool) → (b || false) ≡ b
or_none true = refl
or_none false = refl

pub any_more : (test : ℕ → Bool) (n : ℕ) → list_any test (below (n + 1)) ≡ (list_any test (below n) || test n)
any_more test n = ap (list_any test) (below_more n) ∙ list_any-append test (below n) (n ∷ []) ∙ ap (λ b. list_any test (below n) || b) (or_none (test n))

pub filter_more : (test : ℕ → Bool) (n : ℕ) → filter test (below (n + 1)) ≡ filter test (below n) ++ cond (test n) (n ∷ []) []
filter_more test n = ap (filter test) (below_more n) ∙ filter-append test (below n) (n ∷ [])

one_found : {A : Type 0} (o : Option A) → cons_option o [] ≡ option_to_list o
one_found None = refl
one_found (Some x) = refl

-- what is found in one element more
pub found_more : {A : Type 0} (find : ℕ → Option A) (n : ℕ) → filter_map find (below (n + 1)) ≡ filter_map find (below n) ++ option_to_list (find n)
found_more find n = ap (filter_map find) (below_more n) ∙ filter_map-append find (below n) (n ∷ []) ∙ ap (λ l. filter_map find (below n) ++ l) (one_found (find n))

-- ---- each element from the fourth on

each_push : {A B : Type 0} (f : A → Option B) (xs : List A) (ys : List B) (x : A) (y : B) → each f xs ≡ Some ys → f x ≡ Some y → each f (xs ++ x ∷ []) ≡ Some (ys ++ y ∷ [])
unfolding each
each_push f [] ys x y e h =
    let none : [] ≡ ys = cc in
    ap (option_and_then (λ z. option_map (λ more. z ∷ more) (Some []))) h ∙ ap (λ l. Some (l ++ y ∷ [])) none
each_push f (a ∷ xs) ys x y e h = by (f a) (each f xs) (λ rest r. each_push f xs rest x y r h) refl ys e
  where
    by : (o : Option _) (rest : Option (List _)) → ((zs : List _) → each f xs ≡ Some zs → each f (xs ++ x ∷ []) ≡ Some (zs ++ y ∷ [])) → each f xs ≡ rest → (zs : List _) → option_and_then (λ z. option_map (λ more. z ∷ more) rest) o ≡ Some zs
        → option_and_then (λ z. option_map (λ more. z ∷ more) (each f (xs ++ x ∷ []))) o ≡ Some (zs ++ y ∷ [])
    by None rest later r zs q = absurd cc
    by (Some z) None later r zs q = absurd cc
    by (Some z) (Some rest) later r zs q =
        let front : z ∷ rest ≡ zs = cc in
        ap (option_map (λ more. z ∷ more)) (later rest r) ∙ ap (λ l. Some (l ++ y ∷ [])) front

-- one more behind all: it counts where three stand before it
pub each_behind : {A B : Type 0} (f : A → Option B) (xs : List A) (ys : List B) (x : A) → each f (drop 3 xs) ≡ Some ys → (nat_le 3 (length xs) ≡ true → IsSome (f x))
    → each f (drop 3 (xs ++ x ∷ [])) ≡ Some (ys ++ cond (nat_le 3 (length xs)) (option_to_list (f x)) [])
unfolding each
each_behind f [] ys x e h = e ∙ ap Some (sym (append-nil ys))
each_behind f (a ∷ []) ys x e h = e ∙ ap Some (sym (append-nil ys))
each_behind f (a ∷ b ∷ []) ys x e h = e ∙ ap Some (sym (append-nil ys))
each_behind f (a ∷ b ∷ c ∷ xs) ys x e h =
    let many : nat_le 3 (length (a ∷ b ∷ c ∷ xs)) ≡ true = grind (arith, nat_tests) in
    by (f x) refl (h many) ∙ ap (λ t. Some (ys ++ cond t (option_to_list (f x)) [])) (sym many)
  where
    by : (o : Option _) → f x ≡ o → IsSome o → each f (xs ++ x ∷ []) ≡ Some (ys ++ option_to_list (f x))
    by None q some = absurd (let h : false ≡ true = some in cc)
    by (Some y) q some = each_push f xs ys x y e q ∙ ap (λ l. Some (ys ++ option_to_list l)) (sym q)
