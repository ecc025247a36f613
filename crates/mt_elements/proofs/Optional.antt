-- What holds of what is read, where something is.
use Rattle.std.proofs.Common.{◌≡◌, refl, subst, ⊎_elim, cond, Bool, true, false, List, [], ◌∷◌}
use Rattle.std.specs.Prelude.{Option, Some, None, option_map, option_and_then, IfSome, Contains}
use Rattle.std.proofs.lemmas.Option.{same_Some}
use Rattle.mt_lists.specs.Options.{each}
use Rattle.mt_lists.proofs.Members.{cases_in, none_in}

module _ {B : Type 0} (P : B → Type 0) where
  pub either : (b : Bool) (o q : Option B) → IfSome o P → IfSome q P → IfSome (cond b o q) P
  either true o q h k = h
  either false o q h k = k

  -- a chain of tests, as a table
  abbrev pub pick : List (Bool × Option B) → Option B → Option B
  pick [] last = last
  pick ((test, o) ∷ table) last = cond test o (pick table last)

  abbrev pub Each : List (Bool × Option B) → Option B → Type 0
  Each [] last = IfSome last P
  Each ((test, o) ∷ table) last = IfSome o P × Each table last

  pub picked : (table : List (Bool × Option B)) (last : Option B) → Each table last → IfSome (pick table last) P
  picked [] last h = h
  picked ((test, o) ∷ table) last h = either test o (pick table last) h.0 (picked table last h.1)

  pub of_each : {A : Type 0} (f : A → B) (o : Option A) → ((x : A) → P (f x)) → IfSome (option_map f o) P
  of_each f None h = tt
  of_each f (Some x) h = h x

  pub of_found : {A : Type 0} (f : A → B) (o : Option A) → ((x : A) → o ≡ Some x → P (f x)) → IfSome (option_map f o) P
  of_found f None h = tt
  of_found f (Some x) h = h x refl

  -- where something holds of what is read before
  pub of_good : {A : Type 0} (Q : A → Type 0) (f : A → B) (o : Option A) → IfSome o Q → ((x : A) → Q x → P (f x)) → IfSome (option_map f o) P
  of_good Q f None found h = tt
  of_good Q f (Some x) found h = h x found

  pub of_next : {A : Type 0} (f : A → Option B) (o : Option A) → ((x : A) → IfSome (f x) P) → IfSome (option_and_then f o) P
  of_next f None h = tt
  of_next f (Some x) h = h x

  pub next_good : {A : Type 0} (Q : A → Type 0) (f : A → Option B) (o : Option A) → IfSome o Q → ((x : A) → Q x → IfSome (f x) P) → IfSome (option_and_then f o) P
  next_good Q f None found h = tt
  next_good Q f (Some x) found h = h x found

  pub at_found : (o : Option B) (x : B) → IfSome o P → o ≡ Some x → P x
  at_found None x h e = absurd cc
  at_found (Some y) x h e = subst P (same_Some y x e) h

  -- all of a list
  abbrev pub AllGood : List B → Type 0
  AllGood ys = (y : B) → Contains ys y → P y

  pub more_good : (y : B) (ys : List B) → P y → AllGood ys → AllGood (y ∷ ys)
  more_good y ys h all z c = ⊎_elim (λ here. subst P here h) (λ later. all z later) (cases_in y ys z c)

pub each_good : {A B : Type 0} (P : B → Type 0) (f : A → Option B) (xs : List A) → ((x : A) → IfSome (f x) P) → IfSome (each f xs) (AllGood P)
unfolding each
each_good P f [] h = λ y c. none_in y c
each_good P f (x ∷ xs) h =
    next_good (AllGood P) P _ (f x) (h x) (λ y good.
    of_good (AllGood P) (AllGood P) (λ more. y ∷ more) (each f xs) (each_good P f xs h) (λ more rest. more_good P y more good rest))
