-- The elements of a chain against the graph's elements and their descriptions, place by place.
use Rattle.std.proofs.Common.{◌≡◌, ◌∙◌, ap, refl, sym, subst, ⊎_elim, ℕ, zero, suc, ◌<◌, Bool, true, List, [], ◌∷◌, length, map, arith}
use Rattle.std.specs.Prelude.{Option, Some, None, Result, Ok, option_map, nat_lt, slice_get, Contains}
use Rattle.std.specs.List.{flat_map, list_any, list_all, position_or_len}
use Rattle.std.proofs.lemmas.Bool.Decides.{nat_tests}
use Rattle.std.proofs.lemmas.List.Elements.{Contains-append_left, Contains-append_right, Contains-append_cases}
use Rattle.std.proofs.lemmas.Option.{same_Some, slice_get-map}
use Rattle.mt_graph.specs.declared.Element.{Element}
use Rattle.mt_kinds.specs.declared.description.Description.{Description}
use Rattle.mt_kinds.specs.declared.description.Misread.{Misread}
use Rattle.mt_kinds.specs.declared.kind.Kind.{Kind}
use Rattle.mt_kinds.specs.declared.rewriter.Pool.{Pool}
use Rattle.mt_lists.proofs.Bools.{and_first, and_second}
use Rattle.mt_lists.proofs.Members.{first_in, later_in, cases_in, none_in}
use Rattle.mt_elements.specs.Described.{describe, scope_of, kind_of, kinds_of}
use Rattle.mt_elements.proofs.Lookups.{any_within}

-- ---- lists

pub in_flat : {A B : Type 0} (f : A → List B) (xs : List A) (n : ℕ) (x : A) (y : B) → slice_get xs n ≡ Some x → Contains (f x) y → Contains (flat_map f xs) y
in_flat f [] n x y h c = absurd cc
in_flat f (z ∷ zs) zero x y h c = Contains-append_left (f z) (flat_map f zs) y (subst (λ v. Contains (f v) y) (sym (same_Some z x h)) c)
in_flat f (z ∷ zs) (suc n) x y h c = Contains-append_right (f z) (flat_map f zs) y (in_flat f zs n x y h c)

pub from_flat : {A B : Type 0} (f : A → List B) (xs : List A) (y : B) → Contains (flat_map f xs) y → (n : ℕ) × (x : A) × (slice_get xs n ≡ Some x) × Contains (f x) y
from_flat f [] y c = none_in y c
from_flat f (z ∷ zs) y c =
    ⊎_elim (λ here. (0, z, refl, here)) (λ later. let p = from_flat f zs y later in (suc p.0, p.1, p.2, p.3))
    (Contains-append_cases (f z) (flat_map f zs) y c)

pub from_map : {A B : Type 0} (f : A → B) (xs : List A) (y : B) → Contains (map f xs) y → (x : A) × (Contains xs x) × (f x ≡ y)
from_map f [] y c = none_in y c
from_map f (z ∷ zs) y c =
    ⊎_elim (λ here. (z, first_in z zs, here)) (λ later. let p = from_map f zs y later in (p.0, later_in z zs p.0 p.1, p.2))
    (cases_in (f z) (map f zs) y c)

pub all_at : {A : Type 0} (p : A → Bool) (xs : List A) (x : A) → list_all p xs ≡ true → Contains xs x → p x ≡ true
all_at p [] x h c = none_in x c
all_at p (y ∷ ys) x h c =
    ⊎_elim (λ here. subst (λ z. p z ≡ true) here (and_first (p y) (list_all p ys) h)) (λ later. all_at p ys x (and_second (p y) (list_all p ys) h) later)
    (cases_in y ys x c)

pub place_within : {A : Type 0} (p : A → Bool) (xs : List A) → list_any p xs ≡ true → position_or_len p xs < length xs
place_within p xs h = let b : nat_lt (position_or_len p xs) (length xs) ≡ true = any_within p xs ∙ h in grind (arith, nat_tests)

pub some_of : {A B : Type 0} (f : A → B) (o : Option A) (y : B) → option_map f o ≡ Some y → (x : A) × (o ≡ Some x) × (f x ≡ y)
some_of f None y h = absurd cc
some_of f (Some x) y h = (x, refl, same_Some (f x) y h)

-- ---- a graph's elements and their descriptions

pub says : (elements : List Element) (descriptions : List Description) (described : map describe elements ≡ map Ok descriptions) (n : ℕ) (e : Element) (d : Description)
    → slice_get elements n ≡ Some e → slice_get descriptions n ≡ Some d → describe e ≡ Ok d
says elements descriptions described n e d at_e at_d =
    same_Some (describe e) (Ok d)
    (sym (ap (option_map describe) at_e) ∙ sym (slice_get-map describe elements n) ∙ ap (λ (l : List (Result Description Misread)). slice_get l n) described ∙ slice_get-map Ok descriptions n ∙ ap (option_map Ok) at_d)

pub element_at : (elements : List Element) (descriptions : List Description) (described : map describe elements ≡ map Ok descriptions) (n : ℕ) (d : Description)
    → slice_get descriptions n ≡ Some d → (e : Element) × (slice_get elements n ≡ Some e) × (describe e ≡ Ok d)
element_at elements descriptions described n d at_d =
    some_of describe (slice_get elements n) (Ok d)
    (sym (slice_get-map describe elements n) ∙ ap (λ (l : List (Result Description Misread)). slice_get l n) described ∙ slice_get-map Ok descriptions n ∙ ap (option_map Ok) at_d)

-- ---- elements of a chain

pub record Made (devices : List (List ℕ)) (pools : List Pool) (names : List (List ℕ)) (elements : List Element) (descriptions : List Description) (number : ℕ) (kind : Kind) : Type 0 where
  pub element : Element
  pub description : Description
  pub element_is : slice_get elements number ≡ Some element
  pub description_is : slice_get descriptions number ≡ Some description
  pub kind_is : kind_of devices pools names (scope_of element.name) description ≡ kind

module _ (devices : List (List ℕ)) (pools : List Pool) (names : List (List ℕ)) where
  pub made : (elements : List Element) (descriptions : List Description) (number : ℕ) (kind : Kind) → slice_get (kinds_of devices pools names elements descriptions) number ≡ Some kind
      → Made devices pools names elements descriptions number kind
  unfolding kinds_of
  made [] ds number kind h = absurd cc
  made (e ∷ es) [] number kind h = absurd cc
  made (e ∷ es) (d ∷ ds) zero kind h = record { element = e; description = d; element_is = refl; description_is = refl; kind_is = same_Some _ kind h }
  made (e ∷ es) (d ∷ ds) (suc n) kind h =
      let r = made es ds n kind h in
      record { element = r.element; description = r.description; element_is = r.element_is; description_is = r.description_is; kind_is = r.kind_is }

  pub kind_at : (elements : List Element) (descriptions : List Description) (number : ℕ) (e : Element) (d : Description) → slice_get elements number ≡ Some e → slice_get descriptions number ≡ Some d
      → slice_get (kinds_of devices pools names elements descriptions) number ≡ Some (kind_of devices pools names (scope_of e.name) d)
  unfolding kinds_of
  kind_at [] ds number e d at_e at_d = absurd cc
  kind_at (x ∷ es) [] number e d at_e at_d = absurd cc
  kind_at (x ∷ es) (y ∷ ds) zero e d at_e at_d =
      ap (λ (v : Element). Some (kind_of devices pools names (scope_of v.name) y)) (same_Some x e at_e)
      ∙ ap (λ (v : Description). Some (kind_of devices pools names (scope_of e.name) v)) (same_Some y d at_d)
  kind_at (x ∷ es) (y ∷ ds) (suc n) e d at_e at_d = kind_at es ds n e d at_e at_d
