-- There are as many classes as the headers of their chain have trees.
use Rattle.std.proofs.Common.{◌≡◌, ◌∙◌, ◌<◌, ◌≤◌, ◌||◌, ℕ, zero, suc, Bool, true, false, List, [], ◌∷◌, length, Option, Some, None, slice_get, refl, sym, ap, subst, arith}
use Rattle.std.proofs.Math.Dec.{eqb}
use Rattle.std.proofs.Math.Nat.{le_antisymm}
use Rattle.std.proofs.lemmas.Bool.{eqb-true}
use Rattle.std.proofs.lemmas.Map.Steps.{length-le_from_distinct_below}
use Rattle.std.proofs.lemmas.Option.{slice_get_within}
use Rattle.std.specs.List.{AllByRecursion, IsDistinct, list_any}
use Rattle.mt_packet.specs.declared.span.Span.{Span}
use Rattle.mt_cuts.specs.Headers.{IsHeaderOf}
use Rattle.mt_terms.specs.Trees.{TreeForm}
use Rattle.mt_synth.specs.Classes.{Class, IsClass, AreClasses, HasTrees}
use Rattle.mt_synth.specs.Laws.{ClassesCounted}

-- ---- where each of so many numbers has a number of its own, there are at least as many

is_false : (b : Bool) → (b ≡ true → ⊥) → b ≡ false
is_false true h = absurd (h refl)
is_false false h = refl

by_test : (bound number other : ℕ) (more b : Bool) → eqb number other ≡ b → other < bound → (more ≡ true → number < bound) → (b || more) ≡ true → number < bound
by_test bound number other more true is lt later any = subst (λ n. n < bound) (sym (eqb-true number other is)) lt
by_test bound number other more false is lt later any = later any

-- numbers of the first so many
record HasNumbers (R : ℕ → ℕ → Type 0) (count : ℕ) : Type 0 where
  numbers : List ℕ
  counted : length numbers ≡ count
  own : AllByRecursion (λ number. (i : ℕ) × (i < count) × R i number) numbers
  distinct : IsDistinct eqb numbers

module _ (R : ℕ → ℕ → Type 0) (apart : (i j number : ℕ) → R i number → R j number → i ≡ j) where
  differ : (count number : ℕ) → R count number → (numbers : List ℕ) → AllByRecursion (λ other. (i : ℕ) × (i < count) × R i other) numbers → AllByRecursion (λ other. eqb number other ≡ false) numbers
  differ count number is [] own = tt
  differ count number is (other ∷ numbers) own =
      (is_false (eqb number other) (λ same. (let here = apart count own.0.0 other (subst (R count) (eqb-true number other same) is) own.0.2 in absurd (omega (arith, here, own.0.1)))), differ count number is numbers own.1)

  later : (count : ℕ) (numbers : List ℕ) → AllByRecursion (λ other. (i : ℕ) × (i < count) × R i other) numbers → AllByRecursion (λ other. (i : ℕ) × (i < suc count) × R i other) numbers
  later count [] own = tt
  later count (other ∷ numbers) own = ((own.0.0, omega (arith, own.0.1), own.0.2), later count numbers own.1)

  numbered : (count : ℕ) → ((i : ℕ) → i < count → (number : ℕ) × R i number) → HasNumbers R count
  unfolding IsDistinct
  numbered zero has = record { numbers = []; counted = refl; own = tt; distinct = tt }
  numbered (suc count) has =
      let here = has count (omega arith) in
      let before = numbered count (λ i lt. has i (omega (arith, lt))) in
      record {
        numbers = here.0 ∷ before.numbers;
        counted = ap suc before.counted;
        own = ((count, omega arith, here.1), later count before.numbers before.own);
        distinct = (differ count here.0 here.1 before.numbers before.own, before.distinct);
      }

  all_below : (count bound : ℕ) → ((i number : ℕ) → R i number → number < bound) → (numbers : List ℕ) → AllByRecursion (λ other. (i : ℕ) × (i < count) × R i other) numbers
      → (number : ℕ) → list_any (eqb number) numbers ≡ true → number < bound
  all_below count bound within [] own number any = absurd cc
  all_below count bound within (other ∷ numbers) own number any =
      by_test bound number other (list_any (eqb number) numbers) (eqb number other) refl (within own.0.0 other own.0.2) (all_below count bound within numbers own.1 number) any

  pub pigeons : (count bound : ℕ) → ((i number : ℕ) → R i number → number < bound) → ((i : ℕ) → i < count → (number : ℕ) × R i number) → count ≤ bound
  pigeons count bound within has =
      let found = numbered count has in
      subst (λ n. n ≤ bound) found.counted (length-le_from_distinct_below found.numbers bound found.distinct (all_below count bound within found.numbers found.own))

-- ---- classes

there : {A : Type 0} (xs : List A) (i : ℕ) → i < length xs → (x : A) × (slice_get xs i ≡ Some x)
there [] i lt = absurd (omega (arith, lt))
there (x ∷ xs) zero lt = (x, refl)
there (x ∷ xs) (suc i) lt = there xs i (omega (arith, lt))

one_tree : (found : Option TreeForm) (t u : TreeForm) → found ≡ Some t → found ≡ Some u → t ≡ u
one_tree found t u a b = let both : Some t ≡ Some u = sym a ∙ b in cc

one_class : (classes : List Class) (i : ℕ) (r s : List (List Span)) (t u : TreeForm) → IsClass classes i r t → IsClass classes i s u → t ≡ u
one_class classes i r s t u a b = let both : Some (r, t) ≡ Some (s, u) = sym a ∙ b in ap tree_in both
  where
    tree_in : Option Class → TreeForm
    tree_in None = t
    tree_in (Some class) = class.1

-- that class has that tree
abbrev HasTree : List Class → ℕ → TreeForm → Type 0
HasTree classes number tree = (region : List (List Span)) × IsClass classes number region tree

-- each class has a header of its tree
header_of : (devices : ℕ) (tree_at : List ℕ → Option TreeForm) (classes : List Class) → AreClasses devices tree_at classes → (i : ℕ) → i < length classes
    → (header : List ℕ) × (tree : TreeForm) × IsHeaderOf devices header × (tree_at header ≡ Some tree) × HasTree classes i tree
header_of devices tree_at classes are i lt =
    let class = there classes i lt in
    let had = are.had i class.0.0 class.0.1 class.1 in
    let here = are.covers had.0 had.1 in
    let same : here.0 ≡ i = are.once had.0 here.0 i here.1 class.0.0 here.2 class.0.1 here.3 class.1 here.4 had.2 in
    (had.0, here.2, had.1, here.5, (here.1, subst (λ n. IsClass classes n here.1 here.2) same here.3))

-- a class and a class of another list with one tree
abbrev SameTree : List Class → List Class → ℕ → ℕ → Type 0
SameTree classes others i j = (tree : TreeForm) × HasTree classes i tree × HasTree others j tree

at_most : (devices : ℕ) (tree_at : List ℕ → Option TreeForm) (classes others : List Class) → AreClasses devices tree_at classes → AreClasses devices tree_at others → length classes ≤ length others
at_most devices tree_at classes others are also =
    pigeons (SameTree classes others)
    (λ i j number a b. (let same : a.0 ≡ b.0 = one_class others number a.2.0 b.2.0 a.0 b.0 a.2.1 b.2.1 in
    are.apart i j a.1.0 b.1.0 b.0 (subst (λ t. IsClass classes i a.1.0 t) same a.1.1) b.1.1))
    (length classes) (length others) (λ i j a. slice_get_within others j (a.2.0, a.0) a.2.1)
    (λ i lt. (let has = header_of devices tree_at classes are i lt in
    let there = also.covers has.0 has.2 in
    let same : there.2 ≡ has.1 = one_tree (tree_at has.0) there.2 has.1 there.5 has.3 in
    (there.0, (has.1, has.4, (there.1, subst (λ t. IsClass others there.0 there.1 t) same there.3)))))

-- a header, and the class of its tree
abbrev IsOf : (List ℕ → Option TreeForm) → List (List ℕ) → List Class → ℕ → ℕ → Type 0
IsOf tree_at headers classes i j = (header : List ℕ) × (tree : TreeForm) × (slice_get headers i ≡ Some header) × (tree_at header ≡ Some tree) × HasTree classes j tree

at_least : (devices : ℕ) (tree_at : List ℕ → Option TreeForm) (classes : List Class) (count : ℕ) → AreClasses devices tree_at classes → HasTrees devices tree_at count → count ≤ length classes
at_least devices tree_at classes count are has =
    pigeons (IsOf tree_at has.0 classes)
    (λ i j number a b. (let same : a.1 ≡ b.1 = one_class classes number a.4.0 b.4.0 a.1 b.1 a.4.1 b.4.1 in has.3 i j a.0 b.0 a.2 b.2 (a.3 ∙ (ap Some same ∙ sym b.3))))
    count (length classes) (λ i j a. slice_get_within classes j (a.4.0, a.1) a.4.1)
    (λ i lt. (let header = there has.0 i (subst (λ n. i < n) (sym has.1) lt) in
    let here = are.covers header.0 (has.2 header.0 i header.1) in
    (here.0, (header.0, here.2, header.1, here.5, (here.1, here.3)))))

pub classes_counted : ClassesCounted
classes_counted = record {
  same = λ devices tree_at classes others are also. le_antisymm (at_most devices tree_at classes others are also) (at_most devices tree_at others classes also are);
  many = at_least;
}
