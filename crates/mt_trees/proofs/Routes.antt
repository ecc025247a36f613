-- The first entry by falling length of the prefix that has an address is the entry that is found for it.
use Rattle.std.proofs.Common.{◌≡◌, ◌∙◌, sym, ap, refl, ℕ, ◌≤◌, Bool, true, false, List, [], ◌∷◌, ◌&&◌, arith}
use Rattle.std.specs.Prelude.{Option, Some, None, nat_lt, if◌then◌else◌, fold}
use Rattle.std.specs.List.{find}
use Rattle.std.proofs.lemmas.Bool.{ltb-true, ltb-false}
use Rattle.std.proofs.lemmas.Bool.Decides.{nat_tests}
use Rattle.mt_kinds.specs.declared.hop.Hop.{Hop}
use Rattle.mt_chain.specs.Route.{is_in, is_longer, better, route_of}
use Rattle.mt_trees.specs.Elements.{placed, by_length}

-- ---- the better of two

-- the second one only where it is longer
abbrev pick : Option Hop → Option Hop → Option Hop
pick None y = y
pick (Some x) None = Some x
pick (Some x) (Some y) = if nat_lt x.length y.length then Some y else Some x

pick_none : (x : Option Hop) → pick x None ≡ x
pick_none None = refl
pick_none (Some x) = refl

-- the test of two that are there
pick_by : (x y : Hop) (b : Bool) → nat_lt x.length y.length ≡ b → pick (Some x) (Some y) ≡ (if b then Some y else Some x)
pick_by x y b e = ap (λ c. if c then Some y else Some x) e

some_assoc : (x y z : Hop) (a b c : Bool) → nat_lt x.length y.length ≡ a → nat_lt y.length z.length ≡ b → nat_lt x.length z.length ≡ c
    → pick (if a then Some y else Some x) (Some z) ≡ pick (Some x) (if b then Some z else Some y)
some_assoc x y z true true true e d g = pick_by y z true d ∙ sym (pick_by x z true g)
some_assoc x y z true true false e d g = absurd (grind (arith, nat_tests))
some_assoc x y z true false c e d g = pick_by y z false d ∙ sym (pick_by x y true e)
some_assoc x y z false true c e d g = refl
some_assoc x y z false false true e d g = absurd (grind (arith, nat_tests))
some_assoc x y z false false false e d g = pick_by x z false g ∙ sym (pick_by x y false e)

pick_assoc : (x y z : Option Hop) → pick (pick x y) z ≡ pick x (pick y z)
pick_assoc None y z = refl
pick_assoc (Some x) None z = refl
pick_assoc (Some x) (Some y) None = pick_none (pick (Some x) (Some y))
pick_assoc (Some x) (Some y) (Some z) = some_assoc x y z (nat_lt x.length y.length) (nat_lt y.length z.length) (nat_lt x.length z.length) refl refl refl

-- ---- lists of falling length

abbrev AtMost : ℕ → List Hop → Type 0
AtMost most [] = Unit {0}
AtMost most (hop ∷ hops) = (hop.length ≤ most) × AtMost most hops

abbrev Falls : List Hop → Type 0
Falls [] = Unit {0}
Falls (hop ∷ hops) = AtMost hop.length hops × Falls hops

wider : (least most : ℕ) (hops : List Hop) → least ≤ most → AtMost least hops → AtMost most hops
wider least most [] more h = tt
wider least most (hop ∷ hops) more h = let less = h.0 in (omega (arith, more, less), wider least most hops more h.1)

most_placed : (most : ℕ) (hop : Hop) (hops : List Hop) → hop.length ≤ most → AtMost most hops → AtMost most (placed hop hops)
most_placed most hop [] less h = (less, tt)
most_placed most hop (other ∷ hops) less h = either (nat_lt hop.length other.length) (most_placed most hop hops less h.1)
  where
    either : (b : Bool) → AtMost most (placed hop hops) → AtMost most (if b then other ∷ placed hop hops else hop ∷ other ∷ hops)
    either true rest = (h.0, rest)
    either false rest = (less, h)

falls_placed : (hop : Hop) (hops : List Hop) → Falls hops → Falls (placed hop hops)
falls_placed hop [] h = (tt, tt)
falls_placed hop (other ∷ hops) h = either (nat_lt hop.length other.length) refl (falls_placed hop hops h.1)
  where
    either : (b : Bool) → nat_lt hop.length other.length ≡ b → Falls (placed hop hops) → Falls (if b then other ∷ placed hop hops else hop ∷ other ∷ hops)
    either true e rest = let longer = ltb-true hop.length other.length e in (most_placed other.length hop hops (omega (arith, longer)) h.0, rest)
    either false e rest = let shorter = ltb-false hop.length other.length e in ((shorter, wider other.length hop.length hops shorter h.0), h)

falls_all : (hops : List Hop) → Falls (by_length hops)
falls_all [] = tt
falls_all (hop ∷ hops) = falls_placed hop (by_length hops) (falls_all hops)

-- ---- the first that has the address

module _ (address : ℕ) where
  abbrev one : Hop → Option Hop
  one hop = if is_in address hop then Some hop else None

  abbrev first : List Hop → Option Hop
  first hops = find (is_in address) hops

  -- an entry that no other is longer than
  longest : (hop : Hop) (hops : List Hop) → AtMost hop.length hops → pick (Some hop) (first hops) ≡ Some hop
  longest hop [] h = refl
  longest hop (other ∷ hops) h = either (is_in address other) (longest hop hops h.1)
    where
      either : (b : Bool) → pick (Some hop) (first hops) ≡ Some hop → pick (Some hop) (if b then Some other else first hops) ≡ Some hop
      either true rest = let less = h.0 in pick_by hop other false (grind (arith, nat_tests))
      either false rest = rest

  first_if : (b : Bool) (xs ys : List Hop) → first (if b then xs else ys) ≡ (if b then first xs else first ys)
  first_if true xs ys = refl
  first_if false xs ys = refl

  -- the first of both, of the rest, and of the rest with one more, by the three tests
  by_tests : (hop other : Hop) (rest more : Option Hop) (a b c : Bool) → nat_lt hop.length other.length ≡ a → more ≡ pick (if c then Some hop else None) rest → (a ≡ false → pick (Some hop) rest ≡ Some hop)
      → (if a then (if b then Some other else more) else (if c then Some hop else (if b then Some other else rest))) ≡ pick (if c then Some hop else None) (if b then Some other else rest)
  by_tests hop other rest more true true true e d g = sym (pick_by hop other true e)
  by_tests hop other rest more true true false e d g = refl
  by_tests hop other rest more true false c e d g = d
  by_tests hop other rest more false true true e d g = sym (pick_by hop other false e)
  by_tests hop other rest more false false true e d g = sym (g refl)
  by_tests hop other rest more false b false e d g = refl

  first_placed : (hop : Hop) (hops : List Hop) → Falls hops → first (placed hop hops) ≡ pick (one hop) (first hops)
  first_placed hop [] h = sym (pick_none (one hop))
  first_placed hop (other ∷ hops) h =
      first_if (nat_lt hop.length other.length) (other ∷ placed hop hops) (hop ∷ other ∷ hops)
      ∙ by_tests hop other (first hops) (first (placed hop hops)) (nat_lt hop.length other.length) (is_in address other) (is_in address hop) refl (first_placed hop hops h.1)
      (λ e. longest hop hops (wider other.length hop.length hops (ltb-false hop.length other.length e) h.0))

  -- ---- one after the other

  abbrev best : List Hop → Option Hop
  best [] = None
  best (hop ∷ hops) = pick (one hop) (best hops)

  better_by : (found : Option Hop) (hop : Hop) (b : Bool) → (if b && is_longer hop found then Some hop else found) ≡ pick found (if b then Some hop else None)
  better_by None hop true = refl
  better_by None hop false = refl
  better_by (Some found) hop true = refl
  better_by (Some found) hop false = refl

  better_is : (found : Option Hop) (hop : Hop) → better address found hop ≡ pick found (one hop)
  unfolding better
  better_is found hop = better_by found hop (is_in address hop)

  fold_is : (found : Option Hop) (hops : List Hop) → fold (better address) found hops ≡ pick found (best hops)
  fold_is found [] = sym (pick_none found)
  fold_is found (hop ∷ hops) =
      fold_is (better address found hop) hops
      ∙ ap (λ o. pick o (best hops)) (better_is found hop)
      ∙ pick_assoc found (one hop) (best hops)

  first_is_best : (hops : List Hop) → first (by_length hops) ≡ best hops
  first_is_best [] = refl
  first_is_best (hop ∷ hops) = first_placed hop (by_length hops) (falls_all hops) ∙ ap (pick (one hop)) (first_is_best hops)

  -- the first entry of the list by length is the one that is found
  pub first_is_route : (hops : List Hop) → find (is_in address) (by_length hops) ≡ route_of address hops
  unfolding route_of
  first_is_route hops = first_is_best hops ∙ sym (fold_is None hops)
