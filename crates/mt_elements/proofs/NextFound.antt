-- Where an output leads, by the place of its wire.
use Rattle.std.proofs.Common.{◌≡◌, ◌∙◌, ap, refl, sym, inl, inr, ℕ, ◌+◌, not, cond, Bool, List, [], ◌∷◌, length, map, position, nat_lt, slice_get, Option, Some, None, arith}
use Rattle.std.specs.List.{find, position_or_len}
use Rattle.std.specs.Prelude.{option_map}
use Rattle.std.proofs.lemmas.Bool.{cases_lt}
use Rattle.std.proofs.lemmas.Bool.Decides.{nat_tests}
use Rattle.std.proofs.lemmas.List.{length-map}
use Rattle.std.proofs.lemmas.List.Folds.{find_at}
use Rattle.std.proofs.lemmas.Option.{slice_get_past}
use Rattle.mt_graph.specs.declared.Wire.{Wire}
use Rattle.mt_elements.specs.declared.wires.Output.{Output}
use Rattle.mt_elements.specs.contracts.wires.OutputPartialEq.TheImpl.{ghosts}
use Rattle.mt_elements.specs.ChainState.{ChainState, is_from, next_of, target}
use Rattle.mt_elements.specs.Wired.{output_of}
use Rattle.mt_elements.proofs.WiresTold.{some_same}

place_map : {X Y : Type 0} (f : X → Y) (p : Y → Bool) (xs : List X) → position_or_len p (map f xs) ≡ position_or_len (λ x. p (f x)) xs
place_map f p [] = refl
place_map f p (x ∷ xs) = ap (λ n. cond (not (p (f x))) (1 + n) 0) (place_map f p xs)

-- among the values of a function
position_map : {X Y : Type 0} (f : X → Y) (p : Y → Bool) (xs : List X) → position p (map f xs) ≡ position (λ x. p (f x)) xs
position_map f p xs =
    ap (λ n. cond (nat_lt n (length (map f xs))) (Some n) None) (place_map f p xs)
    ∙ ap (λ m. cond (nat_lt (position_or_len (λ x. p (f x)) xs) m) (Some (position_or_len (λ x. p (f x)) xs)) None) (length-map xs f)

module _ {X : Type 0} (p : X → Bool) (xs : List X) where
  place_of : (i : ℕ) → position p xs ≡ Some i → position_or_len p xs ≡ i
  place_of i e = elim (cases_lt (position_or_len p xs) (length xs)) [
    | inl lt ↦ let here : position p xs ≡ Some (position_or_len p xs) = grind (arith, nat_tests) in some_same _ _ (sym here ∙ e)
    | inr beyond ↦ absurd (let none : position p xs ≡ None = grind (arith, nat_tests) in let q : None ≡ Some i = sym none ∙ e in cc)
  ]

  pub find_place : (i : ℕ) → position p xs ≡ Some i → find p xs ≡ slice_get xs i
  find_place i e = find_at p xs ∙ ap (slice_get xs) (place_of i e)

  pub find_none : position p xs ≡ None → find p xs ≡ None
  find_none e = elim (cases_lt (position_or_len p xs) (length xs)) [
    | inl lt ↦ absurd (let here : position p xs ≡ Some (position_or_len p xs) = grind (arith, nat_tests) in let q : None ≡ Some (position_or_len p xs) = sym e ∙ here in cc)
    | inr beyond ↦ find_at p xs ∙ slice_get_past xs (position_or_len p xs) beyond
  ]

-- the place of an output among those that the wires leave
pub place_of_output : (chain : ChainState) (keys : List Output) (output : Output) → keys ≡ map output_of chain.wires
    → position ((ghosts).eq output) keys ≡ position (is_from output.element output.out) chain.wires
place_of_output chain keys output e = ap (position ((ghosts).eq output)) e ∙ position_map output_of ((ghosts).eq output) chain.wires

pub next_at : (chain : ChainState) (element out i : ℕ) (o : Option Wire) → position (is_from element out) chain.wires ≡ Some i → slice_get chain.wires i ≡ o
    → option_map target o ≡ next_of chain element out
next_at chain element out i o e is = ap (option_map target) (sym is ∙ sym (find_place (is_from element out) chain.wires i e))

pub next_none : (chain : ChainState) (element out : ℕ) → position (is_from element out) chain.wires ≡ None → None ≡ next_of chain element out
next_none chain element out e = ap (option_map target) (sym (find_none (is_from element out) chain.wires e))
