-- The first wires are without fault, and the outputs that they leave are the keys.
use Rattle.std.proofs.Common.{◌≡◌, ◌∙◌, ap, refl, sym, inl, inr, ℕ, ◌+◌, ◌<◌, ◌≤◌, cond, Bool, true, false, ◌||◌, List, [], ◌∷◌, ◌++◌, length, map, take, slice_get, Some, None, arith}
use Rattle.std.specs.List.{list_any}
use Rattle.std.proofs.lemmas.Bool.{cases_lt}
use Rattle.std.proofs.lemmas.List.{take_more, take_all}
use Rattle.std.proofs.lemmas.Option.{slice_get_within, get_or_from_slice_get}
use Rattle.indexmap.specs.IndexSet.{insert_key}
use Rattle.mt_graph.specs.declared.Wire.{Wire}
use Rattle.mt_elements.specs.declared.fault.ChainWhy.TheVariants.{NoSuchPort, TwiceWired}
use Rattle.mt_elements.specs.declared.wires.Output.{Output}
use Rattle.mt_elements.specs.contracts.wires.OutputPartialEq.TheImpl.{ghosts}
use Rattle.mt_elements.specs.ChainState.{ChainState, is_from}
use Rattle.mt_elements.specs.Wired.{missing_port, or_twice, wire_fault, AreWired, output_of}
use Rattle.mt_elements.specs.Told.{IsMiswired}

pub some_same : {X : Type 0} (x y : X) → Some x ≡ Some y → x ≡ y
some_same x y e = let q : Some x ≡ Some y = e in cc

pub any_map : {X Y : Type 0} (f : X → Y) (p : Y → Bool) (xs : List X) → list_any p (map f xs) ≡ list_any (λ x. p (f x)) xs
any_map f p [] = refl
any_map f p (x ∷ xs) = ap (λ b. p (f x) || b) (any_map f p xs)

pub map_push : {X Y : Type 0} (f : X → Y) (xs : List X) (x : X) → map f (xs ++ x ∷ []) ≡ map f xs ++ f x ∷ []
map_push f [] x = refl
map_push f (y ∷ ys) x = ap (λ zs. f y ∷ zs) (map_push f ys x)

pub take_next : {X : Type 0} (xs : List X) (i : ℕ) (x : X) → slice_get xs i ≡ Some x → take (i + 1) xs ≡ take i xs ++ x ∷ []
take_next xs i x is = take_more xs i x (slice_get_within xs i x is) ∙ ap (λ y. take i xs ++ y ∷ []) (get_or_from_slice_get xs i x x is)

-- an output among those of some wires
pub again : (wire : Wire) (before : List Wire) → list_any ((ghosts).eq (output_of wire)) (map output_of before) ≡ list_any (is_from wire.from wire.out) before
again wire before = any_map output_of ((ghosts).eq (output_of wire)) before

module _ (chain : ChainState) where
  pub record IsWiring (keys : List Output) (number : ℕ) : Type 0 where
    pub keys_are : keys ≡ map output_of (take number chain.wires)
    pub fine : (other : ℕ) (before : Wire) → other < number → slice_get chain.wires other ≡ Some before → wire_fault chain (take other chain.wires) before ≡ None

  pub begins : (keys : List Output) → keys ≡ [] → IsWiring keys 0
  begins keys e = record { keys_are = e; fine = λ other before lt. absurd (omega (arith, lt)) }

  -- a wire that joins a port that is not there
  pub no_port : (keys : List Output) (number : ℕ) (wire : Wire) (element : ℕ) → slice_get chain.wires number ≡ Some wire → missing_port chain wire ≡ Some element → IsWiring keys number
      → IsMiswired chain (record { why = NoSuchPort; element = element; line = wire.line })
  no_port keys number wire element is e h = record {
    number = number;
    wire = wire;
    why = NoSuchPort;
    element = element;
    stands = is;
    wrong = ap (or_twice wire.from (list_any (is_from wire.from wire.out) (take number chain.wires))) e;
    first = h.fine;
    told = refl;
  }

  -- a wire whose output was left before
  pub twice : (keys : List Output) (number : ℕ) (wire : Wire) → slice_get chain.wires number ≡ Some wire → missing_port chain wire ≡ None
      → list_any ((ghosts).eq (output_of wire)) keys ≡ true → IsWiring keys number → IsMiswired chain (record { why = TwiceWired; element = wire.from; line = wire.line })
  twice keys number wire is e there h = record {
    number = number;
    wire = wire;
    why = TwiceWired;
    element = wire.from;
    stands = is;
    wrong = (λ i. or_twice wire.from (left i) (e i));
    first = h.fine;
    told = refl;
  }
    where
      left : list_any (is_from wire.from wire.out) (take number chain.wires) ≡ true
      left = sym (again wire (take number chain.wires)) ∙ ap (list_any ((ghosts).eq (output_of wire))) (sym h.keys_are) ∙ there

  -- a wire that is joined
  pub joined : (keys new : List Output) (number : ℕ) (wire : Wire) → slice_get chain.wires number ≡ Some wire → missing_port chain wire ≡ None
      → list_any ((ghosts).eq (output_of wire)) keys ≡ false → new ≡ insert_key (ghosts).eq keys (output_of wire) → IsWiring keys number → IsWiring new (number + 1)
  joined keys new number wire is e absent ins h = record {
    keys_are = ins ∙ ap (λ b. cond b keys (keys ++ output_of wire ∷ [])) absent ∙ ap (λ ks. ks ++ output_of wire ∷ []) h.keys_are
        ∙ sym (map_push output_of (take number chain.wires) wire) ∙ ap (map output_of) (sym (take_next chain.wires number wire is));
    fine = λ other before lt it. elim (cases_lt other number) [
      | inl earlier ↦ h.fine other before earlier it
      | inr last ↦ here other before (let same : other ≡ number = omega (arith, lt, last) in same) it
    ];
  }
    where
      left : list_any (is_from wire.from wire.out) (take number chain.wires) ≡ false
      left = sym (again wire (take number chain.wires)) ∙ ap (list_any ((ghosts).eq (output_of wire))) (sym h.keys_are) ∙ absent

      none : wire_fault chain (take number chain.wires) wire ≡ None
      none = (λ i. or_twice wire.from (left i) (e i))

      here : (other : ℕ) (before : Wire) → other ≡ number → slice_get chain.wires other ≡ Some before → wire_fault chain (take other chain.wires) before ≡ None
      here other before same it =
          let w : before ≡ wire = some_same before wire (sym it ∙ ap (slice_get chain.wires) same ∙ is) in
          (λ i. wire_fault chain (take (same i) chain.wires) (w i)) ∙ none

  pub all_keys : (keys : List Output) (number : ℕ) → length chain.wires ≤ number → IsWiring keys number → keys ≡ map output_of chain.wires
  all_keys keys number le h = h.keys_are ∙ ap (map output_of) (take_all number chain.wires le)

  pub all_wired : (keys : List Output) (number : ℕ) → length chain.wires ≤ number → IsWiring keys number → AreWired chain
  all_wired keys number le h = λ other wire is. let lt = slice_get_within chain.wires other wire is in h.fine other wire (omega (arith, lt, le)) is
