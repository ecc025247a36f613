-- What holds of every graph.
use Rattle.std.specs.Prelude.{◌≡◌, ℕ, ◌<◌, ◌≤◌, List, [], ◌∷◌, ◌++◌, length, Contains}
use Rattle.std.specs.List.{AllPairs}
use Rattle.mt_graph.specs.declared.Element.{Element}
use Rattle.mt_graph.specs.declared.Wire.{Wire}

-- wires join elements that are there
abbrev pub AreWithin : ℕ → List Wire → Type 0
AreWithin count wires = (w : Wire) → Contains wires w → (w.from < count) × (w.to < count)

-- a name that is more than the scope of its element
pub record IsOwn (name : List ℕ) : Type 0 where
  pub some : name ≡ [] → ⊥
  pub ending : (front : List ℕ) → name ≡ front ++ 47 ∷ [] → ⊥

-- no two elements have one such name
abbrev pub AreNamesApart : List Element → Type 0
AreNamesApart elements = AllPairs (λ a b. IsOwn a.name → a.name ≡ b.name → ⊥) elements

-- no element has more than so many arguments
abbrev pub AreArgumentsFew : ℕ → List Element → Type 0
AreArgumentsFew most elements = (e : Element) → Contains elements e → length e.args ≤ most
