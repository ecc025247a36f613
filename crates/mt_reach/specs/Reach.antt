-- The nodes that links lead to, one after the other.
use Rattle.std.specs.Prelude.{◌≡◌, ℕ, ◌+◌, ◌<◌, List, [], ◌∷◌, ◌++◌, length, get_or, Contains, count_by, ◌==◌, not, slice_set}

-- where the links of a node lead
abbrev pub targets_of : List (List ℕ) → ℕ → List ℕ
targets_of graph a = get_or graph a []

-- a node, what its links lead to, and so on
pub data Reaches : List (List ℕ) → ℕ → ℕ → Type 0 where
  here : (graph : List (List ℕ)) (a : ℕ) → Reaches graph a a
  on : (graph : List (List ℕ)) (a b c : ℕ) → Reaches graph a b → Contains (targets_of graph b) c → Reaches graph a c

-- links lead to nodes that are there
abbrev pub AreWithin : List (List ℕ) → ℕ → Type 0
AreWithin graph count = (a b : ℕ) → Contains (targets_of graph a) b → b < count

-- links between nodes of smaller numbers than a bound
abbrev pub AreBetween : List (ℕ × ℕ) → ℕ → Type 0
AreBetween links count = (l : ℕ × ℕ) → Contains links l → (l.0 < count) × (l.1 < count)

-- one more link
abbrev pub with_link : List (List ℕ) → ℕ × ℕ → List (List ℕ)
with_link graph l = slice_set graph l.0 (targets_of graph l.0 ++ l.1 ∷ [])

-- one link after the other
unfoldable pub linked : List (List ℕ) → List (ℕ × ℕ) → List (List ℕ)
linked graph [] = graph
linked graph (l ∷ ls) = linked (with_link graph l) ls

-- marks below a bound
abbrev pub AreBelow : ℕ → List ℕ → Type 0
AreBelow bound seen = (n : ℕ) → get_or seen n 0 < bound

-- a node has the mark of this search
abbrev pub Marked : ℕ → List ℕ → ℕ → Type 0
Marked mark seen n = get_or seen n (mark + 1) ≡ mark

-- how many nodes have not
abbrev pub unmarked : ℕ → List ℕ → ℕ
unmarked mark seen = count_by (λ m. not (m == mark)) seen

-- A search: the nodes that are marked are those that were found, they are reached from the first, and the
-- links of the first so many were followed.
pub record IsSearch (graph : List (List ℕ)) (mark followed : ℕ) (seen order : List ℕ) : Type 0 where
  pub there : 0 < length order
  pub found : (n : ℕ) → Marked mark seen n → Contains order n
  pub marked : (n : ℕ) → Contains order n → Marked mark seen n
  pub reached : (n : ℕ) → Contains order n → Reaches graph (get_or order 0 0) n
  pub closed : (j : ℕ) → j < followed → (b : ℕ) → Contains (targets_of graph (get_or order j 0)) b → Marked mark seen b
  pub below : AreBelow (mark + 1) seen
  pub apart : (i j : ℕ) → i < j → j < length order → get_or order i 0 ≡ get_or order j 0 → ⊥
