-- Paths in their order: no other list has the same.
use Rattle.std.proofs.Common.{◌≡◌, ◌↔◌, ℕ, suc, ◌<◌, ◌⊎◌, inl, inr, List, [], ◌∷◌, map, Result, Ok, refl, sym, ap, ◌∙◌, subst, arith}
use Rattle.std.specs.List.{Contains, AllPairs}
use Rattle.mt_click.specs.declared.connections.Path.{Path}
use Rattle.mt_click.specs.declared.connections.Connection.{Connection}
use Rattle.mt_graph.specs.declared.Wire.{Wire}
use Rattle.mt_graph.specs.declared.Graph.{Graph}
use Rattle.mt_syntax.specs.declared.fault.Fault.{Fault}
use Rattle.mt_click.specs.Elements.{State}
use Rattle.mt_click.specs.Connections.{connections_in}
use Rattle.mt_click.specs.Wires.{IsBefore, ArePaths, AreWires, wire_of}
use Rattle.mt_click.specs.Building.{built_in, IsWalked}
use Rattle.mt_lists.proofs.Members.{first_in, later_in, cases_in, none_in}

-- a path does not stand before itself, nor two before one another
apart : {A B C D : Type 0} → A ⊎ B → C ⊎ D → (A → C → ⊥) → (A → D → ⊥) → (B → C → ⊥) → (B → D → ⊥) → ⊥
apart (inl a) (inl c) p q r s = p a c
apart (inl a) (inr d) p q r s = q a d
apart (inr b) (inl c) p q r s = r b c
apart (inr b) (inr d) p q r s = s b d

less_twice : (m n : ℕ) → m < n → n < m → ⊥
less_twice m n a b = omega arith

less_same : (m n : ℕ) → m < n → n ≡ m → ⊥
less_same m n a b = omega (arith, b)

same_less : (m n : ℕ) → m ≡ n → n < m → ⊥
same_less m n a b = omega (arith, a)

pub never_both : (a b : Path) → IsBefore a b → IsBefore b a → ⊥
never_both a b h k =
    apart h k (less_twice a.arrow b.arrow) (λ x y. less_same a.arrow b.arrow x y.0) (λ x y. same_less a.arrow b.arrow x.0 y)
    (λ x y. apart x.1 y.1 (less_twice a.from b.from) (λ x y. less_same a.from b.from x y.0) (λ x y. same_less a.from b.from x.0 y)
    (λ x y. apart x.1 y.1 (less_twice a.out b.out) (λ x y. less_same a.out b.out x y.0) (λ x y. same_less a.out b.out x.0 y)
    (λ x y. apart x.1 y.1 (less_twice a.to b.to) (λ x y. less_same a.to b.to x y.0) (λ x y. same_less a.to b.to x.0 y)
    (λ x y. less_twice a.into b.into x.1 y.1))))

before_all : (w : Path) (ws : List Path) → AllPairs IsBefore (w ∷ ws) → (x : Path) → Contains ws x → IsBefore w x
before_all w ws h x c = subst (IsBefore w) c.2 (h 0 (suc c.0) x (omega arith) (let lt = c.1 in omega (arith, lt)))

rest_ordered : (w : Path) (ws : List Path) → AllPairs IsBefore (w ∷ ws) → AllPairs IsBefore ws
rest_ordered w ws h i j d less lt = h (suc i) (suc j) d (omega (arith, less)) (omega (arith, lt))

abbrev Same : List Path → List Path → Type 0
Same xs ys = (w : Path) → Contains xs w ↔ Contains ys w

first_same : (x y : Path) (xs ys : List Path) → AllPairs IsBefore (x ∷ xs) → AllPairs IsBefore (y ∷ ys) → Same (x ∷ xs) (y ∷ ys) → x ≡ y
first_same x y xs ys p q s = elim (cases_in y ys x ((s x).0 (first_in x xs))) [
  | inl same ↦ sym same
  | inr later ↦ elim (cases_in x xs y ((s y).1 (first_in y ys))) [
    | inl same ↦ same
    | inr other ↦ absurd (never_both x y (before_all x xs p y other) (before_all y ys q x later))
  ]
]

rest_in : (x : Path) (xs ys : List Path) → AllPairs IsBefore (x ∷ xs) → (w : Path) → Contains xs w → Contains (x ∷ ys) w → Contains ys w
rest_in x xs ys p w c d = elim (cases_in x ys w d) [
  | inl same ↦ let b = before_all x xs p w c in let e = subst (IsBefore x) (sym same) b in absurd (never_both x x e e)
  | inr later ↦ later
]

pub one_list : (xs ys : List Path) → AllPairs IsBefore xs → AllPairs IsBefore ys → Same xs ys → xs ≡ ys
one_list [] [] p q s = refl
one_list [] (y ∷ ys) p q s = none_in y ((s y).1 (first_in y ys))
one_list (x ∷ xs) [] p q s = none_in x ((s x).0 (first_in x xs))
one_list (x ∷ xs) (y ∷ ys) p q s =
    let e = first_same x y xs ys p q s in
    let q2 = subst (λ z. AllPairs IsBefore (z ∷ ys)) (sym e) q in
    let s2 = subst (λ z. Same (x ∷ xs) (z ∷ ys)) (sym e) s in
    ap (λ z. z ∷ xs) e ∙ ap (λ zs. y ∷ zs) (one_list xs ys (rest_ordered x xs p) (rest_ordered y ys q)
    (λ w. (λ c. rest_in x xs ys p w c ((s2 w).0 (later_in x xs w c)), λ c. rest_in x ys xs q2 w c ((s2 w).1 (later_in x ys w c)))))

-- connections have one list of paths
pub one_list_of_paths : (connections : List Connection) (xs ys : List Path) → ArePaths connections xs → ArePaths connections ys → xs ≡ ys
one_list_of_paths connections xs ys a b = one_list xs ys a.ascending b.ascending (λ w. (λ c. (b.all w).1 ((a.all w).0 c), λ c. (a.all w).1 ((b.all w).0 c)))

one_list_of_wires : (text : List ℕ) (connections : List Connection) (xs ys : List Wire) → AreWires text connections xs → AreWires text connections ys → xs ≡ ys
one_list_of_wires text connections xs ys a b = a.of_paths ∙ ap (map (wire_of text)) (one_list_of_paths connections a.paths b.paths a.are b.are) ∙ sym b.of_paths

ok_same : (s t : State) (r : Result State Fault) → r ≡ Ok s → r ≡ Ok t → s ≡ t
ok_same s t r a b = let e : Ok s ≡ Ok t = sym a ∙ b in cc

-- a text has one graph
pub one_graph : (text : List ℕ) (g h : Graph) → IsWalked text g → IsWalked text h → (g.elements.items ≡ h.elements.items) × (g.wires.items ≡ h.wires.items)
one_graph text g h a b =
    let e = ok_same a.state b.state (built_in text) a.walk b.walk in (
      a.elements ∙ ap (λ (s : State). s.elements) e ∙ sym b.elements,
      one_list_of_wires text (connections_in b.state) g.wires.items h.wires.items (subst (λ s. AreWires text (connections_in s) g.wires.items) e a.wires) b.wires,
    )
