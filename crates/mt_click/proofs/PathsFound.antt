-- The paths that are found are the paths of the connections.
use Rattle.std.proofs.Common.{◌≡◌, ◌↔◌, ℕ, ◌+◌, ◌≤◌, ◌⊎◌, inl, inr, List, [], ◌∷◌, ◌++◌, length, slice_get, Option, Some, None, sym, ap, ◌∙◌, subst, arith}
use Rattle.std.specs.List.{Contains}
use Rattle.std.proofs.lemmas.Option.{slice_get_within}
use Rattle.std.proofs.lemmas.List.Elements.{Contains-append_left, Contains-append_right, Contains-append_cases}
use Rattle.std.proofs.lemmas.Bool.{cases_lt}
use Rattle.mt_lists.proofs.Members.{first_in, later_in, cases_in, none_in}
use Rattle.mt_reach.specs.Reach.{targets_of, Reaches}
use Rattle.mt_click.specs.declared.connections.Port.{Port}
use Rattle.mt_click.specs.declared.connections.Port.TheVariants as port_kinds
use Rattle.mt_click.specs.declared.connections.Connection.{Connection}
use Rattle.mt_click.specs.declared.connections.Path.{Path}
use Rattle.mt_click.specs.Networks.{StandsAt, IsNetwork}
use Rattle.mt_click.specs.Searched.{ending, endings, IsFound, IsPathBelow}
use Rattle.mt_click.specs.Wires.{Leads, IsPath}
use Rattle.mt_click.proofs.NetworkNumbers.{some_same, member, contained, sound, complete}

-- a path that ends at a port of an element
pub record Ends (first : Path) (p : Option Port) (w : Path) : Type 0 where
  pub at : p ≡ Some (port_kinds.Input w.to w.into)
  pub arrow : first.arrow ≡ w.arrow
  pub from : first.from ≡ w.from
  pub out : first.out ≡ w.out

ends_only : (first : Path) (p : Option Port) (w : Path) → Contains (ending first p) w → Ends first p w
ends_only first None w c = none_in w c
ends_only first (Some (port_kinds.Output n k)) w c = none_in w c
ends_only first (Some (port_kinds.UseOutput n k)) w c = none_in w c
ends_only first (Some (port_kinds.UseInput n k)) w c = none_in w c
ends_only first (Some (port_kinds.Input n k)) w c = elim (cases_in _ [] w c) [
  | inl same ↦ record {
    at = ap (λ (x : Path). Some (port_kinds.Input x.to x.into)) same;
    arrow = ap (λ (x : Path). x.arrow) same;
    from = ap (λ (x : Path). x.from) same;
    out = ap (λ (x : Path). x.out) same;
  }
  | inr none ↦ none_in w none
]

ends_all : (first : Path) (p : Option Port) (w : Path) → Ends first p w → Contains (ending first p) w
ends_all first p w e = subst (λ x. Contains (ending first x) w) (sym e.at) (subst (Contains (ending first (Some (port_kinds.Input w.to w.into)))) same (first_in _ []))
  where
    same : record { arrow = first.arrow; from = first.from; out = first.out; to = w.to; into = w.into } ≡ w
    same = ap (λ x. record { arrow = x; from = first.from; out = first.out; to = w.to; into = w.into }) e.arrow
        ∙ ap (λ x. record { arrow = w.arrow; from = x; out = first.out; to = w.to; into = w.into }) e.from
        ∙ ap (λ x. record { arrow = w.arrow; from = w.from; out = x; to = w.to; into = w.into }) e.out

pub endings_only : (first : Path) (ports : List Port) (order : List ℕ) (w : Path) → Contains (endings first ports order) w → (n : ℕ) × Contains order n × Ends first (slice_get ports n) w
unfolding endings
endings_only first ports [] w c = none_in w c
endings_only first ports (n ∷ ns) w c = elim (Contains-append_cases (ending first (slice_get ports n)) (endings first ports ns) w c) [
  | inl here ↦ (n, first_in n ns, ends_only first (slice_get ports n) w here)
  | inr later ↦ let m = endings_only first ports ns w later in (m.0, later_in n ns m.0 m.1, m.2)
]

pub endings_all : (first : Path) (ports : List Port) (order : List ℕ) (w : Path) (n : ℕ) → Contains order n → Ends first (slice_get ports n) w → Contains (endings first ports order) w
unfolding endings
endings_all first ports [] w n c e = none_in n c
endings_all first ports (m ∷ ns) w n c e = elim (cases_in m ns n c) [
  | inl same ↦ Contains-append_left (ending first (slice_get ports m)) (endings first ports ns) w (ends_all first (slice_get ports m) w (subst (λ k. Ends first (slice_get ports k) w) (sym same) e))
  | inr later ↦ Contains-append_right (ending first (slice_get ports m)) (endings first ports ns) w (endings_all first ports ns w n later e)
]

abbrev pub OldOrFound : List Port → List (List ℕ) → ℕ → Connection → List Path → Path → Type 0
OldOrFound ports graph start connection old w = Contains old w ⊎ IsFound ports graph start connection w

output_same : (a b c d : ℕ) → port_kinds.Output a b ≡ port_kinds.Output c d → (a ≡ c) × (b ≡ d)
output_same a b c d e = (ap from_of e, ap out_of e)
  where
    from_of : Port → ℕ
    from_of (port_kinds.Output x y) = x
    from_of _ = 0

    out_of : Port → ℕ
    out_of (port_kinds.Output x y) = y
    out_of _ = 0

-- a connection that leaves an element
pub found_paths : (ports : List Port) (graph : List (List ℕ)) (start : ℕ) (connection : Connection) (from out : ℕ) (first : Path) (order : List ℕ) (old new : List Path)
    → connection.from ≡ port_kinds.Output from out → first.arrow ≡ connection.arrow → first.from ≡ from → first.out ≡ out
    → ((n : ℕ) → Contains order n → Reaches graph start n) → ((n : ℕ) → Reaches graph start n → Contains order n) → new ≡ old ++ endings first ports order
    → (w : Path) → Contains new w ↔ OldOrFound ports graph start connection old w
found_paths ports graph start connection from out first order old new is arrow ef eo sound complete all w = (only, back)
  where
    only : Contains new w → OldOrFound ports graph start connection old w
    only c = elim (Contains-append_cases old (endings first ports order) w (subst (λ xs. Contains xs w) all c)) [
      | inl o ↦ inl o
      | inr e ↦
          let x = endings_only first ports order w e in
          inr (record {
            number = x.0;
            reached = sound x.0 x.1;
            stands = x.2.at;
            arrow = sym arrow ∙ x.2.arrow;
            leaves = is ∙ ap (λ k. port_kinds.Output k out) (sym ef ∙ x.2.from) ∙ ap (λ k. port_kinds.Output w.from k) (sym eo ∙ x.2.out);
          })
    ]

    back : OldOrFound ports graph start connection old w → Contains new w
    back (inl o) = subst (λ xs. Contains xs w) (sym all) (Contains-append_left old (endings first ports order) w o)
    back (inr f) =
        let q = output_same from out w.from w.out (sym is ∙ f.leaves) in
        let e : Ends first (slice_get ports f.number) w = record { at = f.stands; arrow = arrow ∙ f.arrow; from = ef ∙ q.0; out = eo ∙ q.1 } in
        subst (λ xs. Contains xs w) (sym all) (Contains-append_right old (endings first ports order) w (endings_all first ports order w f.number (complete f.number f.reached) e))

-- any other connection
pub no_paths : (ports : List Port) (graph : List (List ℕ)) (start : ℕ) (connection : Connection) (old : List Path) → ((a b : ℕ) → connection.from ≡ port_kinds.Output a b → ⊥) → (w : Path) → Contains old w ↔ OldOrFound ports graph start connection old w
no_paths ports graph start connection old none w = (λ c. inl c, back)
  where
    back : OldOrFound ports graph start connection old w → Contains old w
    back (inl o) = o
    back (inr f) = absurd (none w.from w.out f.leaves)

module _ (ports : List Port) (connections : List Connection) (pairs : List (ℕ × ℕ)) (net : IsNetwork ports connections pairs) (graph : List (List ℕ))
    (exact : (a b : ℕ) → Contains (targets_of graph a) b ↔ Contains pairs (a, b)) where
  -- one connection on
  pub paths_more : (at : ℕ) (connection : Connection) (pair : ℕ × ℕ) (old new : List Path) → slice_get connections at ≡ Some connection → slice_get pairs at ≡ Some pair
      → ((w : Path) → Contains old w ↔ IsPathBelow connections at w) → ((w : Path) → Contains new w ↔ OldOrFound ports graph pair.1 connection old w)
      → (w : Path) → Contains new w ↔ IsPathBelow connections (at + 1) w
  paths_more at connection pair old new il ip before found w = (only, back)
    where
      stands : StandsAt ports pair.1 connection.to
      stands = (net.each at connection pair il ip).1

      only : Contains new w → IsPathBelow connections (at + 1) w
      only c = elim ((found w).0 c) [
        | inl o ↦
            let b = (before w).0 o in
            record { index = b.index; below = (let lt = b.below in omega (arith, lt)); first = b.first; is = b.is; arrow = b.arrow; leaves = b.leaves; leads = b.leads }
        | inr f ↦
            let q = sound ports connections pairs net graph exact pair.1 f.number connection.to f.reached stands in
            let same : q.0 ≡ port_kinds.Input w.to w.into = some_same q.0 (port_kinds.Input w.to w.into) (sym q.1 ∙ f.stands) in
            record { index = at; below = omega arith; first = connection; is = il; arrow = f.arrow; leaves = f.leaves; leads = subst (Leads connections connection.to) same q.2 }
      ]

      back : IsPathBelow connections (at + 1) w → Contains new w
      back b = elim (cases_lt b.index at) [
        | inl earlier ↦ (found w).1 (inl ((before w).1 (record { index = b.index; below = earlier; first = b.first; is = b.is; arrow = b.arrow; leaves = b.leaves; leads = b.leads })))
        | inr last ↦
            let n : b.index ≡ at = (let lt = b.below in omega (arith, lt, last)) in
            let same : b.first ≡ connection = some_same b.first connection (sym b.is ∙ ap (slice_get connections) n ∙ il) in
            let leads : Leads connections connection.to (port_kinds.Input w.to w.into) = subst (λ (x : Connection). Leads connections x.to (port_kinds.Input w.to w.into)) same b.leads in
            let q = complete ports connections pairs net graph exact pair.1 connection.to (port_kinds.Input w.to w.into) leads stands in
            (found w).1 (inr (record {
              number = q.0;
              reached = q.2;
              stands = q.1;
              arrow = subst (λ (x : Connection). x.arrow ≡ w.arrow) same b.arrow;
              leaves = subst (λ (x : Connection). x.from ≡ port_kinds.Output w.from w.out) same b.leaves;
            }))
      ]

-- no connection at all
pub paths_none : (connections : List Connection) (paths : List Path) → paths ≡ [] → (w : Path) → Contains paths w ↔ IsPathBelow connections 0 w
paths_none connections paths e w = (λ c. none_in w (subst (λ xs. Contains xs w) e c), λ b. absurd (let lt = b.below in omega (arith, lt)))

-- all connections
pub paths_all : (connections : List Connection) (paths : List Path) (at : ℕ) → length connections ≤ at → ((w : Path) → Contains paths w ↔ IsPathBelow connections at w) → (w : Path) → Contains paths w ↔ IsPath connections w
paths_all connections paths at le h w = (only, back)
  where
    only : Contains paths w → IsPath connections w
    only c =
        let b = (h w).0 c in
        record { first = b.first; there = contained connections b.index b.first b.is; arrow = b.arrow; leaves = b.leaves; leads = b.leads }

    back : IsPath connections w → Contains paths w
    back i =
        let m = member connections i.first i.there in
        let lt = slice_get_within connections m.0 i.first m.1 in
        (h w).1 (record { index = m.0; below = omega (arith, lt, le); first = i.first; is = m.1; arrow = i.arrow; leaves = i.leaves; leads = i.leads })

-- the graph of the pairs, read through references
pub graph_exact : (graph seen_graph : List (List ℕ)) (seen pairs : List (ℕ × ℕ)) → seen_graph ≡ graph → seen ≡ pairs → ((a b : ℕ) → Contains (targets_of graph a) b ↔ Contains seen (a, b))
    → (a b : ℕ) → Contains (targets_of seen_graph a) b ↔ Contains pairs (a, b)
graph_exact graph seen_graph seen pairs eg ep h a b = (
  λ c. subst (λ xs. Contains xs (a, b)) ep ((h a b).0 (subst (λ g. Contains (targets_of g a) b) eg c)),
  λ c. subst (λ g. Contains (targets_of g a) b) (sym eg) ((h a b).1 (subst (λ xs. Contains xs (a, b)) (sym ep) c)),
)
