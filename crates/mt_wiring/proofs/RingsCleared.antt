-- A node all of whose links lead to higher ranks is not reached from itself, where ranks fall along no link.
use Rattle.std.proofs.Common.{◌≡◌, ◌↔◌, ℕ, zero, suc, ◌+◌, ◌<◌, ◌≤◌, ◌⊎◌, inl, inr, Bool, true, false, List, [], ◌∷◌, ◌++◌, length, get_or, nat_lt, refl, sym, ap, ◌∙◌, subst, arith}
use Rattle.std.specs.Prelude.{Option, IfSome}
use Rattle.std.specs.List.{Contains}
use Rattle.std.proofs.lemmas.Bool.{false≢true}
use Rattle.std.proofs.lemmas.Bool.Decides.{nat_tests}
use Rattle.std.proofs.lemmas.Option.{slice_get-get_or}
use Rattle.mt_reach.specs.Reach.{targets_of, Reaches, here, on, AreBelow}
use Rattle.mt_wiring.specs.Pushes.{IsAmong, IsLowest, HasAtMost, HasLowered}
use Rattle.mt_wiring.specs.Numbers.{Returns, IsRingAt, AreClear, NeverFall}
use Rattle.mt_wiring.proofs.Pushing.{among_cases, among_all, lowest_of_all}

-- what is reached has no lower rank
reached_above : (graph : List (List ℕ)) (ranks : List ℕ) → NeverFall graph ranks → (a c : ℕ) → Reaches graph a c → get_or ranks a 0 ≤ get_or ranks c 0
reached_above graph ranks h _ _ (here _ a) = omega arith
reached_above graph ranks h _ _ (on _ a b c way link) =
    let before = reached_above graph ranks h a b way in
    let next = h b c link in
    omega (arith, before, next)

first_step : (graph : List (List ℕ)) (a c : ℕ) → Reaches graph a c → (a ≡ c) ⊎ ((b : ℕ) × Contains (targets_of graph a) b × Reaches graph b c)
first_step graph _ _ (here _ a) = inl refl
first_step graph _ _ (on _ a b c way link) = elim (first_step graph a b way) [
  | inl same ↦ inr (c, subst (λ x. Contains (targets_of graph x) c) (sym same) link, here graph c)
  | inr s ↦ inr (s.0, s.1, on graph s.0 b c s.2 link)
]

-- a node that returns has a link to a node of no higher rank
level : (graph : List (List ℕ)) (ranks : List ℕ) (n : ℕ) → NeverFall graph ranks → Returns graph n → (b : ℕ) × Contains (targets_of graph n) b × (get_or ranks b 0 ≤ get_or ranks n 0)
level graph ranks n h r = elim (first_step graph n r.last r.reached) [
  | inl same ↦ (n, subst (λ x. Contains (targets_of graph x) n) (sym same) r.link, omega arith)
  | inr s ↦ (s.0, s.1, (let back = reached_above graph ranks h s.0 r.last s.2 in let last = h r.last n r.link in omega (arith, back, last)))
]

pub not_level : (graph : List (List ℕ)) (ranks : List ℕ) (n rank least : ℕ) (targets : List ℕ) → NeverFall graph ranks → rank ≡ get_or ranks n 0 → targets ≡ targets_of graph n
    → ((b : ℕ) → Contains targets b → least ≤ get_or ranks b 0) → nat_lt rank least ≡ true → Returns graph n → ⊥
not_level graph ranks n rank least targets h is are low lt r =
    let b = level graph ranks n h r in
    let above = low b.0 (subst (λ ts. Contains ts b.0) (sym are) b.1) in
    let below = b.2 in
    let less : rank < least = grind (arith, nat_tests) in
    omega (arith, above, below, is, less)

pushed_cases : (xs : List Bool) (x : Bool) (n : ℕ) → get_or (xs ++ x ∷ []) n false ≡ true → (get_or xs n false ≡ true) ⊎ ((n ≡ length xs) × (x ≡ true))
pushed_cases [] x zero e = inr (refl, e)
pushed_cases [] x (suc n) e = inl e
pushed_cases (y ∷ ys) x zero e = inl e
pushed_cases (y ∷ ys) x (suc n) e = elim (pushed_cases ys x n e) [ inl old ↦ inl old | inr it ↦ inr (ap suc it.0, it.1) ]

-- one node more
pub clear_more : (graph : List (List ℕ)) (clear new : List Bool) (node : ℕ) (risen : Bool) → length clear ≡ node → new ≡ clear ++ risen ∷ [] → (risen ≡ true → Returns graph node → ⊥) → AreClear graph clear → AreClear graph new
clear_more graph clear new node risen len e is h n marked r = elim (pushed_cases clear risen n (ap (λ xs. get_or xs n false) (sym e) ∙ marked)) [
  | inl old ↦ h n old r
  | inr it ↦ is it.1 (subst (Returns graph) (it.0 ∙ len) r)
]

module _ (graph : List (List ℕ)) (ports : List (ℕ × ℕ)) where
  -- a port whose node returns
  pub ring_here : (at : ℕ) (d : ℕ × ℕ) → at < length ports → Returns graph at → IsAmong (IsRingAt graph) ports (length ports) (get_or ports at d).0
  ring_here at d lt r = record { place = at; below = lt; element = get_or ports at d; is = slice_get-get_or ports at d lt; related = (refl, r) }

  -- one port more
  pub least_more : (at : ℕ) (d : ℕ × ℕ) (old new : Option ℕ) → at < length ports → ((m : ℕ) → IsAmong (IsRingAt graph) ports at m → HasAtMost old m)
      → HasLowered (Returns graph at) (get_or ports at d).0 old new → (m : ℕ) → IsAmong (IsRingAt graph) ports (at + 1) m → HasAtMost new m
  least_more at d old new lt h l m among = elim (among_cases (IsRingAt graph) ports at (get_or ports at d) m (slice_get-get_or ports at d lt) among) [
    | inl before ↦ l.kept m (h m before)
    | inr r ↦ subst (HasAtMost new) r.0 (l.least r.1)
  ]

  -- all ports
  pub lowest_at_end : (at : ℕ) (r : Option ℕ) → length ports ≤ at → IfSome r (IsAmong (IsRingAt graph) ports (length ports)) → ((m : ℕ) → IsAmong (IsRingAt graph) ports at m → HasAtMost r m)
      → IsLowest (IsAmong (IsRingAt graph) ports (length ports)) r
  lowest_at_end at r le found least = lowest_of_all (IsAmong (IsRingAt graph) ports (length ports)) r found (λ m among. least m ((among_all (IsRingAt graph) ports at m le).1 among))

-- a clear node
pub not_back : (graph : List (List ℕ)) (clear : List Bool) (n : ℕ) (known : Bool) → AreClear graph clear → known ≡ get_or clear n false → known ≡ true → (false ≡ true) ↔ Returns graph n
not_back graph clear n known h is yes_known = (λ e. absurd (false≢true e), λ r. absurd (h n (sym is ∙ yes_known) r))

pub below_more : (n : ℕ) (seen : List ℕ) → AreBelow (n + 1) seen → AreBelow (n + 1 + 1) seen
below_more n seen h k = let lt = h k in omega (arith, lt)

-- the search from a node
pub found_back : (graph : List (List ℕ)) (n : ℕ) (nodes seen : List ℕ) (back : Bool) → seen ≡ nodes → ((k : ℕ) → Contains nodes k → Reaches graph n k) → ((k : ℕ) → Reaches graph n k → Contains nodes k)
    → (back ≡ true) ↔ ((k : ℕ) × Contains seen k × Contains (targets_of graph k) n) → (back ≡ true) ↔ Returns graph n
found_back graph n nodes seen back e sound complete is = (
  λ t. let m = is.0 t in record { last = m.0; reached = sound m.0 (subst (λ ns. Contains ns m.0) e m.1); link = m.2 },
  λ r. is.1 (r.last, subst (λ ns. Contains ns r.last) (sym e) (complete r.last r.reached), r.link),
)
