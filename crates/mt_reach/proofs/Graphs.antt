-- A graph has the links that it was made of.
use Rattle.std.proofs.Common.{◌≡◌, ◌↔◌, ℕ, ◌<◌, ◌⊎◌, inl, inr, List, [], ◌∷◌, ◌++◌, length, sym, ap, ◌∙◌, subst, arith}
use Rattle.std.specs.List.{Contains}
use Rattle.std.proofs.Common.{get_or-set_other, get_or-set_same}
use Rattle.std.proofs.lemmas.Bool.Decides.{eqb_tells}
use Rattle.std.proofs.lemmas.List.{length-set}
use Rattle.std.proofs.lemmas.List.Elements.{Contains-append_left, Contains-push, Contains-push_cases}
use Rattle.mt_lists.proofs.Members.{first_in, later_in, cases_in, none_in}
use Rattle.mt_reach.specs.Reach.{targets_of, AreWithin, AreBetween, with_link, linked}

-- between nodes, also without the first
pub between_rest : (l : ℕ × ℕ) (ls : List (ℕ × ℕ)) (count : ℕ) → AreBetween (l ∷ ls) count → AreBetween ls count
between_rest l ls count h x c = h x (later_in l ls x c)

pub between_first : (l : ℕ × ℕ) (ls : List (ℕ × ℕ)) (count : ℕ) → AreBetween (l ∷ ls) count → l.0 < count
between_first l ls count h = (h l (first_in l ls)).0

abbrev pub Has : List (List ℕ) → ℕ → ℕ → Type 0
Has graph a b = Contains (targets_of graph a) b

same_node : (graph : List (List ℕ)) (l : ℕ × ℕ) → l.0 < length graph → targets_of (with_link graph l) l.0 ≡ targets_of graph l.0 ++ l.1 ∷ []
same_node graph l lt = get_or-set_same graph l.0 (targets_of graph l.0 ++ l.1 ∷ []) [] lt

other_node : (graph : List (List ℕ)) (l : ℕ × ℕ) (a : ℕ) → (a ≡ l.0 → ⊥) → targets_of (with_link graph l) a ≡ targets_of graph a
other_node graph l a ne = get_or-set_other graph l.0 a (targets_of graph l.0 ++ l.1 ∷ []) [] ne

one_kept : (graph : List (List ℕ)) (l : ℕ × ℕ) (a b : ℕ) → l.0 < length graph → Has graph a b → Has (with_link graph l) a b
one_kept graph l a b lt h = elim (eqb_tells a l.0) [
  | inl same ↦
      let e : targets_of (with_link graph l) a ≡ targets_of graph a ++ l.1 ∷ [] = subst (λ k. targets_of (with_link graph l) k ≡ targets_of graph k ++ l.1 ∷ []) (sym same.1) (same_node graph l lt) in
      subst (λ xs. Contains xs b) (sym e) (Contains-append_left (targets_of graph a) (l.1 ∷ []) b h)
  | inr other ↦ subst (λ xs. Contains xs b) (sym (other_node graph l a other.1)) h
]

one_new : (graph : List (List ℕ)) (l : ℕ × ℕ) → l.0 < length graph → Has (with_link graph l) l.0 l.1
one_new graph l lt = subst (λ xs. Contains xs l.1) (sym (same_node graph l lt)) (Contains-push (targets_of graph l.0) l.1)

one_only : (graph : List (List ℕ)) (l : ℕ × ℕ) (a b : ℕ) → l.0 < length graph → Has (with_link graph l) a b → Has graph a b ⊎ (l ≡ (a, b))
one_only graph l a b lt h = elim (eqb_tells a l.0) [
  | inl same ↦
      let e : targets_of (with_link graph l) a ≡ targets_of graph a ++ l.1 ∷ [] = subst (λ k. targets_of (with_link graph l) k ≡ targets_of graph k ++ l.1 ∷ []) (sym same.1) (same_node graph l lt) in
      elim (Contains-push_cases (targets_of graph a) l.1 b (subst (λ xs. Contains xs b) e h)) [
        | inl old ↦ inl old
        | inr new ↦ inr (let f : (l.0, l.1) ≡ (a, b) = ap (λ x. (x, l.1)) (sym same.1) ∙ ap (λ x. (a, x)) new in f)
      ]
  | inr other ↦ inl (subst (λ xs. Contains xs b) (other_node graph l a other.1) h)
]

-- all links that were there, and all that come
pub kept : (links : List (ℕ × ℕ)) (graph : List (List ℕ)) (a b : ℕ) → AreBetween links (length graph) → Has graph a b → Has (linked graph links) a b
unfolding linked
kept [] graph a b w h = h
kept (l ∷ ls) graph a b w h =
    let lt = between_first l ls (length graph) w in
    kept ls (with_link graph l) a b (subst (AreBetween ls) (sym (length-set graph l.0 (targets_of graph l.0 ++ l.1 ∷ []))) (between_rest l ls (length graph) w)) (one_kept graph l a b lt h)

pub all_there : (links : List (ℕ × ℕ)) (graph : List (List ℕ)) (a b : ℕ) → AreBetween links (length graph) → Contains links (a, b) → Has (linked graph links) a b
unfolding linked
all_there [] graph a b w h = none_in (a, b) h
all_there (l ∷ ls) graph a b w h =
    let lt = between_first l ls (length graph) w in
    let more = subst (AreBetween ls) (sym (length-set graph l.0 (targets_of graph l.0 ++ l.1 ∷ []))) (between_rest l ls (length graph) w) in
    elim (cases_in l ls (a, b) h) [
      | inl same ↦ kept ls (with_link graph l) a b more (subst (λ (x : ℕ × ℕ). Has (with_link graph l) x.0 x.1) same (one_new graph l lt))
      | inr later ↦ all_there ls (with_link graph l) a b more later
    ]

-- and no others
pub only : (links : List (ℕ × ℕ)) (graph : List (List ℕ)) (a b : ℕ) → AreBetween links (length graph) → Has (linked graph links) a b → Has graph a b ⊎ Contains links (a, b)
unfolding linked
only [] graph a b w h = inl h
only (l ∷ ls) graph a b w h =
    let lt = between_first l ls (length graph) w in
    let more = subst (AreBetween ls) (sym (length-set graph l.0 (targets_of graph l.0 ++ l.1 ∷ []))) (between_rest l ls (length graph) w) in
    elim (only ls (with_link graph l) a b more h) [
      | inl new ↦ elim (one_only graph l a b lt new) [
        | inl old ↦ inl old
        | inr same ↦ inr (subst (Contains (l ∷ ls)) same (first_in l ls))
      ]
      | inr later ↦ inr (later_in l ls (a, b) later)
    ]

-- a graph that begins with no links
pub exactly : (links : List (ℕ × ℕ)) (graph : List (List ℕ)) → ((a : ℕ) → targets_of graph a ≡ []) → AreBetween links (length graph) → (a b : ℕ) → Has (linked graph links) a b ↔ Contains links (a, b)
exactly links graph none w a b = (λ h. by (only links graph a b w h), λ h. all_there links graph a b w h)
  where
    by : Has graph a b ⊎ Contains links (a, b) → Contains links (a, b)
    by (inl old) = none_in b (subst (λ xs. Contains xs b) (none a) old)
    by (inr h) = h

pub within : (links : List (ℕ × ℕ)) (graph : List (List ℕ)) (count : ℕ) → ((a b : ℕ) → Has graph a b ↔ Contains links (a, b)) → AreBetween links count → AreWithin graph count
within links graph count exact w a b h = (w (a, b) ((exact a b).0 h)).1

-- all links have come
pub ended : (graph start : List (List ℕ)) (rest links : List (ℕ × ℕ)) → length rest < 1 → linked graph rest ≡ linked start links → graph ≡ linked start links
unfolding linked
ended graph start [] links lt e = e
ended graph start (l ∷ ls) links lt e = absurd (omega arith)

pub has_links : (graph start : List (List ℕ)) (rest links : List (ℕ × ℕ)) (count : ℕ) → length rest < 1 → linked graph rest ≡ linked start links → length start ≡ count → ((a : ℕ) → targets_of start a ≡ []) → AreBetween links count
    → (a b : ℕ) → Has graph a b ↔ Contains links (a, b)
has_links graph start rest links count lt e len none w a b =
    subst (λ g. Has g a b ↔ Contains links (a, b)) (sym (ended graph start rest links lt e)) (exactly links start none (subst (AreBetween links) (sym len) w) a b)
