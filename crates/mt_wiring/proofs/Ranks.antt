-- Ranks of input ports: the length of a longest walk of so many wires.
use Rattle.std.proofs.Common.{◌≡◌, ℕ, zero, suc, ◌+◌, ◌≤◌, inl, inr, List, [], ◌∷◌, length, map, Bool, true, false, cond, ◌&&◌, ◌==◌, nat_lt, refl, sym, ap, subst, arith}
use Rattle.std.specs.List.{Contains}
use Rattle.std.proofs.lemmas.Bool.Decides.{nat_tests}
use Rattle.std.proofs.lemmas.List.{length-map}
use Rattle.mt_lists.proofs.Members.{first_in, later_in, cases_in, none_in}
use Rattle.mt_graph.specs.declared.Wire.{Wire}
use Rattle.mt_wiring.specs.Ways.{target, IsLeft, IsStep, Passes, one, on, OnRing, IsRank}
use Rattle.mt_wiring.proofs.Counts.{Apart, at_most}

module _ (leads : ℕ → ℕ → ℕ → Bool) (wires : List Wire) where
  -- wires, each of which leaves the port to which the one before it leads
  IsWalk : ℕ × ℕ → List Wire → Type 0
  IsWalk p [] = Unit {0}
  IsWalk p (w ∷ ws) = IsStep leads wires p w × IsWalk (target w) ws

  is_left : ℕ × ℕ → Wire → Bool
  is_left p w = (w.from == p.0) && leads p.0 p.1 w.out

  longer : List Wire → List Wire → List Wire
  longer a b = cond (nat_lt (length a) (length b)) b a

  -- the longest of the walks that begin with one of some wires
  best : (Wire → List Wire) → ℕ × ℕ → List Wire → List Wire
  best next p [] = []
  best next p (w ∷ ws) = longer (cond (is_left p w) (w ∷ next w) []) (best next p ws)

  longest : ℕ → ℕ × ℕ → List Wire
  longest zero p = []
  longest (suc n) p = best (λ w. longest n (target w)) p wires

  left_is : (p : ℕ × ℕ) (w : Wire) → is_left p w ≡ true → IsLeft leads p w
  unfolding is_left
  left_is p w h = grind (arith, nat_tests)

  is_left_from : (p : ℕ × ℕ) (w : Wire) → IsLeft leads p w → is_left p w ≡ true
  unfolding is_left
  is_left_from p w h = let e = h.0 in let l = h.1 in grind (arith, nat_tests)

  -- what holds of both holds of the longer
  of_longer : (P : List Wire → Type 0) (a b : List Wire) → P a → P b → P (longer a b)
  unfolding longer
  of_longer P a b pa pb = by (nat_lt (length a) (length b))
    where
      by : (t : Bool) → P (cond t b a)
      by true = pb
      by false = pa

  not_shorter : (a b : List Wire) → (length a ≤ length (longer a b)) × (length b ≤ length (longer a b))
  unfolding longer
  not_shorter a b = by (nat_lt (length a) (length b)) refl
    where
      by : (t : Bool) → nat_lt (length a) (length b) ≡ t → (length a ≤ length (cond t b a)) × (length b ≤ length (cond t b a))
      by true e = (grind (arith, nat_tests), omega arith)
      by false e = (omega arith, grind (arith, nat_tests))

  best_walks : (next : Wire → List Wire) (p : ℕ × ℕ) (ws : List Wire) → ((w : Wire) → IsWalk (target w) (next w)) → ((w : Wire) → Contains ws w → Contains wires w) → IsWalk p (best next p ws)
  unfolding IsWalk best
  best_walks next p [] h within = tt
  best_walks next p (w ∷ ws) h within =
      of_longer (IsWalk p) (cond (is_left p w) (w ∷ next w) []) (best next p ws) (by (is_left p w) refl) (best_walks next p ws h (λ v c. within v (later_in w ws v c)))
    where
      by : (t : Bool) → is_left p w ≡ t → IsWalk p (cond t (w ∷ next w) [])
      by true e = (record { there = within w (first_in w ws); left = left_is p w e }, h w)
      by false e = tt

  best_long : (next : Wire → List Wire) (p : ℕ × ℕ) (ws : List Wire) (w : Wire) → Contains ws w → IsLeft leads p w → length (next w) + 1 ≤ length (best next p ws)
  unfolding best
  best_long next p [] w c l = none_in w c
  best_long next p (v ∷ vs) w c l = elim (cases_in v vs w c) [
    | inl same ↦
        let first : cond (is_left p v) (v ∷ next v) [] ≡ v ∷ next v = ap (λ t. cond t (v ∷ next v) []) (is_left_from p v (subst (IsLeft leads p) (sym same) l)) in
        let a = (not_shorter (cond (is_left p v) (v ∷ next v) []) (best next p vs)).0 in
        let b = ap length first in
        let c = ap (λ x. length (next x)) same in
        omega (arith, a, b, c)
    | inr later ↦
        let a = (not_shorter (cond (is_left p v) (v ∷ next v) []) (best next p vs)).1 in
        let b = best_long next p vs w later l in
        omega (arith, a, b)
  ]

  longest_walks : (n : ℕ) (p : ℕ × ℕ) → IsWalk p (longest n p)
  unfolding longest IsWalk
  longest_walks zero p = tt
  longest_walks (suc n) p = best_walks (λ w. longest n (target w)) p wires (λ w. longest_walks n (target w)) (λ w c. c)

  is_longest : (n : ℕ) (p : ℕ × ℕ) (ws : List Wire) → IsWalk p ws → length ws ≤ n → length ws ≤ length (longest n p)
  unfolding longest IsWalk
  is_longest n p [] h le = omega arith
  is_longest zero p (w ∷ ws) h le = absurd (omega (arith, le))
  is_longest (suc n) p (w ∷ ws) h le =
      let rest = is_longest n (target w) ws h.1 (omega (arith, le)) in
      let step = best_long (λ v. longest n (target v)) p wires w h.0.there h.0.left in
      omega (arith, rest, step)

  -- a walk passes to each port to which its wires lead
  passed_later : (p q : ℕ × ℕ) (ws : List Wire) → Passes leads wires p q → IsWalk q ws → (r : ℕ × ℕ) → Contains (map target ws) r → Passes leads wires p r
  unfolding IsWalk
  passed_later p q [] way h r c = none_in r c
  passed_later p q (w ∷ ws) way h r c =
      let next : Passes leads wires p (target w) = on leads wires p q (target w) w way h.0 refl in
      elim (cases_in (target w) (map target ws) r c) [
        | inl same ↦ subst (Passes leads wires p) same next
        | inr later ↦ passed_later p (target w) ws next h.1 r later
      ]

  passed : (p : ℕ × ℕ) (ws : List Wire) → IsWalk p ws → (r : ℕ × ℕ) → Contains (map target ws) r → Passes leads wires p r
  unfolding IsWalk
  passed p [] h r c = none_in r c
  passed p (w ∷ ws) h r c =
      let next : Passes leads wires p (target w) = one leads wires p (target w) w h.0 refl in
      elim (cases_in (target w) (map target ws) r c) [
        | inl same ↦ subst (Passes leads wires p) same next
        | inr later ↦ passed_later p (target w) ws next h.1 r later
      ]

  targets_there : (p : ℕ × ℕ) (ws : List Wire) → IsWalk p ws → (r : ℕ × ℕ) → Contains (map target ws) r → Contains (map target wires) r
  unfolding IsWalk
  targets_there p [] h r c = none_in r c
  targets_there p (w ∷ ws) h r c = elim (cases_in (target w) (map target ws) r c) [
    | inl same ↦ subst (Contains (map target wires)) same (mapped wires w h.0.there)
    | inr later ↦ targets_there (target w) ws h.1 r later
  ]
    where
      mapped : (xs : List Wire) (x : Wire) → Contains xs x → Contains (map target xs) (target x)
      mapped [] x m = none_in x m
      mapped (y ∷ ys) x m = elim (cases_in y ys x m) [
        | inl same ↦ subst (λ z. Contains (map target (y ∷ ys)) (target z)) same (first_in (target y) (map target ys))
        | inr later ↦ later_in (target y) (map target ys) (target x) (mapped ys x later)
      ]

  module _ (none : (element : ℕ) → OnRing leads wires element → ⊥) where
    walk_apart : (p : ℕ × ℕ) (ws : List Wire) → IsWalk p ws → Apart (map target ws)
    unfolding IsWalk Apart
    walk_apart p [] h = tt
    walk_apart p (w ∷ ws) h = (λ c. none w.to (w.into, passed (target w) ws h.1 (target w) c), walk_apart (target w) ws h.1)

    walk_short : (p : ℕ × ℕ) (ws : List Wire) → IsWalk p ws → length ws ≤ length wires
    walk_short p ws h =
        let most = at_most (map target ws) (map target wires) (walk_apart p ws h) (targets_there p ws h) in
        let a = length-map ws target in
        let b = length-map wires target in
        omega (arith, most, a, b)

    pub ranked : (rank : ℕ × ℕ → ℕ) × IsRank leads wires rank
    unfolding IsWalk
    ranked = (
      λ p. length (longest (length wires) p),
      record {
        falls = λ p w s.
            let walk : IsWalk p (w ∷ longest (length wires) (target w)) = (s, longest_walks (length wires) (target w)) in
            let le = is_longest (length wires) p (w ∷ longest (length wires) (target w)) walk (walk_short p (w ∷ longest (length wires) (target w)) walk) in
            omega (arith, le);
        bounded = λ p. walk_short p (longest (length wires) p) (longest_walks (length wires) p);
      },
    )
