-- The wires that leave an element are those at its places.
use Rattle.std.proofs.Common.{◌≡◌, ◌↔◌, ℕ, suc, ◌+◌, ◌<◌, ◌≤◌, inl, inr, List, [], ◌∷◌, ◌++◌, length, get_or, slice_get, Some, IfOk, refl, sym, ap, ◌∙◌, subst, arith}
use Rattle.std.specs.Prelude.{Result, Ok, Err, max}
use Rattle.std.specs.List.{Contains}
use Rattle.std.proofs.lemmas.Bool.{cases_lt}
use Rattle.std.proofs.lemmas.List.Elements.{Contains-append_left, Contains-push_cases}
use Rattle.std.proofs.lemmas.Option.{slice_get-get_or, slice_get_within}
use Rattle.mt_graph.specs.declared.Wire.{Wire}
use Rattle.mt_reach.specs.Reach.{targets_of, AreBetween}
use Rattle.mt_wiring.specs.Leaving.{IsExit, LeaveAll, AreLeaving}
use Rattle.mt_wiring.specs.Pushes.{HasPushed, IsAmong}
use Rattle.mt_wiring.proofs.Counts.{member, contained}
use Rattle.mt_wiring.proofs.Pushing.{some_same, pushed_more}

-- ---- exits

-- a wire leaves an element at its place
abbrev pub LeavesAt : ℕ → Wire → ℕ × ℕ → Type 0
LeavesAt place w exit = (w.from, place) ≡ exit

pub pushed_one : {X : Type 0} (old new : List X) (x : X) → new ≡ old ++ x ∷ [] → HasPushed old new (λ y. x ≡ y)
pushed_one old new x e = subst (λ ys. HasPushed old ys (λ y. x ≡ y)) (sym e) (record {
  kept = λ y c. Contains-append_left old (x ∷ []) y c;
  only = λ y c. Contains-push_cases old x y c;
  all = λ y same. subst (Contains (old ++ x ∷ [])) same (last old);
})
  where
    last : (xs : List _) → Contains (xs ++ x ∷ []) x
    last [] = (0, omega arith, refl)
    last (z ∷ zs) = let c = last zs in (suc c.0, (let lt = c.1 in omega (arith, lt)), c.2)

pub exits_more : (wires : List Wire) (at : ℕ) (d : Wire) (here new : List (ℕ × ℕ)) → at < length wires → new ≡ here ++ ((get_or wires at d).from, at) ∷ []
    → HasPushed [] here (IsAmong LeavesAt wires at) → HasPushed [] new (IsAmong LeavesAt wires (at + 1))
exits_more wires at d here new lt e h =
    pushed_more LeavesAt wires at (get_or wires at d) [] here new (λ exit. ((get_or wires at d).from, at) ≡ exit) (slice_get-get_or wires at d lt)
    (λ x. (λ p. p, λ p. p)) h (pushed_one here new ((get_or wires at d).from, at) e)

pub exits_only : (wires : List Wire) (at : ℕ) (exits : List (ℕ × ℕ)) → HasPushed [] exits (IsAmong LeavesAt wires at) → (element place : ℕ) → Contains exits (element, place) → IsExit wires element place
exits_only wires at exits h element place c = elim (h.only (element, place) c) [
  | inl none ↦ absurd (let lt = none.1 in omega (arith, lt))
  | inr m ↦
      let same : m.place ≡ place = ap (λ (x : ℕ × ℕ). x.1) m.related in
      record { wire = m.element; is = subst (λ k. slice_get wires k ≡ Some m.element) same m.is; leaves = ap (λ (x : ℕ × ℕ). x.0) m.related }
]

pub exits_all : (wires : List Wire) (at : ℕ) (exits : List (ℕ × ℕ)) → length wires ≤ at → HasPushed [] exits (IsAmong LeavesAt wires at) → (element place : ℕ) → IsExit wires element place → Contains exits (element, place)
exits_all wires at exits le h element place x =
    let lt = slice_get_within wires place x.wire x.is in
    h.all (element, place) (record { place = place; below = omega (arith, lt, le); element = x.wire; is = x.is; related = ap (λ n. (n, place)) x.leaves })

-- ---- a number above those of elements

pub record IsAbove (wires : List Wire) (at count : ℕ) : Type 0 where
  pub long : length wires ≤ count
  pub elements : (element place : ℕ) → place < at → IsExit wires element place → element < count

pub above_begins : (wires : List Wire) (count : ℕ) → count ≡ length wires → IsAbove wires 0 count
above_begins wires count e = record { long = omega (arith, e); elements = λ element place lt. absurd (omega (arith, lt)) }

pub above_more : (wires : List Wire) (at : ℕ) (d : Wire) (count new : ℕ) → at < length wires → new ≡ max count ((get_or wires at d).from + 1) → IsAbove wires at count → IsAbove wires (at + 1) new
above_more wires at d count new lt most h = record {
  long = (let w = h.long in omega (arith, w, most));
  elements = λ element place below x. elim (cases_lt place at) [
    | inl before ↦ (let e = h.elements element place before x in omega (arith, e, most))
    | inr here ↦
        let same : place ≡ at = omega (arith, below, here) in
        let wire : x.wire ≡ get_or wires at d = some_same x.wire (get_or wires at d) (sym x.is ∙ ap (slice_get wires) same ∙ slice_get-get_or wires at d lt) in
        let from : (get_or wires at d).from ≡ element = ap (λ (w : Wire). w.from) (sym wire) ∙ x.leaves in
        omega (arith, from, most)
  ];
}

pub above_all : (wires : List Wire) (at count : ℕ) → length wires ≤ at → IsAbove wires at count → (element place : ℕ) → IsExit wires element place → element < count
above_all wires at count le h element place x =
    let lt = slice_get_within wires place x.wire x.is in
    h.elements element place (omega (arith, lt, le)) x

-- ---- places by element

pub exits_between : (wires : List Wire) (exits seen : List (ℕ × ℕ)) (count : ℕ) → seen ≡ exits → ((element place : ℕ) → Contains exits (element, place) → IsExit wires element place) → length wires ≤ count
    → ((element place : ℕ) → IsExit wires element place → element < count) → AreBetween seen count
exits_between wires exits seen count same only long above link c =
    let x = only link.0 link.1 (subst (λ ls. Contains ls link) same c) in
    let lt = slice_get_within wires link.1 x.wire x.is in
    (above link.0 link.1 x, omega (arith, lt, long))

pub groups_are : (wires : List Wire) (exits seen : List (ℕ × ℕ)) (groups : List (List ℕ)) → seen ≡ exits → ((element place : ℕ) → Contains exits (element, place) → IsExit wires element place)
    → ((element place : ℕ) → IsExit wires element place → Contains exits (element, place)) → ((a b : ℕ) → Contains (targets_of groups a) b ↔ Contains seen (a, b)) → AreLeaving wires groups
groups_are wires exits seen groups same only all are element = record {
  within = λ place c.
      let x = only element place (subst (λ ls. Contains ls (element, place)) same ((are element place).0 c)) in
      slice_get_within wires place x.wire x.is;
  all = λ place x. (are element place).1 (subst (λ ls. Contains ls (element, place)) (sym same) (all element place x));
}

pub groups_made : {V F : Type 0} (wires : List Wire) (exits seen : List (ℕ × ℕ)) (r : Result V F) (items : V → List (List ℕ)) → seen ≡ exits → ((element place : ℕ) → Contains exits (element, place) → IsExit wires element place)
    → ((element place : ℕ) → IsExit wires element place → Contains exits (element, place)) → IfOk r (λ v. (a b : ℕ) → Contains (targets_of (items v) a) b ↔ Contains seen (a, b)) → IfOk r (λ v. AreLeaving wires (items v))
groups_made wires exits seen (Ok v) items same only all are = groups_are wires exits seen (items v) same only all are
groups_made wires exits seen (Err f) items same only all are = tt

-- ---- a relation to the wires at some places

abbrev pub AtPlace : {X : Type 0} → (ℕ → Wire → X → Type 0) → List Wire → ℕ → ℕ → X → Type 0
AtPlace R wires k place x = (w : Wire) × (slice_get wires place ≡ Some w) × R place w x

pub place_within : (wires : List Wire) (element : ℕ) (places : List ℕ) (at d : ℕ) → LeaveAll wires element places → at < length places → get_or places at d < length wires
place_within wires element places at d h lt = h.within (get_or places at d) (contained places at (get_or places at d) (slice_get-get_or places at d lt))

-- all of those that leave the element, where others are not related
pub regrouped : {X : Type 0} (R : ℕ → Wire → X → Type 0) (wires : List Wire) (element : ℕ) (places : List ℕ) (old new : List X) → LeaveAll wires element places → ((k : ℕ) (w : Wire) (x : X) → R k w x → w.from ≡ element)
    → HasPushed old new (IsAmong (AtPlace R wires) places (length places)) → HasPushed old new (IsAmong R wires (length wires))
regrouped R wires element places old new leave by h = record {
  kept = h.kept;
  only = λ x c. elim (h.only x c) [
    | inl before ↦ inl before
    | inr m ↦
        let r = m.related in
        inr (record { place = m.element; below = slice_get_within wires m.element r.0 r.1; element = r.0; is = r.1; related = r.2 })
  ];
  all = λ x m.
      let exit : IsExit wires element m.place = record { wire = m.element; is = m.is; leaves = by m.place m.element x m.related } in
      let k = member places m.place (leave.all m.place exit) in
      h.all x (record { place = k.0; below = slice_get_within places k.0 m.place k.1; element = m.place; is = k.1; related = (m.element, m.is, m.related) });
}
