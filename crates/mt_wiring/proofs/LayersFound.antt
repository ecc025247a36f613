-- The states that are found are those in which packets come.
use Rattle.std.proofs.Common.{◌≡◌, ◌↔◌, ℕ, ◌+◌, ◌*◌, ◌<◌, ◌≤◌, ◌⊎◌, inl, inr, List, [], ◌∷◌, ◌++◌, length, get_or, not, slice_get, Option, Some, Bool, true, false, cond, refl, sym, ap, ◌∙◌, subst, arith}
use Rattle.std.specs.List.{Contains, list_any}
use Rattle.std.proofs.lemmas.List.Elements.{Contains-append_left, Contains-push_cases}
use Rattle.std.proofs.lemmas.Bool.{cases_lt}
use Rattle.std.proofs.lemmas.Option.{slice_get-get_or, slice_get_within}
use Rattle.indexmap.specs.IndexSet.{insert_key}
use Rattle.indexmap.proofs.CallerLemmas.{Contains-insert_key}
use Rattle.mt_lists.proofs.Members.{later_in, cases_in, none_in}
use Rattle.mt_graph.specs.declared.Wire.{Wire}
use Rattle.mt_packet.specs.declared.layer.Layer.{Layer}
use Rattle.mt_packet.specs.declared.layer.Layer.TheVariants.{Frame, Bare, Ip, Framed}
use Rattle.mt_wiring.specs.declared.layers.State.{State}
use Rattle.mt_wiring.specs.Ways.{Behavior, target, IsLeft, IsStep, Reached, enters, onward, Clashes}
use Rattle.mt_wiring.specs.Pushes.{HasPushed, IsAmong, IsLowest, lower}
use Rattle.mt_wiring.specs.Numbers.{Grows}
use Rattle.mt_wiring.specs.States.{state_at, EntersBy, GoesOnBy, ClashesAt}
use Rattle.mt_wiring.proofs.Pushing.{some_same, pushed_more, pushed_all, lowest_as, lowest_more}
use Rattle.mt_wiring.specs.Leaving.{LeaveAll}
use Rattle.mt_wiring.proofs.WiresLeaving.{AtPlace, regrouped}
use Rattle.mt_wiring.proofs.Counts.{at_most, apart_of, member, contained, there}
use Rattle.mt_wiring.proofs.PortNumbers.{push_get}

-- a key that is inserted
module _ {K : Type 0} (eq : K → K → Bool) where
  pub inserted_grows : (old new : List K) (k : K) → new ≡ insert_key eq old k → Grows old new
  inserted_grows old new k e n x h = subst (λ ks. slice_get ks n ≡ Some x) (sym e) (by (list_any (eq k) old))
    where
      by : (t : Bool) → slice_get (cond t old (old ++ k ∷ [])) n ≡ Some x
      by true = h
      by false = push_get old k n x h

  pub inserted : ((x y : K) → eq x y ≡ true → x ≡ y) → (old new : List K) (k : K) (wanted : Bool) → wanted ≡ true → new ≡ insert_key eq old k → HasPushed old new (λ s. (wanted ≡ true) × (k ≡ s))
  inserted same old new k wanted w e = record {
    kept = λ x c. subst (λ ks. Contains ks x) (sym e) (before (list_any (eq k) old) x c);
    only = λ x c. by (list_any (eq k) old) x (subst (λ ks. Contains ks x) e c);
    all = λ x p. subst (Contains new) p.1 (subst (λ ks. Contains ks k) (sym e) (Contains-insert_key eq same old k));
  }
    where
      before : (t : Bool) (x : K) → Contains old x → Contains (cond t old (old ++ k ∷ [])) x
      before true x c = c
      before false x c = Contains-append_left old (k ∷ []) x c

      by : (t : Bool) (x : K) → Contains (cond t old (old ++ k ∷ [])) x → Contains old x ⊎ ((wanted ≡ true) × (k ≡ x))
      by true x c = inl c
      by false x c = elim (Contains-push_cases old k x c) [ inl first ↦ inl first | inr last ↦ inr (w, last) ]

-- the states in which packets can come by some wires
states_of : List Wire → List State
states_of [] = []
states_of (w ∷ ws) = state_at w Frame ∷ state_at w Bare ∷ state_at w Ip ∷ state_at w Framed ∷ states_of ws

four_each : (ws : List Wire) → length (states_of ws) ≡ 4 * length ws
unfolding states_of
four_each [] = refl
four_each (w ∷ ws) = let h = four_each ws in omega (arith, h)

one_of_four : (w : Wire) (ws : List Wire) (l : Layer) → Contains (states_of (w ∷ ws)) (state_at w l)
unfolding states_of
one_of_four w ws Frame = (0, omega arith, refl)
one_of_four w ws Bare = (1, omega arith, refl)
one_of_four w ws Ip = (2, omega arith, refl)
one_of_four w ws Framed = (3, omega arith, refl)

in_states_of : (ws : List Wire) (w : Wire) (l : Layer) → Contains ws w → Contains (states_of ws) (state_at w l)
unfolding states_of
in_states_of [] w l c = none_in w c
in_states_of (v ∷ vs) w l c = elim (cases_in v vs w c) [
  | inl same ↦ subst (λ x. Contains (states_of (v ∷ vs)) (state_at x l)) same (one_of_four v vs l)
  | inr later ↦
      let m = in_states_of vs w l later in
      let a = later_in (state_at v Framed) (states_of vs) (state_at w l) m in
      let b = later_in (state_at v Ip) (state_at v Framed ∷ states_of vs) (state_at w l) a in
      let c = later_in (state_at v Bare) (state_at v Ip ∷ state_at v Framed ∷ states_of vs) (state_at w l) b in
      later_in (state_at v Frame) (state_at v Bare ∷ state_at v Ip ∷ state_at v Framed ∷ states_of vs) (state_at w l) c
]

module _ (b : Behavior) (wires : List Wire) where
  -- the wire by which packets come
  wire_of : (p : ℕ × ℕ) (l : Layer) → Reached b wires p l → (w : Wire) × Contains wires w × (target w ≡ p)
  wire_of _ _ (enters _ _ p l w c e t f) = (w, c, t)
  wire_of _ _ (onward _ _ p q l m w r k s t f) = (w, s.there, t)

  -- the states that are known, of which the first so many were followed
  pub record IsExploring (at : ℕ) (states : List State) : Type 0 where
    pub sound : (s : State) → Contains states s → Reached b wires (s.element, s.input) s.layer
    pub entries : (w : Wire) → Contains wires w → b.enters w.from ≡ true → Contains states (state_at w Frame)
    pub closed : (k : ℕ) (s : State) → k < at → slice_get states k ≡ Some s → b.takes s.element s.layer ≡ true → (w : Wire) → IsStep b.leads wires (s.element, s.input) w
        → Contains states (state_at w (b.behind s.element s.layer w.out))

  pub begins : (states : List State) → ((s : State) → Contains states s ↔ IsAmong (λ k. EntersBy b) wires (length wires) s) → IsExploring 0 states
  begins states h = record {
    sound = λ s c.
        let m = (h s).0 c in
        subst (λ (x : State). Reached b wires (x.element, x.input) x.layer) m.related.1 (enters b wires (target m.element) Frame m.element (contained wires m.place m.element m.is) m.related.0 refl refl);
    entries = λ w c e.
        let m = member wires w c in
        (h (state_at w Frame)).1 (record { place = m.0; below = slice_get_within wires m.0 w m.1; element = w; is = m.1; related = (e, refl) });
    closed = λ k s lt. absurd (omega (arith, lt));
  }

  pub goes_on : (at : ℕ) (old new : List State) (s : State) → slice_get old at ≡ Some s → Grows old new → HasPushed old new (IsAmong (λ k. GoesOnBy b s) wires (length wires))
      → IsExploring at old → IsExploring (at + 1) new
  goes_on at old new s is grows p h = record {
    sound = λ t c. elim (p.only t c) [
      | inl before ↦ h.sound t before
      | inr m ↦
          let w = m.element in
          let step : IsStep b.leads wires (s.element, s.input) w = record { there = contained wires m.place w m.is; left = m.related.1 } in
          subst (λ (x : State). Reached b wires (x.element, x.input) x.layer) m.related.2
          (onward b wires (s.element, s.input) (target w) s.layer (b.behind s.element s.layer w.out) w (h.sound s (contained old at s is)) m.related.0 step refl refl)
    ];
    entries = λ w c e. p.kept (state_at w Frame) (h.entries w c e);
    closed = λ k t lt it takes w step. elim (cases_lt k at) [
      | inl before ↦
          let v = old_at k t it before in
          p.kept _ (h.closed k t before v takes w step)
      | inr last ↦
          let e : k ≡ at = omega (arith, lt, last) in
          let same : t ≡ s = some_same t s (sym it ∙ ap (slice_get new) e ∙ grows at s is) in
          let m = member wires w step.there in
          p.all _ (record {
            place = m.0;
            below = slice_get_within wires m.0 w m.1;
            element = w;
            is = m.1;
            related = subst (λ (x : State). GoesOnBy b x w (state_at w (b.behind t.element t.layer w.out))) same (takes, step.left, refl);
          })
    ];
  }
    where
      old_at : (k : ℕ) (t : State) → slice_get new k ≡ Some t → k < at → slice_get old k ≡ Some t
      old_at k t it lt =
          let inside = slice_get_within old at s is in
          let o = there old k (omega (arith, lt, inside)) in
          o.1 ∙ ap Some (some_same o.0 t (sym (grows k o.0 o.1) ∙ it))

  pub ended : (at : ℕ) (states : List State) → length states ≤ at → IsExploring at states → (s : State) → Contains states s ↔ Reached b wires (s.element, s.input) s.layer
  ended at states le h s = (h.sound s, λ r. complete (s.element, s.input) s.layer r)
    where
      complete : (p : ℕ × ℕ) (l : Layer) → Reached b wires p l → Contains states (record { element = p.0; input = p.1; layer = l })
      complete _ _ (enters _ _ p l w c e t f) =
          subst (λ x. Contains states (record { element = p.0; input = p.1; layer = x })) f (subst (λ (q : ℕ × ℕ). Contains states (record { element = q.0; input = q.1; layer = Frame })) t (h.entries w c e))
      complete _ _ (onward _ _ p q l m w r k step t f) =
          let c = member states (record { element = p.0; input = p.1; layer = l }) (complete p l r) in
          let lt = slice_get_within states c.0 (record { element = p.0; input = p.1; layer = l }) c.1 in
          let new = h.closed c.0 (record { element = p.0; input = p.1; layer = l }) (omega (arith, lt, le)) c.1 k w step in
          subst (λ x. Contains states (record { element = q.0; input = q.1; layer = x })) f (subst (λ (z : ℕ × ℕ). Contains states (record { element = z.0; input = z.1; layer = b.behind p.0 l w.out })) t new)

  -- states are at most four for each wire
  pub bounded : (at : ℕ) (states : List State) → ((i j : ℕ) (s : State) → slice_get states i ≡ Some s → slice_get states j ≡ Some s → i ≡ j) → IsExploring at states → length states ≤ 4 * length wires
  bounded at states apart h =
      let most = at_most states (states_of wires) (apart_of states apart) (λ s c.
      let w = wire_of (s.element, s.input) s.layer (h.sound s c) in
      subst (λ (q : ℕ × ℕ). Contains (states_of wires) (record { element = q.0; input = q.1; layer = s.layer })) w.2 (in_states_of wires w.0 s.layer w.1)) in
      let len = four_each wires in
      omega (arith, most, len)

  -- the clashes are those of the states
  pub clashes : (states : List State) → ((s : State) → Contains states s ↔ Reached b wires (s.element, s.input) s.layer) → (element : ℕ) → IsAmong (λ k. ClashesAt b) states (length states) element ↔ Clashes b wires element
  clashes states h element = (only, all)
    where
      only : IsAmong (λ k. ClashesAt b) states (length states) element → Clashes b wires element
      only m =
          let s = m.element in
          subst (Clashes b wires) m.related.0 (s.input, s.layer, (h s).0 (contained states m.place s m.is), m.related.1)

      all : Clashes b wires element → IsAmong (λ k. ClashesAt b) states (length states) element
      all (input, l, r, refused) =
          let c = member states (record { element = element; input = input; layer = l }) ((h (record { element = element; input = input; layer = l })).1 r) in
          record {
            place = c.0;
            below = slice_get_within states c.0 (record { element = element; input = input; layer = l }) c.1;
            element = record { element = element; input = input; layer = l };
            is = c.1;
            related = (refl, refused);
          }

-- packets enter by one wire more
pub entry_step : (b : Behavior) (wires : List Wire) (at : ℕ) (d : Wire) (here new : List State) (t : Bool) → at < length wires → t ≡ b.enters (get_or wires at d).from
    → HasPushed [] here (IsAmong (λ k. EntersBy b) wires at) → HasPushed here new (λ s. (t ≡ true) × (state_at (get_or wires at d) Frame ≡ s)) → HasPushed [] new (IsAmong (λ k. EntersBy b) wires (at + 1))
entry_step b wires at d here new t lt e h n =
    pushed_more (λ k. EntersBy b) wires at (get_or wires at d) [] here new (λ s. (t ≡ true) × (state_at (get_or wires at d) Frame ≡ s)) (slice_get-get_or wires at d lt)
    (λ s. (λ p. (sym e ∙ p.0, p.1), λ p. (e ∙ p.0, p.1))) h n

pub entries_all : (b : Behavior) (wires : List Wire) (at : ℕ) (states : List State) → length wires ≤ at → HasPushed [] states (IsAmong (λ k. EntersBy b) wires at) → (s : State) → Contains states s ↔ IsAmong (λ k. EntersBy b) wires (length wires) s
entries_all b wires at states le h s =
    let p = pushed_all (λ k. EntersBy b) wires at [] states le h in
    (λ c. elim (p.only s c) [ inl none ↦ absurd (let lt = none.1 in omega (arith, lt)) | inr m ↦ m ], p.all s)

-- packets go on by one wire more
pub onward_step : (b : Behavior) (wires : List Wire) (from : State) (places : List ℕ) (at d : ℕ) (w : Wire) (old here new : List State) (t left : Bool) (l : Layer) → at < length places → slice_get wires (get_or places at d) ≡ Some w
    → t ≡ true → t ≡ b.takes from.element from.layer → l ≡ b.behind from.element from.layer w.out → (left ≡ true) ↔ IsLeft b.leads (from.element, from.input) w
    → HasPushed old here (IsAmong (AtPlace (λ k. GoesOnBy b from) wires) places at) → HasPushed here new (λ s. (left ≡ true) × (state_at w l ≡ s)) → HasPushed old new (IsAmong (AtPlace (λ k. GoesOnBy b from) wires) places (at + 1))
onward_step b wires from places at d w old here new t left l lt wire_is taken takes e is h n =
    pushed_more (AtPlace (λ k. GoesOnBy b from) wires) places at (get_or places at d) old here new (λ s. (left ≡ true) × (state_at w l ≡ s)) (slice_get-get_or places at d lt) same h n
  where
    same : (s : State) → ((left ≡ true) × (state_at w l ≡ s)) ↔ AtPlace (λ k. GoesOnBy b from) wires at (get_or places at d) s
    same s = (
      λ p. (w, wire_is, (sym takes ∙ taken, is.0 p.0, ap (state_at w) (sym e) ∙ p.1)),
      λ q.
          let wire : q.0 ≡ w = some_same q.0 w (sym q.1 ∙ wire_is) in
          let r : GoesOnBy b from w s = subst (λ (x : Wire). GoesOnBy b from x s) wire q.2 in
          (is.1 r.1, ap (state_at w) e ∙ r.2),
    )

-- those by all wires that leave the element
pub onward_all : (b : Behavior) (wires : List Wire) (from : State) (places : List ℕ) (at : ℕ) (old new : List State) → length places ≤ at → LeaveAll wires from.element places
    → HasPushed old new (IsAmong (AtPlace (λ k. GoesOnBy b from) wires) places at) → HasPushed old new (IsAmong (λ k. GoesOnBy b from) wires (length wires))
onward_all b wires from places at old new le leave h =
    regrouped (λ k. GoesOnBy b from) wires from.element places old new leave (λ k w s r. r.1.0) (pushed_all (AtPlace (λ k. GoesOnBy b from) wires) places at old new le h)

-- a state of a layer that is not taken
pub clash_step : (b : Behavior) (states : List State) (at : ℕ) (d : State) (t : Bool) (old new : Option ℕ) → at < length states → t ≡ b.takes (get_or states at d).element (get_or states at d).layer
    → new ≡ lower (not t) (get_or states at d).element old → IsLowest (IsAmong (λ k. ClashesAt b) states at) old → IsLowest (IsAmong (λ k. ClashesAt b) states (at + 1)) new
clash_step b states at d t old new lt takes f h = subst (IsLowest (IsAmong (λ k. ClashesAt b) states (at + 1))) (sym f)
    (lowest_more (λ k. ClashesAt b) states at (get_or states at d) (not t) (get_or states at d).element old (slice_get-get_or states at d lt)
    (λ w. (refl, sym takes ∙ untaken t w))
    (λ m r. (ap not (takes ∙ r.1), r.0))
    h)
  where
    untaken : (x : Bool) → not x ≡ true → x ≡ false
    untaken true w = absurd (let e : false ≡ true = w in cc)
    untaken false w = refl

pub lowest_clashing : (b : Behavior) (wires : List Wire) (states seen : List State) (r : Option ℕ) → seen ≡ states → ((s : State) → Contains states s ↔ Reached b wires (s.element, s.input) s.layer)
    → IsLowest (IsAmong (λ k. ClashesAt b) seen (length seen)) r → IsLowest (Clashes b wires) r
lowest_clashing b wires states seen r e exact h =
    lowest_as (IsAmong (λ k. ClashesAt b) states (length states)) (Clashes b wires) r (clashes b wires states exact) (subst (λ ss. IsLowest (IsAmong (λ k. ClashesAt b) ss (length ss)) r) e h)

-- a state that is read through a slice of them
pub read_at : (states seen : List State) (at : ℕ) (d : State) → seen ≡ states → at < length states → slice_get states at ≡ Some (get_or seen at d)
read_at states seen at d e lt = subst (λ ss. slice_get states at ≡ Some (get_or ss at d)) (sym e) (slice_get-get_or states at d lt)
