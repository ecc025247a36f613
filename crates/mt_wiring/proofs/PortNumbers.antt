-- Ports have numbers of their own, and keep them.
use Rattle.std.proofs.Common.{◌≡◌, ◌↔◌, ℕ, zero, suc, ◌+◌, ◌<◌, ◌≤◌, ◌⊎◌, inl, inr, List, [], ◌∷◌, ◌++◌, length, get_or, slice_get, Some, None, Bool, true, false, refl, sym, ap, ◌∙◌, subst, arith}
use Rattle.std.specs.List.{Contains, AllByRecursion, IsDistinct}
use Rattle.std.proofs.lemmas.List.{length-append}
use Rattle.std.proofs.lemmas.Option.{slice_get-get_or, slice_get_within}
use Rattle.mt_graph.specs.declared.Wire.{Wire}
use Rattle.mt_wiring.specs.Ways.{target, IsLeft}
use Rattle.mt_wiring.specs.Pushes.{HasPushed, IsAmong}
use Rattle.mt_wiring.specs.Numbers.{StandsAt, AreApart, Grows, AreTargets, IsLink, IsLinkBy}
use Rattle.mt_wiring.proofs.Pushing.{some_same, pushed_more, pushed_all}
use Rattle.mt_wiring.specs.Leaving.{LeaveAll}
use Rattle.mt_wiring.proofs.Counts.{member, contained, there}
use Rattle.mt_wiring.proofs.WiresLeaving.{AtPlace, regrouped}

other : {K : Type 0} (eq : K → K → Bool) → ((x : K) → eq x x ≡ true) → (x : K) (xs : List K) → AllByRecursion (λ y. eq x y ≡ false) xs → (j : ℕ) (p : K) → x ≡ p → slice_get xs j ≡ Some p → ⊥
other eq own x [] h j p e b = let q : None ≡ Some p = b in cc
other eq own x (y ∷ ys) h zero p e b =
    let same : x ≡ y = e ∙ sym (some_same y p b) in
    let q : true ≡ false = sym (own x) ∙ ap (eq x) same ∙ h.0 in cc
other eq own x (y ∷ ys) h (suc j) p e b = other eq own x ys h.1 j p e b

-- keys that are distinct stand at one place each
pub distinct_apart : {K : Type 0} (eq : K → K → Bool) → ((x : K) → eq x x ≡ true) → (ks : List K) → IsDistinct eq ks → (i j : ℕ) (p : K) → slice_get ks i ≡ Some p → slice_get ks j ≡ Some p → i ≡ j
unfolding IsDistinct
distinct_apart eq own [] h i j p a b = absurd (let q : None ≡ Some p = a in cc)
distinct_apart eq own (x ∷ xs) h zero zero p a b = refl
distinct_apart eq own (x ∷ xs) h zero (suc j) p a b = absurd (other eq own x xs h.0 j p (some_same x p a) b)
distinct_apart eq own (x ∷ xs) h (suc i) zero p a b = absurd (other eq own x xs h.0 i p (some_same x p b) a)
distinct_apart eq own (x ∷ xs) h (suc i) (suc j) p a b = ap suc (distinct_apart eq own xs h.1 i j p a b)

pub grown : {X : Type 0} (a b c : List X) → Grows a b → Grows b c → Grows a c
grown a b c g h n p e = h n p (g n p e)

pub push_get : {X : Type 0} (xs : List X) (y : X) (k : ℕ) (x : X) → slice_get xs k ≡ Some x → slice_get (xs ++ y ∷ []) k ≡ Some x
push_get [] y k x e = absurd (let q : None ≡ Some x = e in cc)
push_get (z ∷ zs) y zero x e = e
push_get (z ∷ zs) y (suc k) x e = push_get zs y k x e

push_cases : {X : Type 0} (xs : List X) (y : X) (k : ℕ) (x : X) → slice_get (xs ++ y ∷ []) k ≡ Some x → slice_get xs k ≡ Some x ⊎ ((k ≡ length xs) × (y ≡ x))
push_cases [] y zero x e = inr (refl, some_same y x e)
push_cases [] y (suc k) x e = absurd (let q : None ≡ Some x = e in cc)
push_cases (z ∷ zs) y zero x e = inl e
push_cases (z ∷ zs) y (suc k) x e = elim (push_cases zs y k x e) [
  | inl old ↦ inl old
  | inr new ↦ inr (let n : suc k ≡ suc (length zs) = ap suc new.0 in omega (arith, n), new.1)
]

-- the targets of the first so many wires
pub record AreTargetsOf (ports : List (ℕ × ℕ)) (wires : List Wire) (at : ℕ) (targets : List ℕ) : Type 0 where
  pub apart : AreApart ports
  pub len : length targets ≡ at
  pub each : (k : ℕ) (w : Wire) (n : ℕ) → slice_get wires k ≡ Some w → slice_get targets k ≡ Some n → StandsAt ports n (target w)

pub targets_more : (ports more : List (ℕ × ℕ)) (wires : List Wire) (at n : ℕ) (targets new : List ℕ) (w : Wire) → slice_get wires at ≡ Some w → StandsAt more n (target w) → Grows ports more → AreApart more → new ≡ targets ++ n ∷ []
    → AreTargetsOf ports wires at targets → AreTargetsOf more wires (at + 1) new
targets_more ports more wires at n targets new w is stands grows apart e h = subst (AreTargetsOf more wires (at + 1)) (sym e) (record {
  apart = apart;
  len = (let l = h.len in let m = length-append targets (n ∷ []) in omega (arith, l, m));
  each = λ k v m hv hm. elim (push_cases targets n k m hm) [
    | inl old ↦ grows m (target v) (h.each k v m hv old)
    | inr last ↦
        let place : k ≡ at = last.0 ∙ h.len in
        let same : w ≡ v = some_same w v (sym is ∙ ap (slice_get wires) (sym place) ∙ hv) in
        subst (λ x. StandsAt more x (target v)) last.1 (subst (λ x. StandsAt more n (target x)) same stands)
  ];
})

-- the number of the port to which a wire leads
pub number_of_target : (ports : List (ℕ × ℕ)) (wires : List Wire) (targets : List ℕ) → AreTargets ports wires targets → (w : Wire) → Contains wires w → (n : ℕ) × StandsAt ports n (target w)
number_of_target ports wires targets h w c =
    let m = member wires w c in
    let n = there targets m.0 (let lt = slice_get_within wires m.0 w m.1 in let l = h.len in omega (arith, lt, l)) in
    (n.0, h.each m.0 w n.0 m.1 n.1)

-- the links that are added are those by all wires
module _ (leads : ℕ → ℕ → ℕ → Bool) (wires : List Wire) (ports : List (ℕ × ℕ)) (targets : List ℕ) (h : AreTargets ports wires targets) where
  pub are_links : (links : List (ℕ × ℕ)) (a b : ℕ) → HasPushed [] links (IsAmong (λ number port. IsAmong (IsLinkBy leads targets number port) wires (length wires)) ports (length ports))
      → Contains links (a, b) ↔ IsLink leads wires ports a b
  are_links links a b p = (only, all)
    where
      only : Contains links (a, b) → IsLink leads wires ports a b
      only c = elim (p.only (a, b) c) [
        | inl none ↦ absurd (let lt = none.1 in omega (arith, lt))
        | inr m ↦
            let r = m.related in
            let w = r.element in
            record {
              port = m.element;
              wire = w;
              stands = subst (λ n. StandsAt ports n m.element) r.related.2 m.is;
              step = record { there = contained wires r.place w r.is; left = r.related.1 };
              leads_to = h.each r.place w b r.is r.related.0;
            }
      ]

      all : IsLink leads wires ports a b → Contains links (a, b)
      all l =
          let m = member wires l.wire l.step.there in
          let lt = slice_get_within wires m.0 l.wire m.1 in
          let n = there targets m.0 (let e = h.len in omega (arith, lt, e)) in
          let same : n.0 ≡ b = h.apart n.0 b (target l.wire) (h.each m.0 l.wire n.0 m.1 n.1) l.leads_to in
          p.all (a, b) (record {
            place = a;
            below = slice_get_within ports a l.port l.stands;
            element = l.port;
            is = l.stands;
            related = record { place = m.0; below = lt; element = l.wire; is = m.1; related = (n.1 ∙ ap Some same, l.step.left, refl) };
          })

-- the link by the wire at a place
pub link_step : (leads : ℕ → ℕ → ℕ → Bool) (wires : List Wire) (targets : List ℕ) (number : ℕ) (port : ℕ × ℕ) (places : List ℕ) (at d : ℕ) (w : Wire) (n : ℕ) (old here new : List (ℕ × ℕ)) → at < length places
    → slice_get wires (get_or places at d) ≡ Some w → slice_get targets (get_or places at d) ≡ Some n → HasPushed old here (IsAmong (AtPlace (IsLinkBy leads targets number port) wires) places at)
    → HasPushed here new (λ l. IsLeft leads port w × ((number, n) ≡ l)) → HasPushed old new (IsAmong (AtPlace (IsLinkBy leads targets number port) wires) places (at + 1))
link_step leads wires targets number port places at d w n old here new lt wire_is is h more =
    pushed_more (AtPlace (IsLinkBy leads targets number port) wires) places at (get_or places at d) old here new (λ l. IsLeft leads port w × ((number, n) ≡ l)) (slice_get-get_or places at d lt) same h more
  where
    same : (l : ℕ × ℕ) → (IsLeft leads port w × ((number, n) ≡ l)) ↔ AtPlace (IsLinkBy leads targets number port) wires at (get_or places at d) l
    same l = (
      λ p. (w, wire_is, (is ∙ ap (λ (x : ℕ × ℕ). Some x.1) p.1, p.0, ap (λ (x : ℕ × ℕ). x.0) p.1)),
      λ q.
          let wire : q.0 ≡ w = some_same q.0 w (sym q.1 ∙ wire_is) in
          let r : IsLinkBy leads targets number port (get_or places at d) w l = subst (λ (x : Wire). IsLinkBy leads targets number port (get_or places at d) x l) wire q.2 in
          let e : n ≡ l.1 = some_same n l.1 (sym is ∙ r.0) in
          let f : (number, n) ≡ (l.0, l.1) = ap (λ m. (m, n)) r.2 ∙ ap (λ m. (l.0, m)) e in
          (r.1, f),
    )

-- those by all wires that leave the element
pub links_from : (leads : ℕ → ℕ → ℕ → Bool) (wires : List Wire) (targets : List ℕ) (number : ℕ) (port : ℕ × ℕ) (places : List ℕ) (at : ℕ) (old new : List (ℕ × ℕ)) → length places ≤ at → LeaveAll wires port.0 places
    → HasPushed old new (IsAmong (AtPlace (IsLinkBy leads targets number port) wires) places at) → HasPushed old new (IsAmong (IsLinkBy leads targets number port) wires (length wires))
links_from leads wires targets number port places at old new le leave h =
    regrouped (IsLinkBy leads targets number port) wires port.0 places old new leave (λ k w l r. r.1.0) (pushed_all (AtPlace (IsLinkBy leads targets number port) wires) places at old new le h)

-- the links from the port at a place
abbrev pub AreFrom : (ℕ → ℕ → ℕ → Bool) → List Wire → List ℕ → ℕ → ℕ × ℕ → ℕ × ℕ → Type 0
AreFrom leads wires targets number port = IsAmong (IsLinkBy leads targets number port) wires (length wires)

pub links_step : (leads : ℕ → ℕ → ℕ → Bool) (wires : List Wire) (targets seen : List ℕ) (keys : List (ℕ × ℕ)) (at : ℕ) (d : ℕ × ℕ) (here new : List (ℕ × ℕ)) → seen ≡ targets → at < length keys
    → HasPushed [] here (IsAmong (AreFrom leads wires targets) keys at) → HasPushed here new (AreFrom leads wires seen at (get_or keys at d)) → HasPushed [] new (IsAmong (AreFrom leads wires targets) keys (at + 1))
links_step leads wires targets seen keys at d here new e lt h n =
    pushed_more (AreFrom leads wires targets) keys at (get_or keys at d) [] here new (AreFrom leads wires seen at (get_or keys at d)) (slice_get-get_or keys at d lt)
    (λ l. (λ x. subst (λ ts. AreFrom leads wires ts at (get_or keys at d) l) e x, λ x. subst (λ ts. AreFrom leads wires ts at (get_or keys at d) l) (sym e) x)) h n

pub links_all : (leads : ℕ → ℕ → ℕ → Bool) (wires : List Wire) (targets : List ℕ) (keys ports : List (ℕ × ℕ)) (at : ℕ) (links : List (ℕ × ℕ)) → keys ≡ ports → length keys ≤ at → AreTargets ports wires targets
    → HasPushed [] links (IsAmong (AreFrom leads wires targets) keys at) → (a b : ℕ) → Contains links (a, b) ↔ IsLink leads wires ports a b
links_all leads wires targets keys ports at links e le known h a b =
    are_links leads wires ports targets known links a b (subst (λ ks. HasPushed [] links (IsAmong (AreFrom leads wires targets) ks (length ks))) e (pushed_all (AreFrom leads wires targets) keys at [] links le h))
