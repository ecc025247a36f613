-- The ports whose nodes return to themselves are those on a ring.
use Rattle.std.proofs.Common.{◌≡◌, ◌↔◌, ℕ, ◌⊎◌, inl, inr, List, length, Option, Bool, refl, sym, ◌∙◌, subst, arith}
use Rattle.std.specs.List.{Contains}
use Rattle.std.proofs.lemmas.Option.{slice_get_within}
use Rattle.mt_graph.specs.declared.Wire.{Wire}
use Rattle.mt_reach.specs.Reach.{targets_of, Reaches, here, on as further, AreBetween}
use Rattle.mt_wiring.specs.Ways.{target, IsStep, Passes, one, on, OnRing}
use Rattle.mt_wiring.specs.Pushes.{IsAmong, IsLowest}
use Rattle.mt_wiring.specs.Numbers.{StandsAt, AreTargets, IsLink, Returns, IsRingAt}
use Rattle.mt_wiring.proofs.Pushing.{some_same, lowest_as}
use Rattle.mt_wiring.proofs.PortNumbers.{number_of_target}

module _ (leads : ℕ → ℕ → ℕ → Bool) (wires : List Wire) (ports : List (ℕ × ℕ)) where
  -- links are between numbers of ports
  pub links_between : (links : List (ℕ × ℕ)) (count : ℕ) → count ≡ length ports → ((a b : ℕ) → Contains links (a, b) ↔ IsLink leads wires ports a b) → AreBetween links count
  links_between links count len exact link c =
      let l = (exact link.0 link.1).0 c in
      let a = slice_get_within ports link.0 l.port l.stands in
      let b = slice_get_within ports link.1 (target l.wire) l.leads_to in
      (omega (arith, a, len), omega (arith, b, len))

  next : (p q r : ℕ × ℕ) (w : Wire) → (p ≡ q) ⊎ Passes leads wires p q → IsStep leads wires q w → target w ≡ r → Passes leads wires p r
  next p q r w (inl e) s t = one leads wires p r w (subst (λ x. IsStep leads wires x w) (sym e) s) t
  next p q r w (inr way) s t = on leads wires p q r w way s t

  module _ (targets : List ℕ) (known : AreTargets ports wires targets) (graph : List (List ℕ)) (exact : (a b : ℕ) → Contains (targets_of graph a) b ↔ IsLink leads wires ports a b) where
    -- what is reached from a number stands for a port to which a packet passes
    sound : (a n : ℕ) (p : ℕ × ℕ) → Reaches graph a n → StandsAt ports a p → (q : ℕ × ℕ) × StandsAt ports n q × ((p ≡ q) ⊎ Passes leads wires p q)
    sound _ _ p (here _ a) s = (p, s, inl refl)
    sound _ _ p (further _ a b n way link) s =
        let r = sound a b p way s in
        let l = (exact b n).0 link in
        let same : l.port ≡ r.0 = some_same l.port r.0 (sym l.stands ∙ r.1) in
        let step : IsStep leads wires r.0 l.wire = subst (λ x. IsStep leads wires x l.wire) same l.step in
        (target l.wire, l.leads_to, inr (next p r.0 (target l.wire) l.wire r.2 step refl))

    -- and all such ports are, by a last link
    complete : (a : ℕ) (p q : ℕ × ℕ) → Passes leads wires p q → StandsAt ports a p → (n m : ℕ) × StandsAt ports n q × Reaches graph a m × Contains (targets_of graph m) n
    complete a _ _ (one _ _ p q w s t) stands =
        let n = number_of_target ports wires targets known w s.there in
        (n.0, a, subst (StandsAt ports n.0) t n.1, here graph a, (exact a n.0).1 (record { port = p; wire = w; stands = stands; step = s; leads_to = n.1 }))
    complete a _ _ (on _ _ p q r w way s t) stands =
        let m = complete a p q way stands in
        let n = number_of_target ports wires targets known w s.there in (
          n.0,
          m.0,
          subst (StandsAt ports n.0) t n.1,
          further graph a m.1 m.0 m.3 m.4,
          (exact m.0 n.0).1 (record { port = q; wire = w; stands = m.2; step = s; leads_to = n.1 }),
        )

    returns_from : (n : ℕ) (p : ℕ × ℕ) → StandsAt ports n p → Passes leads wires p p → Returns graph n
    returns_from n p stands way =
        let m = complete n p p way stands in
        let same : m.0 ≡ n = known.apart m.0 n p m.2 stands in
        record { last = m.1; reached = m.3; link = subst (Contains (targets_of graph m.1)) same m.4 }

    passes_from : (n : ℕ) (p : ℕ × ℕ) → StandsAt ports n p → Returns graph n → Passes leads wires p p
    passes_from n p stands r =
        let q = sound n r.last p r.reached stands in
        let l = (exact r.last n).0 r.link in
        let same : l.port ≡ q.0 = some_same l.port q.0 (sym l.stands ∙ q.1) in
        let step : IsStep leads wires q.0 l.wire = subst (λ x. IsStep leads wires x l.wire) same l.step in
        next p q.0 p l.wire q.2 step (some_same (target l.wire) p (sym l.leads_to ∙ stands))

    number_of : (p q : ℕ × ℕ) → Passes leads wires p q → (n : ℕ) × StandsAt ports n q
    number_of _ _ (one _ _ p q w s t) = let n = number_of_target ports wires targets known w s.there in (n.0, subst (StandsAt ports n.0) t n.1)
    number_of _ _ (on _ _ p q r w way s t) = let n = number_of_target ports wires targets known w s.there in (n.0, subst (StandsAt ports n.0) t n.1)

    pub rings : (element : ℕ) → IsAmong (IsRingAt graph) ports (length ports) element ↔ OnRing leads wires element
    rings element = (only, all)
      where
        only : IsAmong (IsRingAt graph) ports (length ports) element → OnRing leads wires element
        only m =
            let p = m.element in
            (p.1, subst (λ x. Passes leads wires (x, p.1) (x, p.1)) m.related.0 (passes_from m.place p m.is m.related.1))

        all : OnRing leads wires element → IsAmong (IsRingAt graph) ports (length ports) element
        all (input, way) =
            let n = number_of (element, input) (element, input) way in
            record { place = n.0; below = slice_get_within ports n.0 (element, input) n.1; element = (element, input); is = n.1; related = (refl, returns_from n.0 (element, input) n.1 way) }

-- the lowest among the ports is the lowest on a ring
pub lowest_ring : (leads : ℕ → ℕ → ℕ → Bool) (wires : List Wire) (ports keys : List (ℕ × ℕ)) (targets : List ℕ) (graph seen : List (List ℕ)) (links read : List (ℕ × ℕ)) (r : Option ℕ) → keys ≡ ports → seen ≡ graph → read ≡ links
    → AreTargets ports wires targets → ((a b : ℕ) → Contains links (a, b) ↔ IsLink leads wires ports a b) → ((a b : ℕ) → Contains (targets_of graph a) b ↔ Contains read (a, b))
    → IsLowest (IsAmong (IsRingAt seen) keys (length keys)) r → IsLowest (OnRing leads wires) r
lowest_ring leads wires ports keys targets graph seen links read r ek eg el known are exact h =
    lowest_as (IsAmong (IsRingAt graph) ports (length ports)) (OnRing leads wires) r (rings leads wires ports targets known graph linked)
    (subst (λ ks. IsLowest (IsAmong (IsRingAt graph) ks (length ks)) r) ek (subst (λ g. IsLowest (IsAmong (IsRingAt g) keys (length keys)) r) eg h))
  where
    linked : (a b : ℕ) → Contains (targets_of graph a) b ↔ IsLink leads wires ports a b
    linked a b = (
      λ c. (are a b).0 (subst (λ ls. Contains ls (a, b)) el ((exact a b).0 c)),
      λ l. (exact a b).1 (subst (λ ls. Contains ls (a, b)) (sym el) ((are a b).1 l)),
    )
