-- A graph is a chain that is accepted, or has one refusal.
use Rattle.std.proofs.Common.{◌≡◌, ◌∙◌, ap, refl, sym, subst, ◌⊎◌, inl, inr, ℕ, ◌<◌, List, [], ◌∷◌, map, slice_get, take, Some, None, Result, Ok, Err, arith}
use Rattle.std.specs.List.{flat_map}
use Rattle.std.proofs.lemmas.Bool.{cases_lt}
use Rattle.mt_graph.specs.declared.Element.{Element}
use Rattle.mt_graph.specs.declared.Wire.{Wire}
use Rattle.mt_kinds.specs.declared.description.Description.{Description}
use Rattle.mt_kinds.specs.declared.description.Misread.{Misread}
use Rattle.mt_elements.specs.declared.fault.ChainFault.{ChainFault}
use Rattle.mt_elements.specs.declared.fault.ChainWhy.{ChainWhy}
use Rattle.mt_elements.specs.ChainState.{ChainState}
use Rattle.mt_elements.specs.declared.fault.ChainWhy.TheVariants.{Unwired, Cycle, LayerClash, PoolOverlap, NoDevice}
use Rattle.mt_elements.specs.Accepted.{IsAccepted, LacksDevices, Rings, Misfits}
use Rattle.mt_elements.specs.Overlaps.{Overlaps}
use Rattle.mt_elements.specs.Described.{chain_of, describe, element_fault, AreFaultless, IsChainOf}
use Rattle.mt_elements.specs.Refused.{IsRefused, unread, refused, IsRefusedChain, miswired, unwired, rings, layers, pools, devices}
use Rattle.mt_elements.specs.Told.{told_of, cause_of, IsUnread, IsMiswired, IsLowest, Nowhere}
use Rattle.mt_elements.specs.Wired.{wire_fault, AreWired, HasOpen}
use Rattle.mt_elements.proofs.WiresTold.{some_same}

-- ---- one chain

ok_of : Result Description Misread → List Description
ok_of (Ok description) = description ∷ []
ok_of (Err why) = []

oks_of : (ds : List Description) → flat_map ok_of (map Ok ds) ≡ ds
unfolding ok_of
oks_of [] = refl
oks_of (d ∷ ds) = ap (λ xs. d ∷ xs) (oks_of ds)

same_descriptions : (ds es : List Description) (read : List (Result Description Misread)) → read ≡ map Ok ds → read ≡ map Ok es → ds ≡ es
same_descriptions ds es read a b = sym (oks_of ds) ∙ ap (flat_map ok_of) (sym a ∙ b) ∙ oks_of es

pub one_chain : (elements : List Element) (wires : List Wire) (c d : ChainState) → IsChainOf elements wires c → IsChainOf elements wires d → c ≡ d
one_chain elements wires c d p q =
    p.chain_is ∙ ap (chain_of elements wires) (same_descriptions p.descriptions q.descriptions (map describe elements) p.described q.described) ∙ sym q.chain_is

-- ---- no refusal of what is accepted

none_some : {A : Type 0} (x : A) → None ≡ Some x → ⊥
none_some x e = let q : None ≡ Some x = e in cc

pub not_unread : (elements : List Element) (f : ChainFault) → AreFaultless elements → IsUnread elements f → ⊥
not_unread elements f all u = let q : None ≡ Some u.why = sym (all u.number u.element u.stands) ∙ u.wrong in cc

pub not_miswired : (chain : ChainState) (f : ChainFault) → AreWired chain → IsMiswired chain f → ⊥
not_miswired chain f wired m = none_some _ (sym (wired m.number m.wire m.stands) ∙ m.wrong)

pub not_lowest : (elements : List Element) (why : ChainWhy) (P : ℕ → Type 0) (f : ChainFault) → Nowhere P → IsLowest elements why P f → ⊥
not_lowest elements why P f none l = none l.element l.holds

not_refused_chain : (elements : List Element) (chain : ChainState) (f : ChainFault) → IsAccepted chain → IsRefusedChain elements chain f → ⊥
not_refused_chain elements chain f a (miswired m) = not_miswired chain f a.wired m
not_refused_chain elements chain f a (unwired w l) = not_lowest elements _ _ f a.closed l
not_refused_chain elements chain f a (rings w o l) = not_lowest elements _ _ f a.acyclic l
not_refused_chain elements chain f a (layers w o r l) = not_lowest elements _ _ f a.fits l
not_refused_chain elements chain f a (pools w o r m l) = not_lowest elements _ _ f a.apart l
not_refused_chain elements chain f a (devices w o r m p l e) = a.devices l

pub not_refused : (elements : List Element) (wires : List Wire) (chain : ChainState) (f : ChainFault) → IsChainOf elements wires chain → IsAccepted chain → IsRefused elements wires f → ⊥
not_refused elements wires chain f c a (unread u) = not_unread elements f c.faultless u
not_refused elements wires chain f c a (refused other d r) =
    not_refused_chain elements chain f a (subst (λ x. IsRefusedChain elements x f) (one_chain elements wires other chain d c) r)

-- ---- one refusal

-- the first place where something is wrong is one
one_first : (P : ℕ → Type 0) (i j : ℕ) → P i → P j → ((k : ℕ) → k < i → P k → ⊥) → ((k : ℕ) → k < j → P k → ⊥) → i ≡ j
one_first P i j p q before_i before_j = elim (cases_lt i j) [
  | inl lt ↦ absurd (before_j i lt p)
  | inr le ↦ elim (cases_lt j i) [
    | inl lt ↦ absurd (before_i j lt q)
    | inr ge ↦ omega (arith, le, ge)
  ]
]

one_lowest : (elements : List Element) (why : ChainWhy) (P : ℕ → Type 0) (f g : ChainFault) → IsLowest elements why P f → IsLowest elements why P g → f ≡ g
one_lowest elements why P f g l m = l.told ∙ ap (told_of elements why) (one_first P l.element m.element l.holds m.holds l.lowest m.lowest) ∙ sym m.told

fault_at : ChainWhy × ℕ → ℕ → ChainFault
fault_at what line = record { why = what.0; element = what.1; line = line }

one_miswired : (chain : ChainState) (f g : ChainFault) → IsMiswired chain f → IsMiswired chain g → f ≡ g
unfolding fault_at
one_miswired chain f g m n = elim (cases_lt m.number n.number) [
  | inl lt ↦ absurd (none_some _ (sym (n.first m.number m.wire lt m.stands) ∙ m.wrong))
  | inr le ↦ elim (cases_lt n.number m.number) [
    | inl lt ↦ absurd (none_some _ (sym (m.first n.number n.wire lt n.stands) ∙ n.wrong))
    | inr ge ↦ by (omega (arith, le, ge))
  ]
]
  where
    by : m.number ≡ n.number → f ≡ g
    by same =
        let wire : m.wire ≡ n.wire = some_same m.wire n.wire (sym m.stands ∙ ap (slice_get chain.wires) same ∙ n.stands) in
        let what : Some (m.why, m.element) ≡ Some (n.why, n.element) = sym m.wrong ∙ (λ i. wire_fault chain (take (same i) chain.wires) (wire i)) ∙ n.wrong in
        m.told ∙ (λ i. fault_at (some_same (m.why, m.element) (n.why, n.element) what i) (wire i).line) ∙ sym n.told

one_unread : (elements : List Element) (f g : ChainFault) → IsUnread elements f → IsUnread elements g → f ≡ g
one_unread elements f g m n = elim (cases_lt m.number n.number) [
  | inl lt ↦ absurd (let q : None ≡ Some m.why = sym (n.first m.number m.element lt m.stands) ∙ m.wrong in cc)
  | inr le ↦ elim (cases_lt n.number m.number) [
    | inl lt ↦ absurd (let q : None ≡ Some n.why = sym (m.first n.number n.element lt n.stands) ∙ n.wrong in cc)
    | inr ge ↦ by (omega (arith, le, ge))
  ]
]
  where
    by : m.number ≡ n.number → f ≡ g
    by same =
        let element : m.element ≡ n.element = some_same m.element n.element (sym m.stands ∙ ap (slice_get elements) same ∙ n.stands) in
        let what : Some m.why ≡ Some n.why = sym m.wrong ∙ (λ i. element_fault elements (same i) (element i)) ∙ n.wrong in
        m.told ∙ (λ i. told_of elements (cause_of (some_same m.why n.why what i)) (same i)) ∙ sym n.told

-- at most one fault is of the kind
One : (ChainFault → Type 0) → Type 0
One P = (f g : ChainFault) → P f → P g → f ≡ g

-- a fault of one kind, or one of another where there is none of the first
Or : (ChainFault → Type 0) → Type 0 → (ChainFault → Type 0) → ChainFault → Type 0
Or P none Q f = P f ⊎ (none × Q f)

one_or : (P : ChainFault → Type 0) (none : Type 0) (Q : ChainFault → Type 0) → ((f : ChainFault) → none → P f → ⊥) → One P → One Q → One (Or P none Q)
unfolding One Or
one_or P none Q not p q f g (inl x) (inl y) = p f g x y
one_or P none Q not p q f g (inl x) (inr (n, y)) = absurd (not f n x)
one_or P none Q not p q f g (inr (n, x)) (inl y) = absurd (not g n y)
one_or P none Q not p q f g (inr (n, x)) (inr (m, y)) = q f g x y

module _ (elements : List Element) (chain : ChainState) where
  NoDevices : ChainFault → Type 0
  NoDevices f = LacksDevices chain × (f ≡ record { why = NoDevice; element = 0; line = 1 })

  Overlapping : ChainFault → Type 0
  Overlapping = Or (IsLowest elements PoolOverlap (Overlaps chain)) (Nowhere (Overlaps chain)) NoDevices

  Misfitting : ChainFault → Type 0
  Misfitting = Or (IsLowest elements LayerClash (Misfits chain)) (Nowhere (Misfits chain)) Overlapping

  Ringing : ChainFault → Type 0
  Ringing = Or (IsLowest elements Cycle (Rings chain)) (Nowhere (Rings chain)) Misfitting

  Opening : ChainFault → Type 0
  Opening = Or (IsLowest elements Unwired (HasOpen chain)) (Nowhere (HasOpen chain)) Ringing

  Staged : ChainFault → Type 0
  Staged = Or (IsMiswired chain) (AreWired chain) Opening

  staged : (f : ChainFault) → IsRefusedChain elements chain f → Staged f
  unfolding Or NoDevices Overlapping Misfitting Ringing Opening Staged
  staged f (miswired m) = inl m
  staged f (unwired w l) = inr (w, inl l)
  staged f (rings w o l) = inr (w, inr (o, inl l))
  staged f (layers w o r l) = inr (w, inr (o, inr (r, inl l)))
  staged f (pools w o r m l) = inr (w, inr (o, inr (r, inr (m, inl l))))
  staged f (devices w o r m p l e) = inr (w, inr (o, inr (r, inr (m, inr (p, (l, e))))))

  one_no_devices : One NoDevices
  unfolding One NoDevices
  one_no_devices f g a b = a.1 ∙ sym b.1

  one_lowest_of : (why : ChainWhy) (P : ℕ → Type 0) → One (IsLowest elements why P)
  unfolding One
  one_lowest_of why P f g a b = one_lowest elements why P f g a b

  one_miswired_of : One (IsMiswired chain)
  unfolding One
  one_miswired_of f g a b = one_miswired chain f g a b

  one_staged : One Staged
  unfolding Overlapping Misfitting Ringing Opening Staged
  one_staged =
      one_or _ _ _ (λ f w m. not_miswired chain f w m) one_miswired_of
      (one_or _ _ _ (λ f n l. not_lowest elements _ _ f n l) (one_lowest_of Unwired (HasOpen chain))
      (one_or _ _ _ (λ f n l. not_lowest elements _ _ f n l) (one_lowest_of Cycle (Rings chain))
      (one_or _ _ _ (λ f n l. not_lowest elements _ _ f n l) (one_lowest_of LayerClash (Misfits chain))
      (one_or _ _ _ (λ f n l. not_lowest elements _ _ f n l) (one_lowest_of PoolOverlap (Overlaps chain)) one_no_devices))))

  one_refused_chain : (f g : ChainFault) → IsRefusedChain elements chain f → IsRefusedChain elements chain g → f ≡ g
  unfolding One
  one_refused_chain f g a b = one_staged f g (staged f a) (staged g b)

pub one_refusal : (elements : List Element) (wires : List Wire) (f g : ChainFault) → IsRefused elements wires f → IsRefused elements wires g → f ≡ g
one_refusal elements wires f g (unread a) (unread b) = one_unread elements f g a b
one_refusal elements wires f g (unread a) (refused c d r) = absurd (not_unread elements f d.faultless a)
one_refusal elements wires f g (refused c d r) (unread b) = absurd (not_unread elements g d.faultless b)
one_refusal elements wires f g (refused c d r) (refused x y s) =
    one_refused_chain elements c f g r (subst (λ z. IsRefusedChain elements z g) (one_chain elements wires x c y d) s)
