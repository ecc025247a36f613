-- Chains of one and two elements.
use Rattle.std.proofs.Common.{◌≡◌, ℕ, inl, inr, [], ◌∷◌, Bool, true, ◌==◌, if◌then◌else◌, refl, sym, ap, ◌∙◌, arith}
use Rattle.std.specs.List.{Contains}
use Rattle.std.proofs.lemmas.Bool.Decides.{nat_tests}
use Rattle.mt_lists.proofs.Members.{first_in, cases_in, none_in}
use Rattle.mt_graph.specs.declared.Wire.{Wire}
use Rattle.mt_packet.specs.declared.layer.Layer.TheVariants.{Frame, Bare, Ip, Framed}
use Rattle.mt_wiring.specs.Ways.{Behavior, IsStep, Passes, one, on, OnRing, enters, onward, Clashes}

abbrev wire : ℕ → ℕ → ℕ → ℕ → Wire
wire from out to into = record { from = from; out = out; to = to; into = into; line = 1 }

only_wire : (w v : Wire) → Contains (w ∷ []) v → w ≡ v
only_wire w v c = elim (cases_in w [] v c) [ inl same ↦ same | inr none ↦ none_in v none ]

-- each input leads to the output of its number
abbrev straight : ℕ → ℕ → ℕ → Bool
straight element input out = input == out

ring : OnRing straight (wire 7 0 7 0 ∷ []) 7
ring = (0, one straight (wire 7 0 7 0 ∷ []) (7, 0) (7, 0) (wire 7 0 7 0) (record { there = first_in (wire 7 0 7 0) []; left = (refl, refl) }) refl)

-- a wire that leads to the other input of its element is on no ring
no_ring : (element : ℕ) → OnRing straight (wire 7 0 7 1 ∷ []) element → ⊥
no_ring element (input, way) = by (element, input) (element, input) way refl
  where
    comes_to : (w : Wire) → Contains (wire 7 0 7 1 ∷ []) w → w.into ≡ 1
    comes_to w c = sym (ap (λ (x : Wire). x.into) (only_wire (wire 7 0 7 1) w c))

    leaves : (p : ℕ × ℕ) (w : Wire) → IsStep straight (wire 7 0 7 1 ∷ []) p w → p.1 ≡ 0
    leaves p w s =
        let out : 0 ≡ w.out = ap (λ (x : Wire). x.out) (only_wire (wire 7 0 7 1) w s.there) in
        let same : (p.1 == w.out) ≡ true = s.left.1 in
        grind (arith, nat_tests)

    first : (p q : ℕ × ℕ) → Passes straight (wire 7 0 7 1 ∷ []) p q → p.1 ≡ 0
    first _ _ (one _ _ p q w s t) = leaves p w s
    first _ _ (on _ _ p q r w way s t) = first p q way

    by : (p q : ℕ × ℕ) → Passes straight (wire 7 0 7 1 ∷ []) p q → p ≡ q → ⊥
    by _ _ (one _ _ p q w s t) e = let a = leaves p w s in let b = comes_to w s.there in let c = ap (λ (x : ℕ × ℕ). x.1) (e ∙ sym t) in absurd (omega (arith, a, b, c))
    by _ _ (on _ _ p q r w way s t) e = let a = first p q way in let b = comes_to w s.there in let c = ap (λ (x : ℕ × ℕ). x.1) (e ∙ sym t) in absurd (omega (arith, a, b, c))

-- packets enter at element 0, element 1 makes bare packets, and element 2 takes frames alone
abbrev sample : Behavior
sample = record {
  leads = λ element input out. true;
  enters = λ element. element == 0;
  takes = λ element l. elim l as (λ _. Bool) [ Frame ↦ true | Bare ↦ element == 1 | Ip ↦ element == 1 | Framed ↦ element == 1 ];
  behind = λ element l out. if element == 1 then Bare else l;
}

clash : Clashes sample (wire 0 0 1 0 ∷ wire 1 0 2 0 ∷ []) 2
clash = (
  0,
  Bare,
  onward sample (wire 0 0 1 0 ∷ wire 1 0 2 0 ∷ []) (1, 0) (2, 0) Frame Bare (wire 1 0 2 0) (enters sample (wire 0 0 1 0 ∷ wire 1 0 2 0 ∷ []) (1, 0) Frame (wire 0 0 1 0) (0, omega arith, refl) refl refl refl) refl (record { there = (1, omega arith, refl); left = (refl, refl) }) refl refl,
  refl,
)
