-- The boxes of the leaves of a canonical tree.
use Rattle.std.proofs.Common.{◌≡◌, ◌≢◌, ◌⊎◌, ◌+◌, ◌<◌, ◌≤◌, ℕ, zero, suc, nat_le, List, [], ◌∷◌, ◌++◌, length, slice_get, slice_set, unwrap_or, Option, Some, None, refl, sym, ◌∙◌, ap, subst, inl, inr, arith}
use Rattle.std.specs.Prelude.{slice_index}
use Rattle.std.proofs.lemmas.Bool.{cond-true, cond-false, le-leb, lt-leb, cases_eq}
use Rattle.std.proofs.lemmas.Option.{slice_get_within}
use Rattle.mt_packet.specs.Header.{number_of, field_of}
use Rattle.mt_packet.specs.declared.field.Field.{Field}
use Rattle.mt_packet.specs.declared.span.Span.{Span}
use Rattle.mt_boxes.specs.Boxes.{InBox, IsBox, corner, header_ranges}
use Rattle.mt_boxes.specs.Least.{IsAtMost}
use Rattle.mt_boxes.proofs.Headers.{number_below}
use Rattle.mt_boxes.proofs.Meets.{box_length, corner_in}
use Rattle.mt_cuts.specs.Tree.{Tree, class, cut, broken, value_of}
use Rattle.mt_cuts.specs.Canonical.{IsRest, IsCut, least_of, last_of}
use Rattle.mt_cuts.specs.Leaves.{up_to, behind, leaves_of}
use Rattle.mt_cuts.specs.declared.leaves.Leaf.{Leaf}
use Rattle.mt_synth.proofs.Places.{same_Some, there, in_front, in_back, in_either, set_here, set_other}
use Rattle.mt_synth.proofs.BoxSpans.{within_there, in_wider, in_narrower, formed_narrower, AreSame, corner_below}

-- the leaf of that number
abbrev pub IsLeaf : List Leaf → ℕ → Leaf → Type 0
IsLeaf leaves at leaf = slice_get leaves at ≡ Some leaf

-- leaves that share out a box among them, in order; the spans of the first fields are those of the box
pub record AreLeaves (spans : List Span) (settled : ℕ) (function : (Field → ℕ) → ℕ) (leaves : List Leaf) : Type 0 where
  pub formed : (at : ℕ) (leaf : Leaf) → IsLeaf leaves at leaf → IsBox header_ranges leaf.spans
  pub inside : (at : ℕ) (leaf : Leaf) (header : List ℕ) → IsLeaf leaves at leaf → InBox leaf.spans header → InBox spans header
  pub value : (at : ℕ) (leaf : Leaf) (header : List ℕ) → IsLeaf leaves at leaf → InBox leaf.spans header → function (field_of header) ≡ leaf.value
  pub covers : (header : List ℕ) → InBox spans header → (at : ℕ) × (leaf : Leaf) × IsLeaf leaves at leaf × InBox leaf.spans header
  pub apart : (i j : ℕ) (leaf other : Leaf) (header : List ℕ) → IsLeaf leaves i leaf → IsLeaf leaves j other → InBox leaf.spans header → InBox other.spans header → i ≡ j
  pub ascend : (i j : ℕ) (leaf other : Leaf) (header : List ℕ) → i < j → IsLeaf leaves i leaf → IsLeaf leaves j other → InBox other.spans header → IsAtMost (corner leaf.spans) header
  pub same : (at : ℕ) (leaf : Leaf) → IsLeaf leaves at leaf → AreSame settled leaf.spans spans

-- the span of a field that is still to be cut
pub record IsRoom (devices settled from : ℕ) (field : Field) (span : Span) : Type 0 where
  pub to_last : span.hi ≡ last_of devices field
  pub from_low : (end : ℕ) → least_of field ≤ end → (number_of field ≡ settled → from ≤ end) → span.lo ≤ end

-- the box in which a tree stands
pub record Fits (devices settled from : ℕ) (spans : List Span) : Type 0 where
  pub formed : IsBox header_ranges spans
  pub room : (field : Field) (span : Span) → settled ≤ number_of field → slice_get spans (number_of field) ≡ Some span → IsRoom devices settled from field span

-- ---- one cut

up_to_is : (spans : List Span) (f : Field) (e : ℕ) (s : Span) → slice_get spans (number_of f) ≡ Some s → up_to spans f e ≡ slice_set spans (number_of f) (record { lo = s.lo; hi = e })
up_to_is spans f e s is = ap (λ (o : Option Span). slice_set spans (number_of f) (record { lo = (unwrap_or o (record { lo = 0; hi = 0 })).lo; hi = e })) is

behind_is : (spans : List Span) (f : Field) (e : ℕ) (s : Span) → slice_get spans (number_of f) ≡ Some s → behind spans f e ≡ slice_set spans (number_of f) (record { lo = suc e; hi = s.hi })
behind_is spans f e s is = ap (λ (o : Option Span). slice_set spans (number_of f) (record { lo = suc e; hi = (unwrap_or o (record { lo = 0; hi = 0 })).hi })) is

field_below : (spans : List Span) (f : Field) → IsBox header_ranges spans → number_of f < length spans
field_below spans f formed = let below = number_below f in let whole = box_length header_ranges spans formed in omega (arith, below, whole)

le_or : (a b : ℕ) → (a ≤ b) ⊎ (b < a)
le_or a b = grind arith

module _ (d settled from : ℕ) (spans : List Span) (f : Field) (e : ℕ) (low high : Tree) (s : Span) (is : slice_get spans (number_of f) ≡ Some s) (fits : Fits d settled from spans)
    (c : IsCut d settled from f e low high (IsRest d (suc (number_of f)) 0 low) (IsRest d (number_of f) (suc e) high)) where
  begins : s.lo ≤ e
  begins = (fits.room f s c.rises is).from_low e c.from_least c.goes_on

  ends : e < s.hi
  ends = let a = c.before_last in let b = (fits.room f s c.rises is).to_last in omega (arith, a, b)

  low_there : slice_get (slice_set spans (number_of f) (record { lo = s.lo; hi = e })) (number_of f) ≡ Some (record { lo = s.lo; hi = e })
  low_there = set_here spans (number_of f) (record { lo = s.lo; hi = e }) (slice_get_within spans (number_of f) s is)

  high_there : slice_get (slice_set spans (number_of f) (record { lo = suc e; hi = s.hi })) (number_of f) ≡ Some (record { lo = suc e; hi = s.hi })
  high_there = set_here spans (number_of f) (record { lo = suc e; hi = s.hi }) (slice_get_within spans (number_of f) s is)

  pub low_fits : Fits d (suc (number_of f)) 0 (slice_set spans (number_of f) (record { lo = s.lo; hi = e }))
  low_fits = record {
    formed = formed_narrower header_ranges spans (number_of f) s (record { lo = s.lo; hi = e }) is begins (let b = ends in omega (arith, b)) fits.formed;
    room = λ g t later at. (let old = fits.room g t (let r = c.rises in omega (arith, r, later)) (sym (set_other spans (number_of f) (number_of g) (record { lo = s.lo; hi = e }) (λ q. omega (arith, q, later))) ∙ at) in record {
      to_last = old.to_last;
      from_low = λ end least next. old.from_low end least (λ q. let r = c.rises in absurd (omega (arith, q, r, later)));
    });
  }

  pub high_fits : Fits d (number_of f) (suc e) (slice_set spans (number_of f) (record { lo = suc e; hi = s.hi }))
  high_fits = record {
    formed = formed_narrower header_ranges spans (number_of f) s (record { lo = suc e; hi = s.hi }) is (let b = ends in omega (arith, b)) (omega arith) fits.formed;
    room = λ g t later at. elim (cases_eq (number_of g) (number_of f)) [
      | inl same ↦ here g t same later at
      | inr apart ↦ other g t apart later at
    ];
  }
    where
      here : (g : Field) (t : Span) → number_of g ≡ number_of f → number_of f ≤ number_of g → slice_get (slice_set spans (number_of f) (record { lo = suc e; hi = s.hi })) (number_of g) ≡ Some t → IsRoom d (number_of f) (suc e) g t
      here g t same later at =
          let q : record { lo = suc e; hi = s.hi } ≡ t = same_Some (record { lo = suc e; hi = s.hi }) t (sym high_there ∙ (ap (slice_get (slice_set spans (number_of f) (record { lo = suc e; hi = s.hi }))) (sym same) ∙ at)) in
          let old = fits.room g s (let r = c.rises in omega (arith, r, later)) (ap (slice_get spans) same ∙ is) in
          subst (λ (t : Span). IsRoom d (number_of f) (suc e) g t) q (record { to_last = old.to_last; from_low = λ end least next. next same })

      other : (g : Field) (t : Span) → number_of g ≢ number_of f → number_of f ≤ number_of g → slice_get (slice_set spans (number_of f) (record { lo = suc e; hi = s.hi })) (number_of g) ≡ Some t → IsRoom d (number_of f) (suc e) g t
      other g t apart later at =
          let old = fits.room g t (let r = c.rises in omega (arith, r, later)) (sym (set_other spans (number_of f) (number_of g) (record { lo = suc e; hi = s.hi }) apart) ∙ at) in
          let r = c.rises in
          record { to_last = old.to_last; from_low = λ end least next. old.from_low end least (λ q. absurd (apart (let k : number_of g ≡ number_of f = omega (arith, q, r, later) in k))) }

  module _ (ls hs : List Leaf) (a : AreLeaves (slice_set spans (number_of f) (record { lo = s.lo; hi = e })) (suc (number_of f)) (value_of low) ls)
      (b : AreLeaves (slice_set spans (number_of f) (record { lo = suc e; hi = s.hi })) (number_of f) (value_of high) hs) where
    is_low : (header : List ℕ) → InBox (slice_set spans (number_of f) (record { lo = s.lo; hi = e })) header → slice_index header (number_of f) ≤ e
    is_low header i = (within_there (slice_set spans (number_of f) (record { lo = s.lo; hi = e })) header (number_of f) (record { lo = s.lo; hi = e }) low_there i).1

    is_high : (header : List ℕ) → InBox (slice_set spans (number_of f) (record { lo = suc e; hi = s.hi })) header → e < slice_index header (number_of f)
    is_high header i = (within_there (slice_set spans (number_of f) (record { lo = suc e; hi = s.hi })) header (number_of f) (record { lo = suc e; hi = s.hi }) high_there i).0

    divided : (i j : ℕ) (leaf other : Leaf) (header : List ℕ) → IsLeaf ls i leaf → IsLeaf hs j other → InBox leaf.spans header → InBox other.spans header → ⊥
    divided i j leaf other header p q m n = let l = is_low header (a.inside i leaf header p m) in let h = is_high header (b.inside j other header q n) in omega (arith, l, h)

    same_low : (i : ℕ) (leaf : Leaf) → IsLeaf ls i leaf → AreSame (number_of f) leaf.spans spans
    same_low i leaf p k lt = a.same i leaf p k (omega arith) ∙ set_other spans (number_of f) k (record { lo = s.lo; hi = e }) (λ q. omega (arith, q, lt))

    same_high : (j : ℕ) (leaf : Leaf) → IsLeaf hs j leaf → AreSame (number_of f) leaf.spans spans
    same_high j leaf p k lt = b.same j leaf p k lt ∙ set_other spans (number_of f) k (record { lo = suc e; hi = s.hi }) (λ q. omega (arith, q, lt))

    below : (i j : ℕ) (leaf other : Leaf) (header : List ℕ) → IsLeaf ls i leaf → IsLeaf hs j other → InBox other.spans header → IsAtMost (corner leaf.spans) header
    below i j leaf other header p q n =
        let formed = a.formed i leaf p in
        let l = is_low (corner leaf.spans) (a.inside i leaf (corner leaf.spans) p (corner_in header_ranges leaf.spans formed)) in
        let h = is_high header (b.inside j other header q n) in
        corner_below leaf.spans other.spans header (number_of f) (λ k lt. same_low i leaf p k lt ∙ sym (same_high j other q k lt)) n (field_below leaf.spans f formed) (omega (arith, l, h))

    covered : (header : List ℕ) → InBox spans header → (at : ℕ) × (leaf : Leaf) × IsLeaf (ls ++ hs) at leaf × InBox leaf.spans header
    covered header i =
        let w = within_there spans header (number_of f) s is i in
        elim (le_or (slice_index header (number_of f)) e) [
          | inl le ↦ (let m = a.covers header (in_narrower spans header (number_of f) (record { lo = s.lo; hi = e }) i (w.0, le)) in (m.0, m.1, in_front ls hs m.0 m.1 m.2, m.3))
          | inr lt ↦ (let m = b.covers header (in_narrower spans header (number_of f) (record { lo = suc e; hi = s.hi }) i (lt, w.1)) in (length ls + m.0, m.1, in_back ls hs m.0 (length ls + m.0) m.1 refl m.2, m.3))
        ]

    pub both_sides : AreLeaves spans settled (value_of (cut f e low high)) (ls ++ hs)
    both_sides = record {
      formed = λ at leaf p. elim (in_either ls hs at leaf p) [ inl q ↦ a.formed at leaf q | inr q ↦ b.formed q.0 leaf q.2 ];
      inside = λ at leaf header p i. elim (in_either ls hs at leaf p) [
        | inl q ↦ in_wider spans header (number_of f) s (record { lo = s.lo; hi = e }) is (omega arith) (let x = ends in omega (arith, x)) (a.inside at leaf header q i)
        | inr q ↦ in_wider spans header (number_of f) s (record { lo = suc e; hi = s.hi }) is (let x = begins in omega (arith, x)) (omega arith) (b.inside q.0 leaf header q.2 i)
      ];
      value = λ at leaf header p i. elim (in_either ls hs at leaf p) [
        | inl q ↦ cond-true (nat_le (field_of header f) e) (value_of low (field_of header)) (value_of high (field_of header)) (le-leb (field_of header f) e (is_low header (a.inside at leaf header q i))) ∙ a.value at leaf header q i
        | inr q ↦ cond-false (nat_le (field_of header f) e) (value_of low (field_of header)) (value_of high (field_of header)) (lt-leb (field_of header f) e (is_high header (b.inside q.0 leaf header q.2 i))) ∙ b.value q.0 leaf header q.2 i
      ];
      covers = covered;
      apart = λ i j leaf other header p q m n. elim (in_either ls hs i leaf p) [
        | inl x ↦ (elim (in_either ls hs j other q) [ inl y ↦ a.apart i j leaf other header x y m n | inr y ↦ absurd (divided i y.0 leaf other header x y.2 m n) ])
        | inr x ↦ (elim (in_either ls hs j other q) [
          | inl y ↦ absurd (divided j x.0 other leaf header y x.2 n m)
          | inr y ↦ x.1 ∙ (ap (λ k. length ls + k) (b.apart x.0 y.0 leaf other header x.2 y.2 m n) ∙ sym y.1)
        ])
      ];
      ascend = λ i j leaf other header lt p q n. elim (in_either ls hs i leaf p) [
        | inl x ↦ (elim (in_either ls hs j other q) [ inl y ↦ a.ascend i j leaf other header lt x y n | inr y ↦ below i y.0 leaf other header x y.2 n ])
        | inr x ↦ (elim (in_either ls hs j other q) [
          | inl y ↦ (let k = slice_get_within ls j other y in let u = x.1 in absurd (omega (arith, lt, k, u)))
          | inr y ↦ (let u = x.1 in let v = y.1 in b.ascend x.0 y.0 leaf other header (omega (arith, lt, u, v)) x.2 y.2 n)
        ])
      ];
      same = λ at leaf p. elim (in_either ls hs at leaf p) [
        | inl q ↦ (λ k lt. (let r = c.rises in same_low at leaf q k (omega (arith, lt, r))))
        | inr q ↦ (λ k lt. (let r = c.rises in same_high q.0 leaf q.2 k (omega (arith, lt, r))))
      ];
    }

-- ---- a whole tree

alone : (one leaf : Leaf) (at : ℕ) → IsLeaf (one ∷ []) at leaf → (at ≡ 0) × (one ≡ leaf)
alone one leaf zero p = (refl, same_Some one leaf p)
alone one leaf (suc at) p = absurd (let q : None ≡ Some leaf = p in cc)

one_leaf : (d settled from value : ℕ) (spans : List Span) → Fits d settled from spans → AreLeaves spans settled (value_of (class value)) (record { spans = spans; value = value } ∷ [])
one_leaf d settled from value spans fits = record {
  formed = λ at leaf p. subst (λ (l : Leaf). IsBox header_ranges l.spans) (alone (record { spans = spans; value = value }) leaf at p).1 fits.formed;
  inside = λ at leaf header p i. subst (λ (l : Leaf). InBox l.spans header) (sym (alone (record { spans = spans; value = value }) leaf at p).1) i;
  value = λ at leaf header p i. ap (λ (l : Leaf). l.value) (alone (record { spans = spans; value = value }) leaf at p).1;
  covers = λ header i. (0, record { spans = spans; value = value }, refl, i);
  apart = λ i j leaf other header p q m n. (alone (record { spans = spans; value = value }) leaf i p).0 ∙ sym (alone (record { spans = spans; value = value }) other j q).0;
  ascend = λ i j leaf other header lt p q n. (let u = (alone (record { spans = spans; value = value }) other j q).0 in absurd (omega (arith, lt, u)));
  same = λ at leaf p k lt. ap (λ (l : Leaf). slice_get l.spans k) (sym (alone (record { spans = spans; value = value }) leaf at p).1);
}

pub leaves_within : (d settled from : ℕ) (spans : List Span) (t : Tree) → Fits d settled from spans → IsRest d settled from t → AreLeaves spans settled (value_of t) (leaves_of spans t)
leaves_within d settled from spans (class value) fits r = one_leaf d settled from value spans fits
leaves_within d settled from spans broken fits r = absurd r
leaves_within d settled from spans (cut f e low high) fits r =
    let at = there spans (number_of f) (field_below spans f fits.formed) in
    subst (λ (ss : List Span). AreLeaves spans settled (value_of (cut f e low high)) (leaves_of ss low ++ leaves_of (behind spans f e) high)) (sym (up_to_is spans f e at.0 at.1))
    (subst (λ (ss : List Span). AreLeaves spans settled (value_of (cut f e low high)) (leaves_of (slice_set spans (number_of f) (record { lo = at.0.lo; hi = e })) low ++ leaves_of ss high)) (sym (behind_is spans f e at.0 at.1))
    (both_sides d settled from spans f e low high at.0 at.1 fits r
    (leaves_of (slice_set spans (number_of f) (record { lo = at.0.lo; hi = e })) low) (leaves_of (slice_set spans (number_of f) (record { lo = suc e; hi = at.0.hi })) high)
    (leaves_within d (suc (number_of f)) 0 (slice_set spans (number_of f) (record { lo = at.0.lo; hi = e })) low (low_fits d settled from spans f e low high at.0 at.1 fits r) r.low_rest)
    (leaves_within d (number_of f) (suc e) (slice_set spans (number_of f) (record { lo = suc e; hi = at.0.hi })) high (high_fits d settled from spans f e low high at.0 at.1 fits r) r.high_rest)))
