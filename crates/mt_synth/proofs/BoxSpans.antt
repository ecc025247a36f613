-- A box with another span of one field.
use Rattle.std.proofs.Common.{◌≡◌, ◌⊎◌, ◌<◌, ◌≤◌, ℕ, zero, suc, List, [], ◌∷◌, length, slice_get, slice_set, Some, None, sym, subst, inl, inr, arith}
use Rattle.std.specs.Prelude.{slice_index}
use Rattle.mt_packet.specs.declared.span.Span.{Span}
use Rattle.mt_boxes.specs.Boxes.{IsWithin, InBox, IsBox, corner}
use Rattle.mt_boxes.specs.Least.{IsAtMost}
use Rattle.mt_synth.proofs.Places.{same_Some}

-- the value at a place lies in the span there
pub within_there : (spans : List Span) (header : List ℕ) (n : ℕ) (s : Span) → slice_get spans n ≡ Some s → InBox spans header → IsWithin s (slice_index header n)
within_there [] header n s e i = absurd (let q : None ≡ Some s = e in cc)
within_there (span ∷ spans) [] n s e i = absurd i
within_there (span ∷ spans) (value ∷ values) zero s e i = subst (λ (s : Span). IsWithin s value) (same_Some span s e) i.0
within_there (span ∷ spans) (value ∷ values) (suc n) s e i = within_there spans values n s e i.1

-- a narrower span keeps less
pub in_wider : (spans : List Span) (header : List ℕ) (n : ℕ) (s t : Span) → slice_get spans n ≡ Some s → s.lo ≤ t.lo → t.hi ≤ s.hi → InBox (slice_set spans n t) header → InBox spans header
in_wider [] header n s t e l h i = i
in_wider (span ∷ spans) [] zero s t e l h i = absurd i
in_wider (span ∷ spans) [] (suc n) s t e l h i = absurd i
in_wider (span ∷ spans) (value ∷ values) zero s t e l h i =
    let w = i.0 in (subst (λ (s : Span). IsWithin s value) (sym (same_Some span s e)) (omega arith, omega arith), i.1)
in_wider (span ∷ spans) (value ∷ values) (suc n) s t e l h i = (i.0, in_wider spans values n s t e l h i.1)

pub in_narrower : (spans : List Span) (header : List ℕ) (n : ℕ) (t : Span) → InBox spans header → IsWithin t (slice_index header n) → InBox (slice_set spans n t) header
in_narrower [] header n t i w = i
in_narrower (span ∷ spans) [] n t i w = absurd i
in_narrower (span ∷ spans) (value ∷ values) zero t i w = (w, i.1)
in_narrower (span ∷ spans) (value ∷ values) (suc n) t i w = (i.0, in_narrower spans values n t i.1 w)

pub formed_there : (ranges : List ℕ) (spans : List Span) (n : ℕ) (s : Span) → slice_get spans n ≡ Some s → IsBox ranges spans → s.lo ≤ s.hi
formed_there [] [] n s e f = absurd (let q : None ≡ Some s = e in cc)
formed_there [] (span ∷ spans) n s e f = absurd f
formed_there (last ∷ ranges) [] n s e f = absurd f
formed_there (last ∷ ranges) (span ∷ spans) zero s e f = subst (λ (s : Span). s.lo ≤ s.hi) (same_Some span s e) f.0.0
formed_there (last ∷ ranges) (span ∷ spans) (suc n) s e f = formed_there ranges spans n s e f.1

pub formed_narrower : (ranges : List ℕ) (spans : List Span) (n : ℕ) (s t : Span) → slice_get spans n ≡ Some s → t.lo ≤ t.hi → t.hi ≤ s.hi → IsBox ranges spans → IsBox ranges (slice_set spans n t)
formed_narrower [] [] n s t e l h f = f
formed_narrower [] (span ∷ spans) n s t e l h f = absurd f
formed_narrower (last ∷ ranges) [] n s t e l h f = absurd f
formed_narrower (last ∷ ranges) (span ∷ spans) zero s t e l h f =
    let top : s.hi ≤ last = subst (λ (s : Span). s.hi ≤ last) (same_Some span s e) f.0.1 in ((l, omega arith), f.1)
formed_narrower (last ∷ ranges) (span ∷ spans) (suc n) s t e l h f = (f.0, formed_narrower ranges spans n s t e l h f.1)

-- the spans of the first fields are the same
abbrev pub AreSame : ℕ → List Span → List Span → Type 0
AreSame settled spans others = (k : ℕ) → k < settled → slice_get spans k ≡ slice_get others k

-- the corner of a box is below a header that is above it in the first field in which they differ
pub corner_below : (spans others : List Span) (header : List ℕ) (n : ℕ) → AreSame n spans others → InBox others header → n < length spans
    → slice_index (corner spans) n < slice_index header n → IsAtMost (corner spans) header
corner_below [] others header n same i lt less = tt
corner_below (span ∷ spans) others [] zero same i lt less = absurd (omega (arith, less))
corner_below (span ∷ spans) others (value ∷ values) zero same i lt less = inl less
corner_below (span ∷ spans) [] header (suc n) same i lt less = absurd (let q : Some span ≡ None = same 0 (omega arith) in cc)
corner_below (span ∷ spans) (other ∷ others) [] (suc n) same i lt less = absurd i
corner_below (span ∷ spans) (other ∷ others) (value ∷ values) (suc n) same i lt less =
    let one : span ≡ other = same_Some span other (same 0 (omega arith)) in
    let low : span.lo ≤ value = subst (λ (s : Span). s.lo ≤ value) (sym one) i.0.0 in
    let rest = corner_below spans others values n (λ k below. same (suc k) (omega arith)) i.1 (omega arith) less in
    elim (le_cases span.lo value low) [ inl below ↦ inl below | inr equal ↦ inr (equal, rest) ]
  where
    le_cases : (a b : ℕ) → a ≤ b → (a < b) ⊎ (a ≡ b)
    le_cases a b le = grind arith
