-- Values and pieces of trees.
use Rattle.std.proofs.Common.{◌≡◌, ◌≢◌, ◌<◌, ◌≤◌, ℕ, suc, refl, sym, ◌∙◌, ap, subst, inl, inr, arith, eq-eqb, ◌==◌, cond, nat_le}
use Rattle.std.proofs.lemmas.Bool.{cond-true, cond-false, le-leb, lt-leb, cases_lt, ne_eqb}
use Rattle.mt_packet.specs.Header.{number_of}
use Rattle.mt_packet.specs.declared.field.Field.{Field}
use Rattle.mt_cuts.specs.Tree.{Tree, class, cut, broken, value_of, piece}
use Rattle.mt_cuts.specs.Canonical.{IsRest}
use Rattle.mt_cuts.specs.Boxes.{with_value}
use Rattle.mt_cuts.proofs.Fields.{cases_field, with_value_other}

pub value_low : (f : Field) (e : ℕ) (low high : Tree) (h : Field → ℕ) → h f ≤ e → value_of (cut f e low high) h ≡ value_of low h
value_low f e low high h le = cond-true (nat_le (h f) e) (value_of low h) (value_of high h) (le-leb (h f) e le)

pub value_high : (f : Field) (e : ℕ) (low high : Tree) (h : Field → ℕ) → e < h f → value_of (cut f e low high) h ≡ value_of high h
value_high f e low high h lt = cond-false (nat_le (h f) e) (value_of low h) (value_of high h) (lt-leb (h f) e lt)

pub piece_low : (f : Field) (at e : ℕ) (low high : Tree) → at ≤ e → piece f at (cut f e low high) ≡ low
piece_low f at e low high le =
    cond-true (number_of f == number_of f) (cond (nat_le at e) low (piece f at high)) (cut f e low high) (eq-eqb (number_of f) (number_of f) refl)
    ∙ cond-true (nat_le at e) low (piece f at high) (le-leb at e le)

pub piece_high : (f : Field) (at e : ℕ) (low high : Tree) → e < at → piece f at (cut f e low high) ≡ piece f at high
piece_high f at e low high lt =
    cond-true (number_of f == number_of f) (cond (nat_le at e) low (piece f at high)) (cut f e low high) (eq-eqb (number_of f) (number_of f) refl)
    ∙ cond-false (nat_le at e) low (piece f at high) (lt-leb at e lt)

pub piece_other : (f : Field) (at : ℕ) (g : Field) (e : ℕ) (low high : Tree) → number_of g ≢ number_of f → piece f at (cut g e low high) ≡ cut g e low high
piece_other f at g e low high apart =
    cond-false (number_of g == number_of f) (cond (nat_le at e) low (piece f at high)) (cut g e low high) (ne_eqb (number_of g) (number_of f) apart)

-- a tree whose first cut is of a field, or none
pub data Top (f : Field) : Tree → Type 0 where
  here : (e : ℕ) (low high : Tree) → Top f (cut f e low high)
  past : (g : Field) (e : ℕ) (low high : Tree) → number_of g ≢ number_of f → Top f (cut g e low high)
  one : (value : ℕ) → Top f (class value)
  nothing : Top f broken

pub top_of : (f : Field) (t : Tree) → Top f t
top_of f (class value) = one value
top_of f (cut g e low high) = elim (cases_field g f) [ inl same ↦ subst (λ (g : Field). Top f (cut g e low high)) (sym same) (here e low high) | inr apart ↦ past g e low high apart ]
top_of f broken = nothing

-- a tree whose first cut is of a later field
pub settle : (f : Field) (devices from : ℕ) (g : Field) (e : ℕ) (low high : Tree) → number_of g ≢ number_of f → IsRest devices (number_of f) from (cut g e low high) → IsRest devices (suc (number_of f)) 0 (cut g e low high)
settle f devices from g e low high apart r =
    record { rises = omega (arith, r.rises); from_least = r.from_least; goes_on = λ same. omega arith; before_last = r.before_last; low_rest = r.low_rest; high_rest = r.high_rest; apart = r.apart }

-- the piece at a value is the rest of a canonical tree on later fields
pub piece_rest : (devices : ℕ) (f : Field) (from at : ℕ) (t : Tree) → IsRest devices (number_of f) from t → IsRest devices (suc (number_of f)) 0 (piece f at t)
piece_rest devices f from at (class value) r = tt
piece_rest devices f from at broken r = absurd r
piece_rest devices f from at (cut g e low high) r =
    elim (cases_field g f) [
      | inl same ↦ subst (λ (g : Field). IsRest devices (number_of f) from (cut g e low high) → IsRest devices (suc (number_of f)) 0 (piece f at (cut g e low high))) (sym same) (at_field (λ (r : IsRest devices (number_of f) (suc e) high). piece_rest devices f (suc e) at high r)) r
      | inr apart ↦ subst (IsRest devices (suc (number_of f)) 0) (sym (piece_other f at g e low high apart)) (settle f devices from g e low high apart r)
    ]
  where
    at_field : (IsRest devices (number_of f) (suc e) high → IsRest devices (suc (number_of f)) 0 (piece f at high)) → IsRest devices (number_of f) from (cut f e low high) → IsRest devices (suc (number_of f)) 0 (piece f at (cut f e low high))
    at_field further r =
        elim (cases_lt e at) [
          | inl lt ↦ subst (IsRest devices (suc (number_of f)) 0) (sym (piece_high f at e low high lt)) (further r.high_rest)
          | inr le ↦ subst (IsRest devices (suc (number_of f)) 0) (sym (piece_low f at e low high le)) r.low_rest
        ]

-- a tree gives a header what its piece at the header's value gives it
pub value_piece : (f : Field) (t : Tree) (h : Field → ℕ) → value_of (piece f (h f) t) h ≡ value_of t h
value_piece f (class value) h = refl
value_piece f broken h = refl
value_piece f (cut g e low high) h =
    elim (cases_field g f) [
      | inl same ↦ subst (λ (g : Field). value_of (piece f (h f) (cut g e low high)) h ≡ value_of (cut g e low high) h) (sym same) (at_field (value_piece f high h))
      | inr apart ↦ ap (λ (t : Tree). value_of t h) (piece_other f (h f) g e low high apart)
    ]
  where
    at_field : value_of (piece f (h f) high) h ≡ value_of high h → value_of (piece f (h f) (cut f e low high)) h ≡ value_of (cut f e low high) h
    at_field further =
        elim (cases_lt e (h f)) [
          | inl lt ↦ ap (λ (t : Tree). value_of t h) (piece_high f (h f) e low high lt) ∙ (further ∙ sym (value_high f e low high h lt))
          | inr le ↦ ap (λ (t : Tree). value_of t h) (piece_low f (h f) e low high le) ∙ sym (value_low f e low high h le)
        ]

-- a tree on later fields does not see a field
pub value_blind : (devices settled from : ℕ) (f : Field) (at : ℕ) (t : Tree) (h : Field → ℕ) → IsRest devices settled from t → number_of f < settled → value_of t (with_value f at h) ≡ value_of t h
value_blind devices settled from f at (class value) h r lt = refl
value_blind devices settled from f at broken h r lt = refl
value_blind devices settled from f at (cut g e low high) h r lt =
    let same = with_value_other f at h g (λ e. omega (arith, r.rises, e)) in
    let below = value_blind devices (suc (number_of g)) 0 f at low h r.low_rest (omega (arith, r.rises)) in
    let behind = value_blind devices (number_of g) (suc e) f at high h r.high_rest (omega (arith, r.rises)) in
    either same below behind
  where
    either : {a b : ℕ} {x y u v : ℕ} → a ≡ b → x ≡ u → y ≡ v → cond (nat_le a e) x y ≡ cond (nat_le b e) u v
    either p q s = cc
