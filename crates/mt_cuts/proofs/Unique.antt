-- Two canonical trees that give each header of the domain the same value are equal.
use Rattle.std.proofs.Common.{◌≡◌, ◌+◌, ◌<◌, ◌≤◌, ℕ, suc, refl, sym, ◌∙◌, ap, subst, inl, inr, arith, zero}
use Rattle.std.proofs.lemmas.Bool.{cases_order}
use Rattle.mt_packet.specs.Header.{number_of}
use Rattle.mt_packet.specs.declared.field.Field.{Field}
use Rattle.mt_packet.specs.declared.field.Field.TheVariants.{Device}
use Rattle.mt_cuts.specs.Tree.{Tree, class, cut, broken, value_of, piece}
use Rattle.mt_cuts.specs.Canonical.{least_of, last_of, IsRest, IsCanonical, InDomain, SameValues}
use Rattle.mt_cuts.specs.Boxes.{with_value}
use Rattle.mt_cuts.proofs.Fields.{cases_field, field_numbered, number_numbered, number_below, number_injective, with_value_other, with_value_same}
use Rattle.mt_cuts.proofs.Trees.{piece_low, piece_high, piece_other, Top, here, past, one, nothing, top_of, piece_rest, value_piece, value_blind}

-- a tree that cuts a field has two pieces that differ
changes : (devices : ℕ) (f : Field) (from e : ℕ) (low high : Tree) → IsRest devices (number_of f) from (cut f e low high) → (x : Tree) → ((at : ℕ) → from ≤ at → at ≤ last_of devices f → piece f at (cut f e low high) ≡ x) → ⊥
changes devices f from e low high r x same =
    let up_to = sym (piece_low f from e low high (r.goes_on refl)) ∙ same from (omega arith) (omega (arith, r.goes_on refl, r.before_last)) in
    let behind = sym (piece_high f (suc e) e low high (omega arith)) ∙ same (suc e) (omega (arith, r.goes_on refl)) (omega (arith, r.before_last)) in
    r.apart (up_to ∙ sym behind)

-- two trees have the same pieces from a value on
abbrev SamePieces : ℕ → Field → ℕ → Tree → Tree → Type 0
SamePieces devices f from t u = (at : ℕ) → from ≤ at → at ≤ last_of devices f → piece f at t ≡ piece f at u

-- behind an end: what is left of two nodes with the same pieces
abbrev Again : ℕ → Field → ℕ → Type 0
Again devices f from =
    (e : ℕ) → from ≤ e → e < last_of devices f → (t u : Tree) → IsRest devices (number_of f) (suc e) t → IsRest devices (number_of f) (suc e) u
    → SamePieces devices f (suc e) t u → t ≡ u

two_nodes : (devices : ℕ) (f : Field) (from e i : ℕ) (low high low' high' : Tree) → IsRest devices (number_of f) from (cut f e low high) → IsRest devices (number_of f) from (cut f i low' high') → SamePieces devices f from (cut f e low high) (cut f i low' high') → Again devices f from → cut f e low high ≡ cut f i low' high'
two_nodes devices f from e i low high low' high' r s same again =
    let lows : low ≡ low' = sym (piece_low f from e low high (r.goes_on refl)) ∙ (same from (omega arith) (omega (arith, r.goes_on refl, r.before_last)) ∙ piece_low f from i low' high' (s.goes_on refl)) in
    elim (cases_order e i) [
      | inl equal ↦ at_one_end equal lows r s same again
      | inr (inl lt) ↦ absurd (r.apart (lows ∙ sym (sym (piece_high f (suc e) e low high (omega arith)) ∙ (same (suc e) (omega (arith, r.goes_on refl)) (omega (arith, r.before_last)) ∙ piece_low f (suc e) i low' high' (omega arith)))))
      | inr (inr lt) ↦ absurd (s.apart (sym lows ∙ (sym (piece_low f (suc i) e low high (omega arith)) ∙ (same (suc i) (omega (arith, s.goes_on refl)) (omega (arith, s.before_last)) ∙ piece_high f (suc i) i low' high' (omega arith)))))
    ]
  where
    at_one_end : e ≡ i → low ≡ low' → IsRest devices (number_of f) from (cut f e low high) → IsRest devices (number_of f) from (cut f i low' high') → SamePieces devices f from (cut f e low high) (cut f i low' high') → Again devices f from → cut f e low high ≡ cut f i low' high'
    at_one_end equal lows r s same again =
        let highs : high ≡ high' =
        again e (r.goes_on refl) r.before_last high high' r.high_rest (subst (λ (n : ℕ). IsRest devices (number_of f) (suc n) high') (sym equal) s.high_rest)
        (λ at from_e to_last. sym (piece_high f at e low high (omega arith)) ∙ (same at (omega (arith, r.goes_on refl)) to_last ∙ piece_high f at i low' high' (omega arith)))
        in cc

compared : (devices : ℕ) (f : Field) (from : ℕ) (t u : Tree) → Top f t → Top f u → IsRest devices (number_of f) from t → IsRest devices (number_of f) from u → from ≤ last_of devices f → SamePieces devices f from t u → Again devices f from → t ≡ u
compared devices f from _ _ (here e low high) (here i low' high') r s room same again = two_nodes devices f from e i low high low' high' r s same again
compared devices f from _ _ (here e low high) (past g i low' high' apart) r s room same again = absurd (changes devices f from e low high r (cut g i low' high') (λ at a b. same at a b ∙ piece_other f at g i low' high' apart))
compared devices f from _ _ (here e low high) (one value) r s room same again = absurd (changes devices f from e low high r (class value) same)
compared devices f from _ _ (past g i low' high' apart) (here e low high) r s room same again = absurd (changes devices f from e low high s (cut g i low' high') (λ at a b. sym (same at a b) ∙ piece_other f at g i low' high' apart))
compared devices f from _ _ (one value) (here e low high) r s room same again = absurd (changes devices f from e low high s (class value) (λ at a b. sym (same at a b)))
compared devices f from _ _ (past g i low' high' apart) (past g' j l h apart') r s room same again = sym (piece_other f from g i low' high' apart) ∙ (same from (omega arith) room ∙ piece_other f from g' j l h apart')
compared devices f from _ _ (past g i low' high' apart) (one value) r s room same again = sym (piece_other f from g i low' high' apart) ∙ same from (omega arith) room
compared devices f from _ _ (one value) (past g i low' high' apart) r s room same again = same from (omega arith) room ∙ piece_other f from g i low' high' apart
compared devices f from _ _ (one value) (one value') r s room same again = same from (omega arith) room
compared devices f from _ _ nothing _ r s room same again = absurd r
compared devices f from _ _ (here e low high) nothing r s room same again = absurd s
compared devices f from _ _ (past g i low' high' apart) nothing r s room same again = absurd s
compared devices f from _ _ (one value) nothing r s room same again = absurd s

-- trees that have the same pieces from a value on are equal
pub by_pieces : (devices : ℕ) (f : Field) (left from : ℕ) (t u : Tree) → last_of devices f ≤ from + left → IsRest devices (number_of f) from t → IsRest devices (number_of f) from u → from ≤ last_of devices f → SamePieces devices f from t u → t ≡ u
by_pieces devices f zero from t u most r s room same = compared devices f from t u (top_of f t) (top_of f u) r s room same (λ e a b t u r s same. absurd (omega arith))
by_pieces devices f (suc left) from t u most r s room same =
    compared devices f from t u (top_of f t) (top_of f u) r s room same
    (λ e a b t u r s same. by_pieces devices f left (suc e) t u (omega arith) r s (omega arith) same)

-- a canonical tree begins at the least value
pub from_least : (devices : ℕ) (f : Field) (t : Tree) → IsRest devices (number_of f) 0 t → IsRest devices (number_of f) (least_of f) t
from_least devices f (class value) r = tt
from_least devices f broken r = r
from_least devices f (cut g e low high) r =
    record { rises = r.rises; from_least = r.from_least; goes_on = λ same. subst (λ (g : Field). least_of g ≤ e) (number_injective g f same) r.from_least; before_last = r.before_last; low_rest = r.low_rest; high_rest = r.high_rest; apart = r.apart }

in_domain_with : (devices : ℕ) (f : Field) (at : ℕ) (h : Field → ℕ) → InDomain devices h → least_of f ≤ at → at ≤ last_of devices f → InDomain devices (with_value f at h)
in_domain_with devices f at h inside low high = record {
  from_least = λ g. elim (cases_field g f) [
    | inl same ↦ subst (λ (g : Field). least_of g ≤ with_value f at h g) (sym same) (subst (λ (n : ℕ). least_of f ≤ n) (sym (with_value_same f at h)) low)
    | inr apart ↦ subst (λ (n : ℕ). least_of g ≤ n) (sym (with_value_other f at h g apart)) (inside.from_least g)
  ];
  to_last = λ g. elim (cases_field g f) [
    | inl same ↦ subst (λ (g : Field). with_value f at h g ≤ last_of devices g) (sym same) (subst (λ (n : ℕ). n ≤ last_of devices f) (sym (with_value_same f at h)) high)
    | inr apart ↦ subst (λ (n : ℕ). n ≤ last_of devices g) (sym (with_value_other f at h g apart)) (inside.to_last g)
  ];
}

same_pieces : (devices : ℕ) (f : Field) (at : ℕ) (t u : Tree) → IsRest devices (number_of f) 0 t → IsRest devices (number_of f) 0 u → least_of f ≤ at → at ≤ last_of devices f → SameValues devices t u → SameValues devices (piece f at t) (piece f at u)
same_pieces devices f at t u r s low high same h inside =
    let moved : Field → ℕ = with_value f at h in
    seen t r ∙ (same moved (in_domain_with devices f at h inside low high) ∙ sym (seen u s))
  where
    seen : (t : Tree) → IsRest devices (number_of f) 0 t → value_of (piece f at t) h ≡ value_of t (with_value f at h)
    seen t r =
        sym (value_blind devices (suc (number_of f)) 0 f at (piece f at t) h (piece_rest devices f 0 at t r) (omega arith))
        ∙ (ap (λ (n : ℕ). value_of (piece f n t) (with_value f at h)) (sym (with_value_same f at h)) ∙ value_piece f t (with_value f at h))

-- each field has a value
least_below : (devices : ℕ) (f : Field) → 0 < devices → least_of f ≤ last_of devices f
least_below devices Device some = omega arith
least_below devices _ some = omega arith

-- the header of the least values
least_inside : (devices : ℕ) → 0 < devices → InDomain devices least_of
least_inside devices some = record { from_least = λ f. omega arith; to_last = λ f. least_below devices f some }

-- where the pieces of a field are equal as soon as they have the same values, so are the trees
one_more : (devices : ℕ) (f : Field) (t u : Tree) → 0 < devices → IsRest devices (number_of f) 0 t → IsRest devices (number_of f) 0 u → SameValues devices t u
    → ((v w : Tree) → IsRest devices (suc (number_of f)) 0 v → IsRest devices (suc (number_of f)) 0 w → SameValues devices v w → v ≡ w) → t ≡ u
one_more devices f t u some r s same further =
    by_pieces devices f (last_of devices f) (least_of f) t u (omega arith) (from_least devices f t r) (from_least devices f u s) (least_below devices f some)
    (λ at low high. further (piece f at t) (piece f at u) (piece_rest devices f 0 at t r) (piece_rest devices f 0 at u s) (same_pieces devices f at t u r s low high same))

pub unique_from : (devices left settled : ℕ) (t u : Tree) → 0 < devices → settled + left ≡ 24 → IsRest devices settled 0 t → IsRest devices settled 0 u → SameValues devices t u → t ≡ u
unique_from devices zero settled t u some count r s same = all_settled t u r s (same least_of (least_inside devices some))
  where
    all_settled : (t u : Tree) → IsRest devices settled 0 t → IsRest devices settled 0 u → value_of t least_of ≡ value_of u least_of → t ≡ u
    all_settled (class value) (class value') r s e = ap class e
    all_settled (cut g e low high) u r s same = absurd (omega (arith, r.rises, number_below g))
    all_settled broken u r s same = absurd r
    all_settled (class value) (cut g e low high) r s same = absurd (omega (arith, s.rises, number_below g))
    all_settled (class value) broken r s same = absurd s
unique_from devices (suc left) settled t u some count r s same =
    subst (λ (n : ℕ). IsRest devices n 0 t → IsRest devices n 0 u → ((v w : Tree) → IsRest devices (suc n) 0 v → IsRest devices (suc n) 0 w → SameValues devices v w → v ≡ w) → t ≡ u)
    (number_numbered settled (omega arith)) (λ r s further. one_more devices (field_numbered settled) t u some r s same further) r s
    (λ v w r s same. unique_from devices left (suc settled) v w some (omega arith) r s same)

-- equal values, equal trees
pub unique : (devices : ℕ) (t u : Tree) → 0 < devices → IsCanonical devices t → IsCanonical devices u → SameValues devices t u → t ≡ u
unique devices t u some r s same = unique_from devices 24 0 t u some refl r s same
