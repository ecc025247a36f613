-- The tree of a box, field by field from the last.
use Rattle.std.proofs.Common.{◌≡◌, ◌∙◌, ◌+◌, ◌<◌, ◌≤◌, ℕ, zero, suc, List, [], ◌∷◌, length, drop, get_or, inl, inr, Bool, true, false, cond, refl, sym, ap, subst, arith}
use Rattle.std.specs.Prelude.{if◌then◌else◌}
use Rattle.std.proofs.lemmas.Bool.Decides.{nat_tests}
use Rattle.std.proofs.lemmas.List.{drop_more, drop_all}
use Rattle.mt_packet.specs.Header.{number_of, field_of, fields}
use Rattle.mt_packet.specs.declared.field.Field.{Field}
use Rattle.mt_packet.specs.declared.span.Span.{Span}
use Rattle.mt_boxes.specs.Boxes.{IsWithin, InBox}
use Rattle.mt_cuts.specs.Tree.{Tree, class, value_of}
use Rattle.mt_cuts.specs.Canonical.{InDomain, IsCanonical, is_within}
use Rattle.mt_cuts.specs.Headers.{IsHeaderOf}
use Rattle.mt_classes.specs.Parts.{Tells, TellsBox}

-- the tree tells the headers whose values from a field on lie in their spans
abbrev pub TellsFrom : ℕ → ℕ → ℕ → ℕ → List Span → Tree → Type 0
TellsFrom devices number none at spans tree =
    (header : List ℕ) → IsHeaderOf devices header → Tells (InBox (drop at spans) (drop at header)) number none (value_of tree (field_of header))

-- fields whose numbers count up from a number
abbrev Count : ℕ → List Field → Type 0
Count from [] = Unit {0}
Count from (field ∷ list) = (number_of field ≡ from) × Count (from + 1) list

numbered : (list : List Field) (from at : ℕ) (d : Field) → Count from list → at < length list → number_of (get_or list at d) ≡ from + at
numbered [] from at d c lt = absurd (omega (arith, lt))
numbered (field ∷ list) from zero d c lt = c.0 ∙ omega arith
numbered (field ∷ list) from (suc at) d c lt = numbered list (from + 1) at d c.1 (omega arith) ∙ omega arith

pub number_at : (at : ℕ) (d : Field) → at < 24 → number_of (get_or fields at d) ≡ at
number_at at d lt =
    numbered fields 0 at d (refl, (refl, (refl, (refl, (refl, (refl, (refl, (refl, (refl, (refl, (refl, (refl, (refl, (refl, (refl, (refl, (refl, (refl, (refl, (refl, (refl, (refl, (refl, (refl, tt)))))))))))))))))))))))) lt ∙ omega arith

-- no field is left
pub box_starts : (devices number none : ℕ) (spans : List Span) (tree : Tree) → length spans ≡ 24 → tree ≡ class number → TellsFrom devices number none 24 spans tree
box_starts devices number none spans tree n e header h =
    let P : List Span → Type 0 = λ l. InBox l (drop 24 header) in
    let Q : List ℕ → Type 0 = λ l. InBox [] l in
    inl (subst P (sym (drop_all 24 spans (omega (arith, n)))) (subst Q (sym (drop_all 24 header (let m = h.whole in omega (arith, m)))) tt), ap (λ (t : Tree). value_of t (field_of header)) e)

within_true : (span : Span) (value : ℕ) → is_within span value ≡ true → IsWithin span value
within_true span value e = grind (arith, nat_tests)

within_false : (span : Span) (value : ℕ) → is_within span value ≡ false → IsWithin span value → ⊥
within_false span value e w = grind (arith, nat_tests)

-- one field more
one_more : (span : Span) (spans : List Span) (value : ℕ) (values : List ℕ) (number none here made : ℕ) (b : Bool) → is_within span value ≡ b
    → Tells (InBox spans values) number none here → made ≡ cond b here none → Tells (InBox (span ∷ spans) (value ∷ values)) number none made
one_more span spans value values number none here made true t (inl i) e = inl ((within_true span value t, i.0), e ∙ i.1)
one_more span spans value values number none here made true t (inr o) e = inr (λ j. o.0 j.1, e ∙ o.1)
one_more span spans value values number none here made false t tells e = inr (λ j. within_false span value t j.0, e)

pub field_more : (devices number none at more : ℕ) (spans : List Span) (df : Field) (ds : Span) (tree made : Tree) → more ≡ at + 1 → at < 24 → length spans ≡ 24
    → TellsFrom devices number none more spans tree
    → ((header : Field → ℕ) → InDomain devices header
    → value_of made header ≡ (if is_within (get_or spans at ds) (header (get_or fields at df)) then value_of tree header else none))
    → TellsFrom devices number none at spans made
field_more devices number none at more spans df ds tree made next lt n told value header h =
    let P : List Span → Type 0 = λ l. Tells (InBox l (drop at header)) number none (value_of made (field_of header)) in
    let Q : List ℕ → Type 0 = λ l. Tells (InBox (get_or spans at ds ∷ drop (at + 1) spans) l) number none (value_of made (field_of header)) in
    let m = h.whole in
    let same : field_of header (get_or fields at df) ≡ get_or header at 0 = ap (λ (k : ℕ). get_or header k 0) (number_at at df lt) in
    let tells : TellsFrom devices number none (at + 1) spans tree = subst (λ (k : ℕ). TellsFrom devices number none k spans tree) next told in
    subst P (sym (drop_more spans at ds (omega (arith, n, lt))))
    (subst Q (sym (drop_more header at 0 (omega (arith, m, lt))))
    (one_more (get_or spans at ds) (drop (at + 1) spans) (get_or header at 0) (drop (at + 1) header) number none (value_of tree (field_of header)) (value_of made (field_of header))
    (is_within (get_or spans at ds) (get_or header at 0)) refl (tells header h)
    (value (field_of header) h.in_domain ∙ ap (λ (v : ℕ). cond (is_within (get_or spans at ds) v) (value_of tree (field_of header)) none) same)))

-- all fields are passed
pub box_ends : (devices number none at : ℕ) (spans : List Span) (tree : Tree) → at ≤ 0 → TellsFrom devices number none at spans tree → TellsBox devices number none spans tree
box_ends devices number none zero spans tree le tells header h = tells header h
box_ends devices number none (suc at) spans tree le tells header h = absurd (omega (arith, le))

pub leaf_canonical : (devices number : ℕ) (tree : Tree) → tree ≡ class number → IsCanonical devices tree
leaf_canonical devices number tree e = subst (λ (t : Tree). IsCanonical devices t) (sym e) tt
