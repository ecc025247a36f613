-- A write put in its place among writes whose fields ascend.
use Rattle.std.proofs.Common.{◌≡◌, ℕ, zero, suc, ◌+◌, ◌<◌, ◌≤◌, ◌==◌, Bool, true, false, nat_lt, List, [], ◌∷◌, length, get_or, refl, ap, sym, ◌∙◌, arith, subst, inl, inr}
use Rattle.std.proofs.Math.ListN.{set}
use Rattle.std.specs.List.{insert}
use Rattle.std.proofs.lemmas.Bool.{cond-true, cond-false, ltb-true, ltb-false, eqb-true, cases_Bool, cases_lt, lt-ltb}
use Rattle.std.proofs.lemmas.List.{get_or_default}
use Rattle.std.proofs.lemmas.Bool.Decides.{nat_tests}
use Rattle.mt_packet.specs.Header.{number_of}
use Rattle.mt_packet.specs.declared.field.Field.{Field}
use Rattle.mt_terms.specs.declared.term.Term.{Term}
use Rattle.mt_terms.specs.declared.writes.FieldWrite.{FieldWrite}
use Rattle.mt_terms.specs.Terms.{term_form}
use Rattle.mt_terms.specs.Writes.{AscendFrom, WriteForm, write_form, write_forms, with_write, place_among, stands_behind}

abbrev is_before : Field → FieldWrite → Bool
is_before field write = nat_lt (number_of write.field) (number_of field)

-- the writes in front are of earlier fields, the one at the place is not
pub place_is : (field : Field) (writes : List FieldWrite) (i : ℕ) → i ≤ length writes → ((k : ℕ) (d : FieldWrite) → k < i → is_before field (get_or writes k d) ≡ true)
    → ((d : FieldWrite) → i < length writes → is_before field (get_or writes i d) ≡ false) → i ≡ place_among field writes
place_is field [] i most before here = omega arith
place_is field (w ∷ ws) zero most before here = sym (cond-false (is_before field w) (suc (place_among field ws)) 0 (here w (omega arith)))
place_is field (w ∷ ws) (suc i) most before here =
    ap suc (place_is field ws i (omega arith) (λ k d lt. before (suc k) d (omega arith)) (λ d lt. here d (omega arith)))
    ∙ sym (cond-true (is_before field w) (suc (place_among field ws)) 0 (before 0 w (omega arith)))

-- one more write is of an earlier field
pub next_before : (field : Field) (writes : List FieldWrite) (i : ℕ) (write : FieldWrite) → i < length writes → write ≡ get_or writes i write → number_of write.field < number_of field
    → ((k : ℕ) (d : FieldWrite) → k < i → is_before field (get_or writes k d) ≡ true) → (k : ℕ) (d : FieldWrite) → k < i + 1 → is_before field (get_or writes k d) ≡ true
next_before field writes i write lt at less before k d below =
    elim (cases_lt k i) [
      | inl earlier ↦ before k d earlier
      | inr later ↦
          (let same : k ≡ i = omega arith in
          subst (λ n. is_before field (get_or writes n d) ≡ true) (sym same)
          (subst (λ w. is_before field w ≡ true) (at ∙ get_or_default writes i write d lt) (lt-ltb (number_of write.field) (number_of field) less)))
    ]

-- what stands at the place decides
pub stands_at_place : (field : Field) (writes : List FieldWrite) (place : ℕ) (d : FieldWrite) → place ≡ place_among field writes → place < length writes
    → (number_of (get_or writes place d).field == number_of field) ≡ stands_behind field writes
stands_at_place field [] place d at lt = absurd (omega arith)
stands_at_place field (w ∷ ws) place d at lt =
    elim (cases_Bool (is_before field w)) [
      | inl e ↦
          (let deeper : place ≡ suc (place_among field ws) = at ∙ cond-true (is_before field w) (suc (place_among field ws)) 0 e in
          subst (λ i. (number_of (get_or (w ∷ ws) i d).field == number_of field) ≡ stands_behind field (w ∷ ws)) (sym deeper)
          (stands_at_place field ws (place_among field ws) d refl (omega (arith, deeper, lt)) ∙ sym (cond-true (is_before field w) (stands_behind field ws) (number_of w.field == number_of field) e)))
      | inr e ↦
          (let here : place ≡ 0 = at ∙ cond-false (is_before field w) (suc (place_among field ws)) 0 e in
          subst (λ i. (number_of (get_or (w ∷ ws) i d).field == number_of field) ≡ stands_behind field (w ∷ ws)) (sym here)
          (sym (cond-false (is_before field w) (stands_behind field ws) (number_of w.field == number_of field) e)))
    ]

pub stands_past : (field : Field) (writes : List FieldWrite) → length writes ≤ place_among field writes → false ≡ stands_behind field writes
stands_past field [] past = refl
stands_past field (w ∷ ws) past =
    elim (cases_Bool (is_before field w)) [
      | inl e ↦
          (let deeper : place_among field (w ∷ ws) ≡ suc (place_among field ws) = cond-true (is_before field w) (suc (place_among field ws)) 0 e in
          stands_past field ws (omega (arith, deeper, past)) ∙ sym (cond-true (is_before field w) (stands_behind field ws) (number_of w.field == number_of field) e))
      | inr e ↦ absurd (let here : place_among field (w ∷ ws) ≡ 0 = cond-false (is_before field w) (suc (place_among field ws)) 0 e in omega (arith, here, past))
    ]

pub place_within : (field : Field) (writes : List FieldWrite) → place_among field writes ≤ length writes
place_within field [] = omega arith
place_within field (w ∷ ws) =
    elim (cases_Bool (is_before field w)) [
      | inl e ↦ (let deeper : place_among field (w ∷ ws) ≡ suc (place_among field ws) = cond-true (is_before field w) (suc (place_among field ws)) 0 e in let more = place_within field ws in omega (arith, deeper, more))
      | inr e ↦ (let here : place_among field (w ∷ ws) ≡ 0 = cond-false (is_before field w) (suc (place_among field ws)) 0 e in omega (arith, here))
    ]

pub stands_within : (field : Field) (writes : List FieldWrite) → stands_behind field writes ≡ true → place_among field writes < length writes
stands_within field [] stands = absurd cc
stands_within field (w ∷ ws) stands =
    elim (cases_Bool (is_before field w)) [
      | inl e ↦
          (let deeper : place_among field (w ∷ ws) ≡ suc (place_among field ws) = cond-true (is_before field w) (suc (place_among field ws)) 0 e in
          let more = stands_within field ws (sym (cond-true (is_before field w) (stands_behind field ws) (number_of w.field == number_of field) e) ∙ stands) in omega (arith, deeper, more))
      | inr e ↦ (let here : place_among field (w ∷ ws) ≡ 0 = cond-false (is_before field w) (suc (place_among field ws)) 0 e in omega (arith, here))
    ]

-- what is made of the writes
pub record IsWritten (least : ℕ) (made : List FieldWrite) (forms : List WriteForm) : Type 0 where
  pub forms_are : write_forms made ≡ forms
  pub ascend : AscendFrom least made

replaced : (least : ℕ) (write : FieldWrite) (writes : List FieldWrite) → AscendFrom least writes → stands_behind write.field writes ≡ true
    → IsWritten least (set writes (place_among write.field writes) write) (with_write (write_form write) (write_forms writes))
replaced least write [] up stands = absurd cc
replaced least write (w ∷ ws) up stands =
    elim (cases_Bool (is_before write.field w)) [
      | inl e ↦
          (let more = replaced (suc (number_of w.field)) write ws up.1 (sym (cond-true (is_before write.field w) (stands_behind write.field ws) (number_of w.field == number_of write.field) e) ∙ stands) in
          rw e (record { forms_are = ap (λ rest. write_form w ∷ rest) more.forms_are; ascend = (up.0, more.ascend) }))
      | inr e ↦
          (let same : (number_of w.field == number_of write.field) ≡ true = sym (cond-false (is_before write.field w) (stands_behind write.field ws) (number_of w.field == number_of write.field) e) ∙ stands in
          let number : number_of w.field ≡ number_of write.field = eqb-true _ _ same in
          rw (e, same) (record { forms_are = refl; ascend = (subst (λ n. least ≤ n) number up.0, subst (λ n. AscendFrom (suc n) ws) number up.1) }))
    ]

inserted : (least : ℕ) (write : FieldWrite) (writes : List FieldWrite) → AscendFrom least writes → least ≤ number_of write.field → stands_behind write.field writes ≡ false
    → IsWritten least (insert writes (place_among write.field writes) write) (with_write (write_form write) (write_forms writes))
inserted least write [] up low apart = record { forms_are = refl; ascend = (low, tt) }
inserted least write (w ∷ ws) up low apart =
    elim (cases_Bool (is_before write.field w)) [
      | inl e ↦
          (let below : suc (number_of w.field) ≤ number_of write.field = ltb-true _ _ e in
          let more = inserted (suc (number_of w.field)) write ws up.1 below (sym (cond-true (is_before write.field w) (stands_behind write.field ws) (number_of w.field == number_of write.field) e) ∙ apart) in
          rw e (record { forms_are = ap (λ rest. write_form w ∷ rest) more.forms_are; ascend = (up.0, more.ascend) }))
      | inr e ↦
          (let other : (number_of w.field == number_of write.field) ≡ false = sym (cond-false (is_before write.field w) (stands_behind write.field ws) (number_of w.field == number_of write.field) e) ∙ apart in
          let most = ltb-false _ _ e in
          let above : suc (number_of write.field) ≤ number_of w.field = grind (arith, nat_tests) in
          rw (e, other) (record { forms_are = refl; ascend = (low, (above, up.1)) }))
    ]

-- the same at the values of a call
pub set_replaces : (field : Field) (term : Term) (seen items made : List FieldWrite) (place : ℕ) → seen ≡ items → place ≡ place_among field seen → AscendFrom 0 items → stands_behind field seen ≡ true
    → made ≡ set items place (record { field = field; term = term }) → IsWritten 0 made (with_write (record { field = field; term = term_form term }) (write_forms items))
set_replaces field term seen items made place same at up stands is =
    let here : place ≡ place_among field items = at ∙ ap (place_among field) same in
    rw (is, here) (replaced 0 (record { field = field; term = term }) items up (sym (ap (stands_behind field) same) ∙ stands))

pub set_inserts : (field : Field) (term : Term) (seen items made : List FieldWrite) (place : ℕ) → seen ≡ items → place ≡ place_among field seen → AscendFrom 0 items → stands_behind field seen ≡ false
    → made ≡ insert items place (record { field = field; term = term }) → IsWritten 0 made (with_write (record { field = field; term = term_form term }) (write_forms items))
set_inserts field term seen items made place same at up apart is =
    let here : place ≡ place_among field items = at ∙ ap (place_among field) same in
    rw (is, here) (inserted 0 (record { field = field; term = term }) items up (omega arith) (sym (ap (stands_behind field) same) ∙ apart))
