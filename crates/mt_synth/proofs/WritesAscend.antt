-- The writes at the end of a way stand in the order of their fields.
use Rattle.std.proofs.Common.{◌≡◌, ◌∙◌, ℕ, suc, ◌<◌, ◌≤◌, Bool, true, false, List, [], ◌∷◌, ◌++◌, length, refl, sym, subst, arith, append-nil}
use Rattle.std.specs.List.{flat_map}
use Rattle.mt_packet.specs.Header.{number_of}
use Rattle.mt_packet.specs.declared.field.Field.{Field}
use Rattle.mt_terms.specs.Terms.{TermForm}
use Rattle.mt_terms.specs.Writes.{WriteForm, write_forms, AscendFrom}
use Rattle.mt_terms.specs.declared.writes.FieldWrite.{FieldWrite}
use Rattle.mt_trees.specs.Elements.{front_fields, data_fields, is_own, write_of}

-- numbers of fields that ascend, the first at least a number
abbrev Ascend : ℕ → List Field → Type 0
Ascend least [] = Unit {0}
Ascend least (field ∷ fields) = (least ≤ number_of field) × Ascend (suc (number_of field)) fields

abbrev FormsAscend : ℕ → List WriteForm → Type 0
FormsAscend least [] = Unit {0}
FormsAscend least (form ∷ forms) = (least ≤ number_of form.field) × FormsAscend (suc (number_of form.field)) forms

of_forms : (least : ℕ) (writes : List FieldWrite) → FormsAscend least (write_forms writes) → AscendFrom least writes
of_forms least [] h = tt
of_forms least (write ∷ writes) h = (h.0, of_forms (suc (number_of write.field)) writes h.1)

lower : (least more : ℕ) (forms : List WriteForm) → least ≤ more → FormsAscend more forms → FormsAscend least forms
lower least more [] le h = tt
lower least more (form ∷ forms) le h = (let first = h.0 in omega (arith, le, first), h.1)

module _ (term : Field → TermForm) where
  one : (least : ℕ) (field : Field) (own : Bool) (forms : List WriteForm) → is_own field (term field) ≡ own → least ≤ number_of field → FormsAscend (suc (number_of field)) forms → FormsAscend least (write_of field (term field) ++ forms)
  one least field true forms e le h = rw e (lower least (suc (number_of field)) forms (omega (arith, le)) h)
  one least field false forms e le h = rw e (le, h)

  all : (least : ℕ) (fields : List Field) → Ascend least fields → FormsAscend least (flat_map (λ field. write_of field (term field)) fields)
  all least [] h = tt
  all least (field ∷ fields) h = one least field (is_own field (term field)) _ refl h.0 (all (suc (number_of field)) fields h.1)

  -- these fields ascend
  written_ascend : Ascend 0 (front_fields ++ data_fields)
  written_ascend = (omega arith, (omega arith, (omega arith, (omega arith, (omega arith, (omega arith, (omega arith, (omega arith, (omega arith, tt)))))))))

  pub all_written : (writes : List FieldWrite) (rest : List Field) → length rest < 1
      → write_forms writes ++ flat_map (λ field. write_of field (term field)) rest ≡ flat_map (λ field. write_of field (term field)) (front_fields ++ data_fields) → AscendFrom 0 writes
  all_written writes [] end same = of_forms 0 writes (subst (FormsAscend 0) (sym same ∙ append-nil (write_forms writes)) (all 0 (front_fields ++ data_fields) written_ascend))
  all_written writes (field ∷ rest) end same = absurd (omega (arith, end))
