-- The writes of a rewrite: fields with the terms of their new values.
use Rattle.std.specs.Prelude.{ℕ, suc, ◌≤◌, ◌==◌, nat_lt, Bool, false, if◌then◌else◌, List, [], ◌∷◌, map}
use Rattle.mt_packet.specs.Header.{number_of}
use Rattle.mt_packet.specs.declared.field.Field.{Field}
use Rattle.mt_terms.specs.declared.writes.FieldWrite.{FieldWrite}
use Rattle.mt_terms.specs.Terms.{TermForm, term_form}

-- a field and the plain form of its term
pub record WriteForm : Type 0 where
  pub field : Field
  pub term : TermForm

abbrev pub write_form : FieldWrite → WriteForm
write_form write = record { field = write.field; term = term_form write.term }

-- the plain forms of some writes
abbrev pub write_forms : List FieldWrite → List WriteForm
write_forms writes = map write_form writes

-- the fields ascend, so none is written twice; none is below a number
abbrev pub AscendFrom : ℕ → List FieldWrite → Type 0
AscendFrom least [] = Unit {0}
AscendFrom least (write ∷ writes) = (least ≤ number_of write.field) × AscendFrom (suc (number_of write.field)) writes

-- writes by ascending field, with a field's write in its place: before those of later fields, and in the place
-- of an earlier write of this field
abbrev pub with_write : WriteForm → List WriteForm → List WriteForm
with_write write [] = write ∷ []
with_write write (other ∷ writes) =
    if nat_lt (number_of other.field) (number_of write.field) then other ∷ with_write write writes
    else (if number_of other.field == number_of write.field then write ∷ writes else write ∷ other ∷ writes)

-- how many of the writes are of earlier fields than this, from the front on
abbrev pub place_among : Field → List FieldWrite → ℕ
place_among field [] = 0
place_among field (write ∷ writes) =
    if nat_lt (number_of write.field) (number_of field) then suc (place_among field writes) else 0

-- whether a field's write stands behind those of earlier fields
abbrev pub stands_behind : Field → List FieldWrite → Bool
stands_behind field [] = false
stands_behind field (write ∷ writes) =
    if nat_lt (number_of write.field) (number_of field) then stands_behind field writes
    else (number_of write.field == number_of field)
