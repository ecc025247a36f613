-- The writes of a rewrite ascend, and none is of a field's own value.
use Rattle.std.proofs.Common.{◌≡◌, refl, ℕ, suc, ◌≤◌, Bool, true, false, List, [], ◌∷◌, ◌++◌, arith}
use Rattle.std.specs.Prelude.{if◌then◌else◌}
use Rattle.std.specs.List.{flat_map}
use Rattle.mt_packet.specs.Header.{number_of}
use Rattle.mt_packet.specs.declared.field.Field.{Field}
use Rattle.mt_terms.specs.Writes.{WriteForm}
use Rattle.mt_trees.specs.Elements.{front_fields, data_fields, is_own, write_of}
use Rattle.mt_trees.specs.Laws.{AreWrites, RewritesAreOrdered}
use Rattle.mt_trees.specs.Symbols.{Symbol, term_at}

-- what ascends from a number on ascends from a smaller one
lower : (low high : ℕ) (writes : List WriteForm) → low ≤ high → AreWrites high writes → AreWrites low writes
lower low high [] below h = tt
lower low high (write ∷ writes) below h = (let first = h.0 in omega (arith, below, first), h.1, h.2)

-- one field before others
one_more : (symbol : Symbol) (least : ℕ) (field : Field) (rest : List WriteForm) → least ≤ number_of field → AreWrites (suc (number_of field)) rest → AreWrites least (write_of field (term_at symbol field) ++ rest)
one_more symbol least field rest low h = either (is_own field (term_at symbol field)) refl
  where
    either : (b : Bool) → is_own field (term_at symbol field) ≡ b → AreWrites least ((if b then [] else record { field = field; term = term_at symbol field } ∷ []) ++ rest)
    either true e = lower least (suc (number_of field)) rest (omega (arith, low)) h
    either false e = (low, e, h)

-- fields that ascend
abbrev Ascend : ℕ → List Field → Type 0
Ascend least [] = Unit {0}
Ascend least (field ∷ fields) = (least ≤ number_of field) × Ascend (suc (number_of field)) fields

all_ordered : (symbol : Symbol) (least : ℕ) (fields : List Field) → Ascend least fields → AreWrites least (flat_map (λ field. write_of field (term_at symbol field)) fields)
all_ordered symbol least [] h = tt
all_ordered symbol least (field ∷ fields) h = one_more symbol least field _ h.0 (all_ordered symbol (suc (number_of field)) fields h.1)

pub rewrites_ordered : RewritesAreOrdered
rewrites_ordered symbol =
    all_ordered symbol 0 (front_fields ++ data_fields)
    (omega arith, (omega arith, (omega arith, (omega arith, (omega arith, (omega arith, (omega arith, (omega arith, (omega arith, tt)))))))))
