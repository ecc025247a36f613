-- One passage more, and terms that are set one after the other.
use Rattle.std.proofs.Common.{◌≡◌, ◌∙◌, sym, ap, subst, refl, ℕ, ◌-◌, ◌≤◌, List, [], ◌∷◌, ◌++◌, length, map, get_or, arith}
use Rattle.std.specs.Prelude.{Option, Some, None, if◌then◌else◌, slice_set, slice_index}
use Rattle.std.proofs.lemmas.List.{length-map, length-append, map-append, get_or_append_left, get_or-append_right}
use Rattle.mt_packet.specs.Header.{number_of, field_of}
use Rattle.mt_packet.specs.Packet.{PacketState}
use Rattle.mt_packet.specs.declared.field.Field.{Field}
use Rattle.mt_packet.specs.declared.flow.Flow.{Flow}
use Rattle.mt_terms.specs.Terms.{TermForm, const, entry, minus, flow_part, value_of, passages_of, part_of}
use Rattle.mt_terms.specs.declared.term.Part.{Part}
use Rattle.mt_trees.proofs.Parts.{set_here, set_beside}
use Rattle.mt_trees.proofs.Shadow.{is_data, is_front, of_data, of_front, write_value, data_base, front_base, IsShadow, term_here, term_beside, by_field}
use Rattle.mt_trees.proofs.Writes.{all, May}
use Rattle.mt_trees.specs.Elements.{is_own, data_fields, front_fields}
use Rattle.mt_trees.specs.Passages.{one_more}
use Rattle.mt_trees.specs.Symbols.{Symbol, term_at, with_term}

-- ---- a flow more

pub value_more : (header : List ℕ) (passed : List Flow) (flow : Flow) (term : TermForm) → passages_of term ≤ length passed → value_of term header (passed ++ flow ∷ []) ≡ value_of term header passed
value_more header passed flow (const value) h = refl
value_more header passed flow (entry field) h = refl
value_more header passed flow (minus term amount) h = ap (λ v. v - amount) (value_more header passed flow term h)
value_more header passed flow (flow_part passage part) h =
    ap (λ l. slice_index l passage) (map-append (part_of part) passed (flow ∷ []))
    ∙ get_or_append_left (map (part_of part) passed) (map (part_of part) (flow ∷ [])) 0 passage (let same = length-map passed (part_of part) in omega (arith, h, same))

-- and the part of that flow
pub value_last : (header : List ℕ) (passed : List Flow) (flow : Flow) (n : ℕ) (part : Part) → length passed ≡ n → value_of (flow_part n part) header (passed ++ flow ∷ []) ≡ part_of part flow
value_last header passed flow n part long =
    ap (λ l. slice_index l n) (map-append (part_of part) passed (flow ∷ []))
    ∙ last (map (part_of part) passed) (part_of part flow) n (length-map passed (part_of part) ∙ long)
  where
    last : (xs : List ℕ) (x n : ℕ) → length xs ≡ n → get_or (xs ++ x ∷ []) n 0 ≡ x
    last xs x n e = ap (λ m. get_or (xs ++ x ∷ []) m 0) (sym e) ∙ get_or-append_right xs (x ∷ []) (length xs) (length xs) 0 refl (omega arith) ∙ ap (λ m. get_or (x ∷ []) m 0) (let z : length xs - length xs ≡ 0 = omega arith in z)

module _ (header : List ℕ) (first : PacketState) (symbol : Symbol) (passed : List Flow) (p : PacketState) (flow : Flow) (shadow : IsShadow header first symbol passed p) where
  within : (field : Field) → passages_of (term_at symbol field) ≤ length passed
  within field = let b = shadow.bounded field in let c = shadow.counted in omega (arith, b, c)

  written_more : (field : Field) → write_value header first field (term_at symbol field) (passed ++ flow ∷ []) ≡ write_value header first field (term_at symbol field) passed
  written_more field = ap (λ (v : ℕ). if is_own field (term_at symbol field) then None else Some v) (value_more header passed flow (term_at symbol field) (within field))

  data_more : of_data header first (one_more symbol) (passed ++ flow ∷ []) ≡ of_data header first symbol passed
  data_more = λ i field. ap (λ (o : Option ℕ). if is_data field then o else None) (written_more field) i

  front_more : of_front header first (one_more symbol) (passed ++ flow ∷ []) ≡ of_front header first symbol passed
  front_more = λ i field. ap (λ (o : Option ℕ). if is_front field then o else None) (written_more field) i

  pub passed_more : IsShadow header first (one_more symbol) (passed ++ flow ∷ []) p
  passed_more = record {
    long = shadow.long;
    counted = let c = shadow.counted in let n = length-append passed (flow ∷ []) in omega (arith, c, n);
    bounded = λ field. (let b = shadow.bounded field in omega (arith, b));
    values = λ field. value_more header passed flow (term_at symbol field) (within field) ∙ shadow.values field;
    layer = shadow.layer;
    came = shadow.came;
    are_bytes = shadow.are_bytes;
    protocol = shadow.protocol;
    trim = shadow.trim;
    checked = λ h. (let t = shadow.checked h in record {
      may = subst (λ w. May w (data_base header first)) (sym data_more) t.may;
      same = t.same ∙ ap (λ w. (all w (data_base header first) data_fields).bytes) (sym data_more);
    });
    unchecked = λ h. (let u = shadow.unchecked h in record { own = u.own; same = u.same });
    front = λ h. (let f = shadow.front h in record {
      may = subst (λ w. May w (front_base header first)) (sym front_more) f.may;
      same = f.same ∙ ap (λ w. (all w (front_base header first) front_fields).bytes) (sym front_more);
    });
  }

-- ---- terms that are set, beside a header that is

-- the terms have the values of a header
abbrev pub Reads : List ℕ → List Flow → Symbol → List ℕ → Type 0
Reads header passed symbol values = (field : Field) → value_of (term_at symbol field) header passed ≡ field_of values field

pub reads_set : (header : List ℕ) (passed : List Flow) (symbol : Symbol) (values : List ℕ) (field : Field) (term : TermForm) (v : ℕ) → length symbol.terms ≡ 24 → length values ≡ 24
    → value_of term header passed ≡ v → Reads header passed symbol values → Reads header passed (with_term symbol field term) (slice_set values (number_of field) v)
reads_set header passed symbol values field term v long wide is reads =
    by_field (λ f. value_of (term_at (with_term symbol field term) f) header passed ≡ field_of (slice_set values (number_of field) v) f) field
    (ap (λ t. value_of t header passed) (term_here symbol field term long) ∙ is ∙ sym (set_here values field v 0 wide))
    (λ other apart. ap (λ t. value_of t header passed) (term_beside symbol field other term apart) ∙ reads other ∙ sym (set_beside values field other v 0 apart))

abbrev pub Bounded : Symbol → ℕ → Type 0
Bounded symbol n = (field : Field) → passages_of (term_at symbol field) ≤ n

pub bounded_set : (symbol : Symbol) (n : ℕ) (field : Field) (term : TermForm) → length symbol.terms ≡ 24 → passages_of term ≤ n → Bounded symbol n → Bounded (with_term symbol field term) n
bounded_set symbol n field term long within bounded =
    by_field (λ f. passages_of (term_at (with_term symbol field term) f) ≤ n) field
    (subst (λ t. passages_of t ≤ n) (sym (term_here symbol field term long)) within)
    (λ other apart. subst (λ t. passages_of t ≤ n) (sym (term_beside symbol field other term apart)) (bounded other))
