-- What else a symbol stands for: paint and annotation, one passage more, an Ethernet header taken away, put on or
-- exchanged, and a check.
use Rattle.std.proofs.Common.{◌≡◌, ◌≢◌, ◌∙◌, sym, ap, subst, refl, ℕ, ◌≤◌, Bool, true, false, List, take}
use Rattle.std.specs.Prelude.{None, if◌then◌else◌, slice_set}
use Rattle.std.proofs.lemmas.Bool.{false≢true}
use Rattle.std.proofs.lemmas.List.{length-set}
use Rattle.mt_packet.specs.Header.{AreBytes, number_of, field_of}
use Rattle.mt_packet.specs.Packet.{PacketState, datagram_of, packet_header, with_field}
use Rattle.mt_packet.specs.declared.field.Field.{Field}
use Rattle.mt_packet.specs.declared.field.Field.TheVariants as of
use Rattle.mt_packet.specs.declared.flow.Flow.{Flow}
use Rattle.mt_terms.specs.Terms.{TermForm, value_of, passages_of}
use Rattle.mt_trees.proofs.Parts.{same_layer, same_origin, came_again, set_here, set_beside}
use Rattle.mt_trees.proofs.Shadow.{is_data, is_front, of_data, of_front, write_value, data_base, front_base, IsShadow, term_here, term_beside, by_field}
use Rattle.mt_trees.proofs.Writes.{all, May, two_fields}
use Rattle.mt_trees.specs.Elements.{is_own, data_fields, front_fields}
use Rattle.mt_trees.specs.Symbols.{Symbol, term_at, with_term}

-- ---- paint and annotation

-- the two fields of a packet that no frame carries
pub data Mark : Type 0 where
  paint : Mark
  annotation : Mark

abbrev pub mark_at : Mark → Field
mark_at paint = of.Paint
mark_at annotation = of.Annotation

module _ (header : List ℕ) (first : PacketState) where
  -- terms that are not written play no part
  pub data_alike : (symbol next : Symbol) (passed : List Flow) → ((field : Field) → is_data field ≡ true → term_at next field ≡ term_at symbol field) → of_data header first next passed ≡ of_data header first symbol passed
  data_alike symbol next passed same = λ i field. each field (is_data field) refl i
    where
      each : (field : Field) (b : Bool) → is_data field ≡ b → of_data header first next passed field ≡ of_data header first symbol passed field
      each field true e = ap (λ t. if is_data field then write_value header first field t passed else None) (same field e)
      each field false e = ap (λ b. if b then write_value header first field (term_at next field) passed else None) e
          ∙ sym (ap (λ b. if b then write_value header first field (term_at symbol field) passed else None) e)

  pub front_alike : (symbol next : Symbol) (passed : List Flow) → ((field : Field) → is_front field ≡ true → term_at next field ≡ term_at symbol field) → of_front header first next passed ≡ of_front header first symbol passed
  front_alike symbol next passed same = λ i field. each field (is_front field) refl i
    where
      each : (field : Field) (b : Bool) → is_front field ≡ b → of_front header first next passed field ≡ of_front header first symbol passed field
      each field true e = ap (λ t. if is_front field then write_value header first field t passed else None) (same field e)
      each field false e = ap (λ b. if b then write_value header first field (term_at next field) passed else None) e
          ∙ sym (ap (λ b. if b then write_value header first field (term_at symbol field) passed else None) e)

  mark_data : (m : Mark) (field : Field) → is_data field ≡ true → field ≢ mark_at m
  mark_data paint field e same = false≢true (ap is_data (sym same) ∙ e)
  mark_data annotation field e same = false≢true (ap is_data (sym same) ∙ e)

  mark_front : (m : Mark) (field : Field) → is_front field ≡ true → field ≢ mark_at m
  mark_front paint field e same = false≢true (ap is_front (sym same) ∙ e)
  mark_front annotation field e same = false≢true (ap is_front (sym same) ∙ e)

  mark_proto : (m : Mark) → of.Proto ≢ mark_at m
  mark_proto paint = two_fields of.Proto of.Paint refl
  mark_proto annotation = two_fields of.Proto of.Annotation refl

  mark_header : (m : Mark) (p : PacketState) (v : ℕ) → packet_header (with_field p (mark_at m) v) ≡ slice_set (packet_header p) (number_of (mark_at m)) v
  mark_header paint p v = refl
  mark_header annotation p v = refl

  mark_bytes : (m : Mark) (p : PacketState) (v : ℕ) → (with_field p (mark_at m) v).bytes ≡ p.bytes
  mark_bytes paint p v = refl
  mark_bytes annotation p v = refl

  mark_datagram : (m : Mark) (p : PacketState) (v : ℕ) → datagram_of (with_field p (mark_at m) v) ≡ datagram_of p
  mark_datagram paint p v = refl
  mark_datagram annotation p v = refl

  pub marked : (m : Mark) (symbol : Symbol) (passed : List Flow) (p : PacketState) (term : TermForm) (v : ℕ) → IsShadow header first symbol passed p
      → value_of term header passed ≡ v → passages_of term ≤ symbol.passages → IsShadow header first (with_term symbol (mark_at m) term) passed (with_field p (mark_at m) v)
  marked m symbol passed p term v shadow is within = record {
    long = length-set symbol.terms (number_of (mark_at m)) term ∙ shadow.long;
    counted = shadow.counted;
    bounded = by_field (λ f. passages_of (term_at next f) ≤ symbol.passages) (mark_at m)
        (subst (λ t. passages_of t ≤ symbol.passages) (sym here) within)
        (λ other apart. subst (λ t. passages_of t ≤ symbol.passages) (sym (beside other apart)) (shadow.bounded other));
    values = by_field (λ f. value_of (term_at next f) header passed ≡ field_of (packet_header (with_field p (mark_at m) v)) f) (mark_at m)
        (ap (λ t. value_of t header passed) here ∙ is ∙ sym (ap (λ h. field_of h (mark_at m)) (mark_header m p v) ∙ set_here (packet_header p) (mark_at m) v 0 refl))
        (λ other apart. ap (λ t. value_of t header passed) (beside other apart) ∙ shadow.values other
        ∙ sym (ap (λ h. field_of h other) (mark_header m p v) ∙ set_beside (packet_header p) (mark_at m) other v 0 apart));
    layer = same_layer p (mark_at m) v ∙ shadow.layer;
    came = came_again first p _ shadow.came (same_origin p (mark_at m) v);
    are_bytes = subst AreBytes (sym (mark_bytes m p v)) shadow.are_bytes;
    protocol = subst (λ t. is_own of.Proto t ≡ true) (sym (beside of.Proto (mark_proto m))) shadow.protocol;
    trim = shadow.trim;
    checked = λ h. (let t = shadow.checked h in record {
      may = subst (λ w. May w (data_base header first)) (sym same_data) t.may;
      same = mark_datagram m p v ∙ t.same ∙ ap (λ w. (all w (data_base header first) data_fields).bytes) (sym same_data);
    });
    unchecked = λ h. (let u = shadow.unchecked h in record {
      own = λ field e. subst (λ t. is_own field t ≡ true) (sym (beside field (mark_data m field e))) (u.own field e);
      same = mark_datagram m p v ∙ u.same;
    });
    front = λ h. (let f = shadow.front h in record {
      may = subst (λ w. May w (front_base header first)) (sym same_front) f.may;
      same = ap (take 14) (mark_bytes m p v) ∙ f.same ∙ ap (λ w. (all w (front_base header first) front_fields).bytes) (sym same_front);
    });
  }
    where
      next : Symbol
      next = with_term symbol (mark_at m) term

      here : term_at next (mark_at m) ≡ term
      here = term_here symbol (mark_at m) term shadow.long

      beside : (other : Field) → other ≢ mark_at m → term_at next other ≡ term_at symbol other
      beside other apart = term_beside symbol (mark_at m) other term apart

      same_data : of_data header first next passed ≡ of_data header first symbol passed
      same_data = data_alike symbol next passed (λ field e. beside field (mark_data m field e))

      same_front : of_front header first next passed ≡ of_front header first symbol passed
      same_front = front_alike symbol next passed (λ field e. beside field (mark_front m field e))
