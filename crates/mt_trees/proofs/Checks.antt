-- A check of a packet and of its symbol.
use Rattle.std.proofs.Common.{◌≡◌, ◌≢◌, ◌∙◌, sym, ap, subst, refl, ℕ, ◌≤◌, Bool, true, false, List, [], ◌∷◌, length, take, arith}
use Rattle.std.specs.Prelude.{Option, Some, None, if◌then◌else◌, ◌==◌, ◌&&◌}
use Rattle.std.proofs.lemmas.Bool.{false≢true}
use Rattle.std.proofs.lemmas.Bool.Decides.{nat_tests}
use Rattle.std.proofs.lemmas.List.{length-set, length-take, take_all, get_or-take}
use Rattle.std.proofs.lemmas.Option.{none-some}
use Rattle.mt_packet.proofs.Judged.{checked-header}
use Rattle.mt_packet.proofs.Kept.{zeros-shape, with_field-kept, datagram_of-checked, written-ports}
use Rattle.mt_packet.proofs.Settles.{check-settles}
use Rattle.mt_packet.proofs.Shape.{SameShape}
use Rattle.mt_packet.proofs.Valid.{valid-cut}
use Rattle.mt_packet.specs.Field.{two_bytes_at}
use Rattle.mt_packet.specs.Header.{AreBytes, field_of}
use Rattle.mt_packet.specs.Ipv4.{IsValidIpv4, total_length, has_ports, proto_of, dst_of}
use Rattle.mt_packet.specs.Packet.{PacketState, datagram_of, packet_header, with_field, checked as check, checked_datagram, layer_checked, IsChecked, HasWrittenSums}
use Rattle.mt_packet.specs.Write.{checksum_offset, with_header_zero, with_tcp_zero}
use Rattle.mt_packet.specs.declared.field.Field.{Field}
use Rattle.mt_packet.specs.declared.field.Field.TheVariants as of
use Rattle.mt_packet.specs.declared.flow.Flow.{Flow}
use Rattle.mt_packet.specs.declared.layer.Layer.TheVariants.{Bare, Ip}
use Rattle.mt_terms.specs.Terms.{value_of}
use Rattle.mt_trees.proofs.More.{Reads, reads_set, bounded_set}
use Rattle.mt_trees.proofs.Moves.{data_alike}
use Rattle.mt_trees.proofs.Parts.{opt_may, all_layer, all_sums, bare_bytes}
use Rattle.mt_trees.proofs.Shadow.{is_checked_layer, is_data, of_data, write_value, data_base, data_written, IsTrimmed, IsAsArrived, IsShadow, term_beside}
use Rattle.mt_trees.proofs.Writes.{opt, all, May, two_fields}
use Rattle.mt_trees.specs.Elements.{is_own, data_fields}
use Rattle.mt_trees.specs.Symbols.{Symbol, term_at, checked, refused}

-- ---- a second check changes nothing

same_test : {A : Type 0} (b : Bool) (x y : A) → b ≡ false → (if b then x else y) ≡ y
same_test b x y e = ap (λ c. if c then x else y) e

no_header_zero : (d : List ℕ) → two_bytes_at d 10 ≤ 65534 → with_header_zero d ≡ d
unfolding with_header_zero
no_header_zero d low = same_test _ _ d (let e : (two_bytes_at d 10 == 65535) ≡ false = grind (arith, nat_tests) in e)

no_tcp_zero : (d : List ℕ) → (has_ports d ≡ true → proto_of d ≡ 6 → two_bytes_at d (checksum_offset d) ≤ 65534) → with_tcp_zero d ≡ d
unfolding with_tcp_zero
no_tcp_zero d low = same_test _ _ d (either (has_ports d) (proto_of d == 6) refl refl)
  where
    either : (a b : Bool) → has_ports d ≡ a → (proto_of d == 6) ≡ b → ((has_ports d && (proto_of d == 6)) && (two_bytes_at d (checksum_offset d) == 65535)) ≡ false
    either true true e k =
        let n : proto_of d ≡ 6 = grind (arith, nat_tests) in
        let small = low e n in
        let t : (two_bytes_at d (checksum_offset d) == 65535) ≡ false = grind (arith, nat_tests) in
        cc
    either true false e k = cc
    either false b e k = cc

pub checked_again : (p : PacketState) → HasWrittenSums p → total_length (datagram_of p) ≡ length (datagram_of p) → checked_datagram (datagram_of p) ≡ datagram_of p
unfolding checked_datagram
checked_again p sums whole =
    ap (λ d. with_tcp_zero (with_header_zero d)) (take_all (total_length (datagram_of p)) (datagram_of p) (omega (arith, whole)))
    ∙ ap with_tcp_zero (no_header_zero (datagram_of p) sums.header_is_written)
    ∙ no_tcp_zero (datagram_of p) sums.transport_is_written

-- ---- a datagram that is all there

-- its total length is that of its bytes
abbrev pub IsWhole : List ℕ → Type 0
IsWhole d = total_length d ≡ length d

shape_whole : (d e : List ℕ) → SameShape d e → IsWhole d → IsWhole e
shape_whole d e s whole =
    let a = s.byte_2 in
    let b = s.byte_3 in
    let l = s.same_length in
    omega (arith, a, b, l, whole)

cut_whole : (d : List ℕ) → IsValidIpv4 d → IsWhole (take (total_length d) d)
cut_whole d v =
    let least = v.header_is_long_enough in
    let within = v.header_is_within in
    let there = v.packet_is_within in
    let b2 = get_or-take (total_length d) d 2 0 (omega arith) in
    let b3 = get_or-take (total_length d) d 3 0 (omega arith) in
    let n = length-take (total_length d) d in
    omega (arith, b2, b3, n, there)

pub checked_whole : (d : List ℕ) → IsValidIpv4 d → IsWhole (checked_datagram d)
unfolding checked_datagram
checked_whole d v = shape_whole (take (total_length d) d) _ (zeros-shape (take (total_length d) d) (valid-cut d v)) (cut_whole d v)

-- writes leave a datagram all there
shape_opt : (t : Field → Option ℕ) (p : PacketState) (field : Field) (o : Option ℕ) → t field ≡ o → May t p → IsWhole (datagram_of p) → IsWhole (datagram_of (opt p field o))
shape_opt t p field None e m whole = whole
shape_opt t p field (Some v) e m whole = shape_whole (datagram_of p) _ (with_field-kept p field v (m field v e)).same_shape whole

shape_all : (t : Field → Option ℕ) (fs : List Field) (p : PacketState) → May t p → IsWhole (datagram_of p) → IsWhole (datagram_of (all t p fs))
shape_all t [] p m whole = whole
shape_all t (f ∷ fs) p m whole = shape_all t fs (opt p f (t f)) (opt_may t p f (t f) refl m) (shape_opt t p f (t f) refl m whole)

pub sums_as : (p r : PacketState) → datagram_of r ≡ datagram_of p → AreBytes r.bytes → HasWrittenSums p → HasWrittenSums r
sums_as p r e bytes h = record {
  is_checked = subst (λ d. IsValidIpv4 d) (sym e) h.is_checked;
  are_bytes = bytes;
  header_is_written = subst (λ d. two_bytes_at d 10 ≤ 65534) (sym e) h.header_is_written;
  transport_is_written = subst (λ d. has_ports d ≡ true → proto_of d ≡ 6 → two_bytes_at d (checksum_offset d) ≤ 65534) (sym e) h.transport_is_written;
}

-- and its ports visible where they were
ports_opt : (t : Field → Option ℕ) (p : PacketState) (field : Field) (o : Option ℕ) → t field ≡ o → May t p → has_ports (datagram_of (opt p field o)) ≡ has_ports (datagram_of p)
ports_opt t p field None e m = refl
ports_opt t p field (Some v) e m = written-ports p (with_field p field v) field v (m field v e) refl

ports_all : (t : Field → Option ℕ) (fs : List Field) (p : PacketState) → May t p → has_ports (datagram_of (all t p fs)) ≡ has_ports (datagram_of p)
ports_all t [] p m = refl
ports_all t (f ∷ fs) p m = ports_all t fs (opt p f (t f)) (opt_may t p f (t f) refl m) ∙ ports_opt t p f (t f) refl m

-- ---- symbols

module _ (header : List ℕ) (first : PacketState) (symbol : Symbol) (passed : List Flow) (p : PacketState) (shadow : IsShadow header first symbol passed p) where
  beside : (field : Field) → field ≢ of.Annotation → term_at (checked symbol) field ≡ term_at symbol field
  beside field apart = term_beside symbol of.Annotation field (term_at symbol of.Dst) apart

  same_data : of_data header first (checked symbol) passed ≡ of_data header first symbol passed
  same_data = data_alike header first symbol (checked symbol) passed (λ field e. beside field (λ s. false≢true (ap is_data (sym s) ∙ e)))

  check_long : length (checked symbol).terms ≡ 24
  check_long = length-set symbol.terms 23 (term_at symbol of.Dst) ∙ shadow.long

  check_values : IsChecked p → Reads header passed (checked symbol) (packet_header (check p))
  check_values valid field =
      reads_set header passed symbol (packet_header p) of.Annotation (term_at symbol of.Dst) (dst_of (datagram_of p)) shadow.long refl (shadow.values of.Dst) shadow.values field
      ∙ sym (ap (λ h. field_of h field) (checked-header p valid))

  check_protocol : is_own of.Proto (term_at (checked symbol) of.Proto) ≡ true
  check_protocol = subst (λ t. is_own of.Proto t ≡ true) (sym (beside of.Proto (two_fields of.Proto of.Annotation refl))) shadow.protocol

  -- what a check leaves of the data
  check_shadow : IsChecked p → (check p).layer ≡ Ip → IsTrimmed header first (checked symbol) passed (check p) → IsShadow header first (checked symbol) passed (check p)
  check_shadow valid ip trimmed = record {
    long = check_long;
    counted = shadow.counted;
    bounded = bounded_set symbol symbol.passages of.Annotation (term_at symbol of.Dst) shadow.long (shadow.bounded of.Dst) shadow.bounded;
    values = check_values valid;
    layer = ip;
    came = record { stamp = shadow.came.stamp; device = shadow.came.device; number = shadow.came.number };
    are_bytes = (check-settles p shadow.are_bytes valid).are_bytes;
    protocol = check_protocol;
    trim = refl;
    checked = λ _. trimmed;
    unchecked = λ h. absurd (false≢true (sym h));
    front = λ h. absurd (false≢true h);
  }

  -- before a check every term is the field's own
  module _ (bare : symbol.layer ≡ Bare) (valid : IsValidIpv4 (datagram_of first)) where
    as_arrived : IsAsArrived header first symbol p
    as_arrived = shadow.unchecked (ap is_checked_layer bare)

    valid_now : IsChecked p
    valid_now = subst (λ d. IsValidIpv4 d) (sym as_arrived.same) valid

    none_written : of_data header first (checked symbol) passed ≡ (λ (field : Field). None)
    none_written = λ i field. each field (is_data field) refl i
      where
        each : (field : Field) (b : Bool) → is_data field ≡ b → of_data header first (checked symbol) passed field ≡ None
        each field true e =
            ap (λ w. w field) same_data ∙ ap (λ b. if b then write_value header first field (term_at symbol field) passed else None) e
            ∙ ap (λ (b : Bool). if b then None else Some (value_of (term_at symbol field) header passed)) (as_arrived.own field e)
        each field false e = ap (λ b. if b then write_value header first field (term_at (checked symbol) field) passed else None) e

    first_trimmed : IsTrimmed header first (checked symbol) passed (check p)
    first_trimmed = record {
      may = subst (λ w. May w (data_base header first)) (sym none_written) (λ field v e. absurd (none-some v e));
      same = datagram_of-checked p valid_now ∙ ap checked_datagram as_arrived.same ∙ ap (λ w. (all w (data_base header first) data_fields).bytes) (sym none_written);
    }

    pub first_check : IsShadow header first (checked symbol) passed (check p)
    first_check = check_shadow valid_now (ap layer_checked (shadow.layer ∙ bare)) first_trimmed

  -- behind one a check changes nothing
  module _ (ip : symbol.layer ≡ Ip) (sums : HasWrittenSums (data_base header first)) (whole : IsWhole (datagram_of (data_base header first))) where
    trimmed : IsTrimmed header first symbol passed p
    trimmed = shadow.checked (ap is_checked_layer ip)

    written_ip : (data_written header first symbol passed).layer ≡ Ip
    written_ip = all_layer (of_data header first symbol passed) data_fields (data_base header first)

    same_as : datagram_of p ≡ datagram_of (data_written header first symbol passed)
    same_as = trimmed.same ∙ sym (bare_bytes (data_written header first symbol passed) written_ip)

    pub sums_now : HasWrittenSums p
    sums_now = sums_as (data_written header first symbol passed) p same_as shadow.are_bytes (all_sums (of_data header first symbol passed) data_fields (data_base header first) trimmed.may sums)

    pub ports_now : has_ports (datagram_of p) ≡ has_ports (datagram_of (data_base header first))
    ports_now = ap has_ports same_as ∙ ports_all (of_data header first symbol passed) data_fields (data_base header first) trimmed.may

    whole_now : IsWhole (datagram_of p)
    whole_now = subst (λ d. IsWhole d) (sym same_as) (shape_all (of_data header first symbol passed) data_fields (data_base header first) trimmed.may whole)

    again_trimmed : IsTrimmed header first (checked symbol) passed (check p)
    again_trimmed = record {
      may = subst (λ w. May w (data_base header first)) (sym same_data) trimmed.may;
      same = datagram_of-checked p sums_now.is_checked ∙ checked_again p sums_now whole_now ∙ trimmed.same ∙ ap (λ w. (all w (data_base header first) data_fields).bytes) (sym same_data);
    }

    pub check_again : IsShadow header first (checked symbol) passed (check p)
    check_again = check_shadow sums_now.is_checked (ap layer_checked (shadow.layer ∙ ip)) again_trimmed

-- what a check refuses stays as it is
pub refuse_shadow : (header : List ℕ) (first : PacketState) (symbol : Symbol) (passed : List Flow) (p : PacketState) → symbol.layer ≡ Bare → IsShadow header first symbol passed p
    → IsShadow header first (refused symbol) passed (record p { layer = Bare })
refuse_shadow header first symbol passed p bare shadow =
    subst (λ l. IsShadow header first (record symbol { layer = l }) passed (record p { layer = l })) bare
    (subst (λ l. IsShadow header first symbol passed (record p { layer = l })) shadow.layer shadow)
