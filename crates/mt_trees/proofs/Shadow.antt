-- A symbol stands for a packet on its way: its terms have the values of the packet's fields, and the packet's bytes are
-- those of the frame as it arrived, checked where the symbol was, with the terms written.
use Rattle.std.proofs.Common.{◌≡◌, ◌≢◌, ◌∙◌, sym, ap, subst, refl, ℕ, ◌≤◌, Bool, true, false, List, length, take}
use Rattle.std.specs.Prelude.{Option, Some, None, if◌then◌else◌, slice_set}
use Rattle.std.proofs.lemmas.Bool.{false≢true}
use Rattle.std.proofs.lemmas.List.{length-set}
use Rattle.std.proofs.lemmas.Option.{none-some}
use Rattle.mt_packet.proofs.Forms.{Part, source, destination, code_point, life, source_port, destination_port, written}
use Rattle.mt_packet.proofs.Settled.{same-write-keeps, written-sums-settle}
use Rattle.mt_packet.specs.Header.{AreBytes, number_of, field_of}
use Rattle.mt_packet.specs.Packet.{PacketState, has_ethernet, datagram_of, packet_header, with_field, checked_datagram, CanWrite, HasWrittenSums}
use Rattle.mt_packet.specs.declared.field.Field.{Field}
use Rattle.mt_packet.specs.declared.field.Field.TheVariants as of
use Rattle.mt_packet.specs.declared.flow.Flow.{Flow}
use Rattle.mt_packet.specs.declared.layer.Layer.{Layer}
use Rattle.mt_packet.specs.declared.layer.Layer.TheVariants.{Frame, Bare, Ip, Framed}
use Rattle.mt_terms.specs.Terms.{TermForm, const, entry, minus, flow_part, value_of, passages_of}
use Rattle.mt_trees.proofs.Parts.{at, Came, same_layer, same_origin, came_again, all_layer, all_sums, bare_bytes, part_bytes, can_as, part_header, set_here, set_beside}
use Rattle.mt_trees.proofs.Writes.{unsome, is_same, one_field, two_fields, opt, all, May, can_all, once, Beside, put}
use Rattle.mt_trees.specs.Elements.{front_fields, data_fields, is_own}
use Rattle.mt_trees.specs.Symbols.{Symbol, term_at, with_term}

-- ---- layers

abbrev pub is_checked_layer : Layer → Bool
is_checked_layer Frame = false
is_checked_layer Bare = false
is_checked_layer Ip = true
is_checked_layer Framed = true

-- ---- which fields are written

abbrev pub is_data : Field → Bool
is_data of.Src = true
is_data of.Dst = true
is_data of.Dscp = true
is_data of.Sport = true
is_data of.Dport = true
is_data of.Ttl = true
is_data field = false

abbrev pub is_front : Field → Bool
is_front of.EthType = true
is_front of.EthDst = true
is_front of.EthSrc = true
is_front field = false

pub data_part : (q : Part) → is_data (at q) ≡ true
data_part source = refl
data_part destination = refl
data_part code_point = refl
data_part life = refl
data_part source_port = refl
data_part destination_port = refl

stands_once : (q : Part) → once (at q) data_fields ≡ true
stands_once source = refl
stands_once destination = refl
stands_once code_point = refl
stands_once life = refl
stands_once source_port = refl
stands_once destination_port = refl

proto_apart : (q : Part) → of.Proto ≢ at q
proto_apart source = two_fields of.Proto of.Src refl
proto_apart destination = two_fields of.Proto of.Dst refl
proto_apart code_point = two_fields of.Proto of.Dscp refl
proto_apart life = two_fields of.Proto of.Ttl refl
proto_apart source_port = two_fields of.Proto of.Sport refl
proto_apart destination_port = two_fields of.Proto of.Dport refl

-- a term that is a field's own value has the value that the header has of it
pub own_value : (header : List ℕ) (passed : List Flow) (field : Field) (term : TermForm) → is_own field term ≡ true → value_of term header passed ≡ field_of header field
own_value header passed field (const value) h = absurd (false≢true h)
own_value header passed field (entry own) h = ap (field_of header) (one_field own field h)
own_value header passed field (minus term amount) h = absurd (false≢true h)
own_value header passed field (flow_part passage part) h = absurd (false≢true h)

module _ (header : List ℕ) (first : PacketState) where
  abbrev pub write_value : Field → TermForm → List Flow → Option ℕ
  write_value field term passed = if is_own field term then None else Some (value_of term header passed)

  abbrev pub of_data : Symbol → List Flow → Field → Option ℕ
  of_data symbol passed field = if is_data field then write_value field (term_at symbol field) passed else None

  abbrev pub of_front : Symbol → List Flow → Field → Option ℕ
  of_front symbol passed field = if is_front field then write_value field (term_at symbol field) passed else None

  -- the first 14 bytes of the frame, and its data checked
  abbrev pub front_base : PacketState
  front_base = record first { bytes = take 14 first.bytes; layer = Frame }

  abbrev pub data_base : PacketState
  data_base = record first { bytes = checked_datagram (datagram_of first); layer = Ip }

  abbrev pub data_written : Symbol → List Flow → PacketState
  data_written symbol passed = all (of_data symbol passed) data_base data_fields

  abbrev pub front_written : Symbol → List Flow → PacketState
  front_written symbol passed = all (of_front symbol passed) front_base front_fields

  -- behind a check
  pub record IsTrimmed (symbol : Symbol) (passed : List Flow) (p : PacketState) : Type 0 where
    pub may : May (of_data symbol passed) data_base
    pub same : datagram_of p ≡ (data_written symbol passed).bytes

  -- before one
  pub record IsAsArrived (symbol : Symbol) (p : PacketState) : Type 0 where
    pub own : (field : Field) → is_data field ≡ true → is_own field (term_at symbol field) ≡ true
    pub same : datagram_of p ≡ datagram_of first

  -- with an Ethernet header
  pub record HasFront (symbol : Symbol) (passed : List Flow) (p : PacketState) : Type 0 where
    pub may : May (of_front symbol passed) front_base
    pub same : take 14 p.bytes ≡ (front_written symbol passed).bytes

  pub record IsShadow (symbol : Symbol) (passed : List Flow) (p : PacketState) : Type 0 where
    pub long : length symbol.terms ≡ 24
    pub counted : length passed ≡ symbol.passages
    pub bounded : (field : Field) → passages_of (term_at symbol field) ≤ symbol.passages
    pub values : (field : Field) → value_of (term_at symbol field) header passed ≡ field_of (packet_header p) field
    pub layer : p.layer ≡ symbol.layer
    pub came : Came first p
    pub are_bytes : AreBytes p.bytes
    pub protocol : is_own of.Proto (term_at symbol of.Proto) ≡ true
    pub trim : symbol.trim ≡ is_checked_layer symbol.layer
    pub checked : is_checked_layer symbol.layer ≡ true → IsTrimmed symbol passed p
    pub unchecked : is_checked_layer symbol.layer ≡ false → IsAsArrived symbol p
    pub front : has_ethernet symbol.layer ≡ true → HasFront symbol passed p

-- ---- a term more

pub term_here : (symbol : Symbol) (field : Field) (term : TermForm) → length symbol.terms ≡ 24 → term_at (with_term symbol field term) field ≡ term
term_here symbol field term long = set_here symbol.terms field term (const 0) long

pub term_beside : (symbol : Symbol) (field other : Field) (term : TermForm) → other ≢ field → term_at (with_term symbol field term) other ≡ term_at symbol other
term_beside symbol field other term apart = set_beside symbol.terms field other term (const 0) apart

-- by whether a field is that one
pub by_field : (P : Field → Type 0) (field : Field) → P field → ((other : Field) → other ≢ field → P other) → (other : Field) → P other
by_field P field here beside other = either (is_same other field) refl
  where
    either : (b : Bool) → is_same other field ≡ b → P other
    either true e = subst P (sym (one_field other field e)) here
    either false e = beside other (two_fields other field e)

-- ---- a write of a field of IPv4

module _ (header : List ℕ) (first : PacketState) (sums : HasWrittenSums (data_base header first)) (same_data : (q : Part) → field_of (packet_header (data_base header first)) (at q) ≡ field_of header (at q)) where
  -- what is its own value changes nothing
  own_keeps : (q : Part) (v : ℕ) → CanWrite (data_base header first) (at q) v → v ≡ field_of header (at q) → with_field (data_base header first) (at q) v ≡ data_base header first
  own_keeps q v c is =
      let held : v ≡ field_of (packet_header (data_base header first)) (at q) = is ∙ sym (same_data q) in
      ap (with_field (data_base header first) (at q)) held
      ∙ (same-write-keeps (data_base header first) (at q) sums.are_bytes (subst (CanWrite (data_base header first) (at q)) held c)).1 (written-sums-settle (data_base header first) (at q) sums)

  module _ (symbol : Symbol) (passed : List Flow) (p : PacketState) (shadow : IsShadow header first symbol passed p) (ip : symbol.layer ≡ Ip) (q : Part) (term : TermForm) (v : ℕ)
      (is : value_of term header passed ≡ v) (within : passages_of term ≤ symbol.passages) (can : CanWrite (data_base header first) (at q) v) where
    abbrev next : Symbol
    next = with_term symbol (at q) term

    trimmed : IsTrimmed header first symbol passed p
    trimmed = shadow.checked (ap is_checked_layer ip)

    here : term_at next (at q) ≡ term
    here = term_here symbol (at q) term shadow.long

    beside : (other : Field) → other ≢ at q → term_at next other ≡ term_at symbol other
    beside other apart = term_beside symbol (at q) other term apart

    data_beside : Beside (at q) (of_data header first symbol passed) (of_data header first next passed)
    data_beside other apart = ap (λ t. if is_data other then write_value header first other t passed else None) (beside other apart)

    data_here : of_data header first next passed (at q) ≡ write_value header first (at q) term passed
    data_here = ap (λ b. if b then write_value header first (at q) (term_at next (at q)) passed else None) (data_part q) ∙ ap (λ t. write_value header first (at q) t passed) here

    can_here : (w : ℕ) → write_value header first (at q) term passed ≡ Some w → CanWrite (data_base header first) (at q) w
    can_here w e = either (is_own (at q) term) e
      where
        either : (b : Bool) → (if b then None else Some (value_of term header passed)) ≡ Some w → CanWrite (data_base header first) (at q) w
        either true d = absurd (none-some w d)
        either false d = subst (CanWrite (data_base header first) (at q)) (sym is ∙ unsome (value_of term header passed) w d) can

    may : May (of_data header first next passed) (data_base header first)
    may = by_field (λ f. (w : ℕ) → of_data header first next passed f ≡ Some w → CanWrite (data_base header first) f w) (at q)
        (λ w e. can_here w (sym data_here ∙ e))
        (λ other apart w e. trimmed.may other w (sym (data_beside other apart) ∙ e))

    changes : with_field (data_base header first) (at q) v ≡ opt (data_base header first) (at q) (of_data header first next passed (at q))
    changes = either (is_own (at q) term) refl
      where
        either : (b : Bool) → is_own (at q) term ≡ b → with_field (data_base header first) (at q) v ≡ opt (data_base header first) (at q) (of_data header first next passed (at q))
        either true e = own_keeps q v can (sym is ∙ own_value header passed (at q) term e)
            ∙ sym (ap (opt (data_base header first) (at q)) (data_here ∙ ap (λ b. if b then None else Some (value_of term header passed)) e))
        either false e = ap (with_field (data_base header first) (at q)) (sym is)
            ∙ sym (ap (opt (data_base header first) (at q)) (data_here ∙ ap (λ b. if b then None else Some (value_of term header passed)) e))

    written_next : with_field (data_written header first symbol passed) (at q) v ≡ data_written header first next passed
    written_next = put (of_data header first symbol passed) (of_data header first next passed) (at q) v data_fields (data_base header first) (stands_once q) data_beside trimmed.may may can changes

    -- the packet under way is that of the writes
    base_layer : (data_written header first symbol passed).layer ≡ Ip
    base_layer = all_layer (of_data header first symbol passed) data_fields (data_base header first)

    now_ip : p.layer ≡ Ip
    now_ip = shadow.layer ∙ ip

    bytes_are : p.bytes ≡ (data_written header first symbol passed).bytes
    bytes_are = sym (bare_bytes p now_ip) ∙ trimmed.same

    abbrev after : PacketState
    after = with_field p (at q) v

    after_bytes : after.bytes ≡ (data_written header first next passed).bytes
    after_bytes =
        part_bytes p q v now_ip ∙ ap (λ b. written b q v) bytes_are
        ∙ sym (part_bytes (data_written header first symbol passed) q v base_layer) ∙ ap (λ r. r.bytes) written_next

    pub can_now : CanWrite p (at q) v
    can_now =
        can_as (data_written header first symbol passed) p q v (trimmed.same ∙ sym (bare_bytes (data_written header first symbol passed) base_layer))
        (can_all (of_data header first symbol passed) data_fields (data_base header first) trimmed.may (at q) v can)

    header_next : packet_header after ≡ slice_set (packet_header p) (number_of (at q)) v
    header_next = part_header p q v can_now

    values_next : (field : Field) → value_of (term_at next field) header passed ≡ field_of (packet_header after) field
    values_next = by_field (λ f. value_of (term_at next f) header passed ≡ field_of (packet_header after) f) (at q)
        (ap (λ t. value_of t header passed) here ∙ is ∙ sym (ap (λ h. field_of h (at q)) header_next ∙ set_here (packet_header p) (at q) v 0 refl))
        (λ other apart. ap (λ t. value_of t header passed) (beside other apart) ∙ shadow.values other
        ∙ sym (ap (λ h. field_of h other) header_next ∙ set_beside (packet_header p) (at q) other v 0 apart))

    -- a field of IPv4 is written
    pub part_written : IsShadow header first next passed after
    part_written = record {
      long = length-set symbol.terms (number_of (at q)) term ∙ shadow.long;
      counted = shadow.counted;
      bounded = by_field (λ f. passages_of (term_at next f) ≤ symbol.passages) (at q)
          (subst (λ t. passages_of t ≤ symbol.passages) (sym here) within)
          (λ other apart. subst (λ t. passages_of t ≤ symbol.passages) (sym (beside other apart)) (shadow.bounded other));
      values = values_next;
      layer = same_layer p (at q) v ∙ shadow.layer;
      came = came_again first p after shadow.came (same_origin p (at q) v);
      are_bytes = subst AreBytes (sym after_bytes) (all_sums (of_data header first next passed) data_fields (data_base header first) may sums).are_bytes;
      protocol = subst (λ t. is_own of.Proto t ≡ true) (sym (beside of.Proto (proto_apart q))) shadow.protocol;
      trim = shadow.trim;
      checked = λ _. record { may = may; same = bare_bytes after (same_layer p (at q) v ∙ now_ip) ∙ after_bytes };
      unchecked = λ h. absurd (false≢true (sym h ∙ ap is_checked_layer ip));
      front = λ h. absurd (false≢true (sym (ap has_ethernet ip) ∙ h));
    }
