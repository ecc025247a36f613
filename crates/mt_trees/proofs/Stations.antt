-- An Ethernet header whose addresses are written, and one that is put on.
use Rattle.std.proofs.Common.{◌≡◌, ◌≢◌, ◌∙◌, sym, ap, subst, refl, ℕ, zero, suc, ◌+◌, ◌/◌, ◌%◌, ◌<◌, ◌≤◌, Bool, true, false, List, [], ◌∷◌, length, get_or, set, take, arith}
use Rattle.std.specs.Prelude.{Some, None, if◌then◌else◌, slice_set}
use Rattle.std.proofs.Math.Seq.{take-set-lt}
use Rattle.std.proofs.lemmas.Bool.{false≢true}
use Rattle.std.proofs.lemmas.List.{length-set, length-take}
use Rattle.std.proofs.lemmas.Option.{none-some}
use Rattle.mt_packet.proofs.After.{with_field-header}
use Rattle.mt_packet.proofs.PacketWrites.{Side, receiver, sender, ethernet, field_for, as-after, side-datagram}
use Rattle.mt_packet.proofs.Settled.{same-write-keeps}
use Rattle.mt_packet.specs.Header.{AreBytes, number_of, field_of, greatest_of}
use Rattle.mt_packet.specs.Packet.{PacketState, has_ethernet, datagram_of, packet_header, with_field, CanWrite, HasEthernet}
use Rattle.mt_packet.specs.WriteLaws.{IsSettledFor}
use Rattle.mt_packet.specs.Write.{put_two, put_four, put_six}
use Rattle.mt_packet.specs.declared.field.Field.{Field}
use Rattle.mt_packet.specs.declared.field.Field.TheVariants as of
use Rattle.mt_packet.specs.declared.flow.Flow.{Flow}
use Rattle.mt_terms.specs.Terms.{TermForm, value_of, passages_of}
use Rattle.mt_trees.proofs.More.{reads_set, bounded_set}
use Rattle.mt_trees.proofs.Moves.{data_alike}
use Rattle.mt_trees.proofs.Parts.{same_layer, same_origin, came_again}
use Rattle.mt_trees.proofs.Shadow.{is_data, is_front, of_data, of_front, write_value, data_base, front_base, front_written, HasFront, IsShadow, own_value, term_here, term_beside, by_field}
use Rattle.mt_trees.proofs.Writes.{unsome, opt, all, May, once, Beside, put, two_fields}
use Rattle.mt_trees.specs.Elements.{is_own, data_fields, front_fields}
use Rattle.mt_trees.specs.Symbols.{Symbol, term_at, with_term}

-- the two stations of a frame
pub data Station : Type 0 where
  to : Station
  from : Station

abbrev pub side : Station → Side
side to = receiver
side from = sender

abbrev pub at_station : Station → Field
at_station s = field_for (ethernet (side s))

station_front : (s : Station) → is_front (at_station s) ≡ true
station_front to = refl
station_front from = refl

station_data : (s : Station) (field : Field) → is_data field ≡ true → field ≢ at_station s
station_data to field e same = false≢true (ap is_data (sym same) ∙ e)
station_data from field e same = false≢true (ap is_data (sym same) ∙ e)

station_proto : (s : Station) → of.Proto ≢ at_station s
station_proto to = two_fields of.Proto of.EthDst refl
station_proto from = two_fields of.Proto of.EthSrc refl

station_once : (s : Station) → once (at_station s) front_fields ≡ true
station_once to = refl
station_once from = refl

-- ---- the first 14 bytes

pub take_two : (b : List ℕ) (o v : ℕ) → o + 1 < 14 → take 14 (put_two b o v) ≡ put_two (take 14 b) o v
take_two b o v low =
    take-set-lt 14 (set b o (v / 256 % 256)) (o + 1) (v % 256) low
    ∙ ap (λ l. set l (o + 1) (v % 256)) (take-set-lt 14 b o (v / 256 % 256) (omega (arith, low)))

take_four : (b : List ℕ) (o v : ℕ) → o + 3 < 14 → take 14 (put_four b o v) ≡ put_four (take 14 b) o v
take_four b o v low =
    take_two (put_two b o (v / 65536)) (o + 2) v (omega (arith, low))
    ∙ ap (λ l. put_two l (o + 2) v) (take_two b o (v / 65536) (omega (arith, low)))

pub take_six : (b : List ℕ) (o v : ℕ) → o + 5 < 14 → take 14 (put_six b o v) ≡ put_six (take 14 b) o v
take_six b o v low =
    take_four (put_two b o (v / 4294967296)) (o + 2) v (omega (arith, low))
    ∙ ap (λ l. put_four l (o + 2) v) (take_two b o (v / 4294967296) (omega (arith, low)))

station_bytes : (s : Station) (p w : PacketState) (v : ℕ) → take 14 p.bytes ≡ w.bytes → take 14 (with_field p (at_station s) v).bytes ≡ (with_field w (at_station s) v).bytes
station_bytes to p w v e = take_six p.bytes 0 v (omega arith) ∙ ap (λ b. put_six b 0 v) e
station_bytes from p w v e = take_six p.bytes 6 v (omega arith) ∙ ap (λ b. put_six b 6 v) e

station_can : (s : Station) (p : PacketState) (v : ℕ) → HasEthernet p → v ≤ greatest_of (at_station s) → CanWrite p (at_station s) v
station_can to p v h fits = (h, fits)
station_can from p v h fits = (h, fits)

station_header : (s : Station) (p : PacketState) (v : ℕ) → CanWrite p (at_station s) v → packet_header (with_field p (at_station s) v) ≡ slice_set (packet_header p) (number_of (at_station s)) v
station_header to p v c = with_field-header p of.EthDst v c
station_header from p v c = with_field-header p of.EthSrc v c

station_datagram : (s : Station) (p : PacketState) (v : ℕ) → HasEthernet p → datagram_of (with_field p (at_station s) v) ≡ datagram_of p
station_datagram s p v h = ap datagram_of (as-after p (ethernet (side s)) v) ∙ side-datagram p (side s) v h

settled_station : (s : Station) (p : PacketState) → IsSettledFor p (at_station s)
settled_station to p = tt
settled_station from p = tt

-- bytes stay bytes
set_small : (b : List ℕ) (i v offset : ℕ) → v < 256 → get_or b offset 0 < 256 → get_or (set b i v) offset 0 < 256
set_small [] i v offset small bytes = bytes
set_small (x ∷ xs) zero v zero small bytes = small
set_small (x ∷ xs) zero v (suc offset) small bytes = bytes
set_small (x ∷ xs) (suc i) v zero small bytes = bytes
set_small (x ∷ xs) (suc i) v (suc offset) small bytes = set_small xs i v offset small bytes

put_bytes : (b : List ℕ) (i v : ℕ) → v < 256 → AreBytes b → AreBytes (set b i v)
put_bytes b i v small bytes = λ offset. set_small b i v offset small (bytes offset)

pub two_bytes : (b : List ℕ) (o v : ℕ) → AreBytes b → AreBytes (put_two b o v)
two_bytes b o v bytes = put_bytes (set b o (v / 256 % 256)) (o + 1) (v % 256) (omega arith) (put_bytes b o (v / 256 % 256) (omega arith) bytes)

pub six_bytes : (b : List ℕ) (o v : ℕ) → AreBytes b → AreBytes (put_six b o v)
six_bytes b o v bytes =
    two_bytes (put_two (put_two b o (v / 4294967296)) (o + 2) (v / 65536)) (o + 2 + 2) v
    (two_bytes (put_two b o (v / 4294967296)) (o + 2) (v / 65536) (two_bytes b o (v / 4294967296) bytes))

station_are_bytes : (s : Station) (p : PacketState) (v : ℕ) → AreBytes p.bytes → AreBytes (with_field p (at_station s) v).bytes
station_are_bytes to p v bytes = six_bytes p.bytes 0 v bytes
station_are_bytes from p v bytes = six_bytes p.bytes 6 v bytes

-- ---- an address is written

module _ (header : List ℕ) (first : PacketState) (long_first : 14 ≤ length first.bytes) (bytes_first : AreBytes (front_base header first).bytes)
    (same_front : (s : Station) → field_of (packet_header (front_base header first)) (at_station s) ≡ field_of header (at_station s)) where
  front_ethernet : HasEthernet (front_base header first)
  front_ethernet = record { is_there = refl; is_whole = let n = length-take 14 first.bytes in omega (arith, n, long_first) }

  own_keeps : (s : Station) (v : ℕ) → CanWrite (front_base header first) (at_station s) v → v ≡ field_of header (at_station s) → with_field (front_base header first) (at_station s) v ≡ front_base header first
  own_keeps s v c is =
      let held : v ≡ field_of (packet_header (front_base header first)) (at_station s) = is ∙ sym (same_front s) in
      ap (with_field (front_base header first) (at_station s)) held
      ∙ (same-write-keeps (front_base header first) (at_station s) bytes_first (subst (CanWrite (front_base header first) (at_station s)) held c)).1 (settled_station s (front_base header first))

  module _ (symbol : Symbol) (passed : List Flow) (p : PacketState) (shadow : IsShadow header first symbol passed p) (there : has_ethernet symbol.layer ≡ true) (long : 14 ≤ length p.bytes)
      (s : Station) (term : TermForm) (v : ℕ) (is : value_of term header passed ≡ v) (within : passages_of term ≤ symbol.passages) (fits : v ≤ greatest_of (at_station s)) where
    abbrev next : Symbol
    next = with_term symbol (at_station s) term

    fronted : HasFront header first symbol passed p
    fronted = shadow.front there

    can : CanWrite (front_base header first) (at_station s) v
    can = station_can s (front_base header first) v front_ethernet fits

    now : HasEthernet p
    now = record { is_there = ap has_ethernet shadow.layer ∙ there; is_whole = long }

    can_now : CanWrite p (at_station s) v
    can_now = station_can s p v now fits

    here : term_at next (at_station s) ≡ term
    here = term_here symbol (at_station s) term shadow.long

    beside : (other : Field) → other ≢ at_station s → term_at next other ≡ term_at symbol other
    beside other apart = term_beside symbol (at_station s) other term apart

    front_beside : Beside (at_station s) (of_front header first symbol passed) (of_front header first next passed)
    front_beside other apart = ap (λ t. if is_front other then write_value header first other t passed else None) (beside other apart)

    front_here : of_front header first next passed (at_station s) ≡ write_value header first (at_station s) term passed
    front_here = ap (λ b. if b then write_value header first (at_station s) (term_at next (at_station s)) passed else None) (station_front s) ∙ ap (λ t. write_value header first (at_station s) t passed) here

    can_here : (w : ℕ) → write_value header first (at_station s) term passed ≡ Some w → CanWrite (front_base header first) (at_station s) w
    can_here w e = either (is_own (at_station s) term) e
      where
        either : (b : Bool) → (if b then None else Some (value_of term header passed)) ≡ Some w → CanWrite (front_base header first) (at_station s) w
        either true d = absurd (none-some w d)
        either false d = subst (CanWrite (front_base header first) (at_station s)) (sym is ∙ unsome (value_of term header passed) w d) can

    may : May (of_front header first next passed) (front_base header first)
    may = by_field (λ f. (w : ℕ) → of_front header first next passed f ≡ Some w → CanWrite (front_base header first) f w) (at_station s)
        (λ w e. can_here w (sym front_here ∙ e))
        (λ other apart w e. fronted.may other w (sym (front_beside other apart) ∙ e))

    changes : with_field (front_base header first) (at_station s) v ≡ opt (front_base header first) (at_station s) (of_front header first next passed (at_station s))
    changes = either (is_own (at_station s) term) refl
      where
        either : (b : Bool) → is_own (at_station s) term ≡ b → with_field (front_base header first) (at_station s) v ≡ opt (front_base header first) (at_station s) (of_front header first next passed (at_station s))
        either true e = own_keeps s v can (sym is ∙ own_value header passed (at_station s) term e)
            ∙ sym (ap (opt (front_base header first) (at_station s)) (front_here ∙ ap (λ b. if b then None else Some (value_of term header passed)) e))
        either false e = ap (with_field (front_base header first) (at_station s)) (sym is)
            ∙ sym (ap (opt (front_base header first) (at_station s)) (front_here ∙ ap (λ b. if b then None else Some (value_of term header passed)) e))

    written_next : with_field (front_written header first symbol passed) (at_station s) v ≡ front_written header first next passed
    written_next = put (of_front header first symbol passed) (of_front header first next passed) (at_station s) v front_fields (front_base header first) (station_once s) front_beside fronted.may may can changes

    same_data : of_data header first next passed ≡ of_data header first symbol passed
    same_data = data_alike header first symbol next passed (λ field e. beside field (station_data s field e))

    pub station_written : IsShadow header first next passed (with_field p (at_station s) v)
    station_written = record {
      long = length-set symbol.terms (number_of (at_station s)) term ∙ shadow.long;
      counted = shadow.counted;
      bounded = bounded_set symbol symbol.passages (at_station s) term shadow.long within shadow.bounded;
      values = λ field. reads_set header passed symbol (packet_header p) (at_station s) term v shadow.long refl is shadow.values field ∙ sym (ap (λ h. field_of h field) (station_header s p v can_now));
      layer = same_layer p (at_station s) v ∙ shadow.layer;
      came = came_again first p _ shadow.came (same_origin p (at_station s) v);
      are_bytes = station_are_bytes s p v shadow.are_bytes;
      protocol = subst (λ t. is_own of.Proto t ≡ true) (sym (beside of.Proto (station_proto s))) shadow.protocol;
      trim = shadow.trim;
      checked = λ h. (let t = shadow.checked h in record {
        may = subst (λ w. May w (data_base header first)) (sym same_data) t.may;
        same = station_datagram s p v now ∙ t.same ∙ ap (λ w. (all w (data_base header first) data_fields).bytes) (sym same_data);
      });
      unchecked = λ h. (let u = shadow.unchecked h in record {
        own = λ field e. subst (λ t. is_own field t ≡ true) (sym (beside field (station_data s field e))) (u.own field e);
        same = station_datagram s p v now ∙ u.same;
      });
      front = λ _. record { may = may; same = station_bytes s p (front_written header first symbol passed) v fronted.same ∙ ap (λ r. r.bytes) written_next };
    }
