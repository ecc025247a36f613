-- An Ethernet header put in front of a packet, and on its symbol.
use Rattle.std.proofs.Common.{◌≡◌, ◌∙◌, sym, ap, subst, refl, ℕ, zero, suc, ◌≤◌, Bool, true, false, List, [], ◌∷◌, ◌++◌, length, drop, nat_lt, arith}
use Rattle.std.specs.Prelude.{Option, Some, None, if◌then◌else◌, slice_set, ◌==◌}
use Rattle.std.proofs.lemmas.Bool.{false≢true}
use Rattle.std.proofs.lemmas.List.{length-set, length-take}
use Rattle.std.proofs.lemmas.Option.{none-some}
use Rattle.mt_packet.proofs.After.{with_field-header}
use Rattle.mt_packet.specs.Field.{eth_type_of, arp_op_of, two_bytes_at}
use Rattle.mt_packet.specs.Header.{AreBytes, field_of, fields_of}
use Rattle.mt_packet.specs.Packet.{PacketState, has_ethernet, packet_header, with_field, ethernet_header, encapsulated as encap, HasEthernet}
use Rattle.mt_packet.specs.Write.{put_two, put_six}
use Rattle.mt_packet.specs.declared.field.Field.{Field}
use Rattle.mt_packet.specs.declared.field.Field.TheVariants as of
use Rattle.mt_packet.specs.declared.flow.Flow.{Flow}
use Rattle.mt_packet.specs.declared.layer.Layer.TheVariants.{Ip, Framed}
use Rattle.mt_terms.specs.Terms.{TermForm, const}
use Rattle.mt_trees.proofs.Frames.{four, four_long, four_beside, four_proto, four_values, four_reads, four_bounded}
use Rattle.mt_trees.proofs.Moves.{data_alike}
use Rattle.mt_trees.proofs.Parts.{bare_bytes}
use Rattle.mt_trees.proofs.Shadow.{is_checked_layer, of_data, of_front, write_value, data_base, front_base, IsTrimmed, HasFront, IsShadow, term_here, term_beside}
use Rattle.mt_trees.proofs.Stations.{two_bytes, six_bytes}
use Rattle.mt_trees.proofs.Writes.{unsome, all, May, two_fields}
use Rattle.mt_trees.specs.Elements.{is_own, data_fields, front_fields}
use Rattle.mt_trees.specs.Symbols.{Symbol, term_at, with_term, encapsulated}

-- ---- the bytes

-- the three fields written over 14 bytes
header_written : (bytes : List ℕ) (kind src dst : ℕ) → length bytes ≡ 14 → put_six (put_six (put_two bytes 12 kind) 0 dst) 6 src ≡ ethernet_header kind src dst
header_written ([]) kind src dst long = absurd (omega (arith, long))
header_written (a ∷ []) kind src dst long = absurd (omega (arith, long))
header_written (a ∷ b ∷ []) kind src dst long = absurd (omega (arith, long))
header_written (a ∷ b ∷ c ∷ []) kind src dst long = absurd (omega (arith, long))
header_written (a ∷ b ∷ c ∷ d ∷ []) kind src dst long = absurd (omega (arith, long))
header_written (a ∷ b ∷ c ∷ d ∷ e ∷ []) kind src dst long = absurd (omega (arith, long))
header_written (a ∷ b ∷ c ∷ d ∷ e ∷ f ∷ []) kind src dst long = absurd (omega (arith, long))
header_written (a ∷ b ∷ c ∷ d ∷ e ∷ f ∷ g ∷ []) kind src dst long = absurd (omega (arith, long))
header_written (a ∷ b ∷ c ∷ d ∷ e ∷ f ∷ g ∷ h ∷ []) kind src dst long = absurd (omega (arith, long))
header_written (a ∷ b ∷ c ∷ d ∷ e ∷ f ∷ g ∷ h ∷ i ∷ []) kind src dst long = absurd (omega (arith, long))
header_written (a ∷ b ∷ c ∷ d ∷ e ∷ f ∷ g ∷ h ∷ i ∷ j ∷ []) kind src dst long = absurd (omega (arith, long))
header_written (a ∷ b ∷ c ∷ d ∷ e ∷ f ∷ g ∷ h ∷ i ∷ j ∷ k ∷ []) kind src dst long = absurd (omega (arith, long))
header_written (a ∷ b ∷ c ∷ d ∷ e ∷ f ∷ g ∷ h ∷ i ∷ j ∷ k ∷ l ∷ []) kind src dst long = absurd (omega (arith, long))
header_written (a ∷ b ∷ c ∷ d ∷ e ∷ f ∷ g ∷ h ∷ i ∷ j ∷ k ∷ l ∷ m ∷ []) kind src dst long = absurd (omega (arith, long))
header_written (a ∷ b ∷ c ∷ d ∷ e ∷ f ∷ g ∷ h ∷ i ∷ j ∷ k ∷ l ∷ m ∷ n ∷ []) kind src dst long = refl
header_written (a ∷ b ∷ c ∷ d ∷ e ∷ f ∷ g ∷ h ∷ i ∷ j ∷ k ∷ l ∷ m ∷ n ∷ o ∷ rest) kind src dst long = absurd (omega (arith, long))

-- zeros where an Ethernet header is to stand
abbrev zeros_before : ℕ → List ℕ → List ℕ
zeros_before zero bytes = bytes
zeros_before (suc more) bytes = 0 ∷ zeros_before more bytes

abbrev behind_zeros : List ℕ → List ℕ
behind_zeros bytes = zeros_before 14 bytes

zeros_bytes : (n : ℕ) (bytes : List ℕ) → AreBytes bytes → AreBytes (zeros_before n bytes)
zeros_bytes zero bytes are offset = are offset
zeros_bytes (suc more) bytes are zero = omega arith
zeros_bytes (suc more) bytes are (suc offset) = zeros_bytes more bytes are offset

encap_bytes : (bytes : List ℕ) (kind src dst : ℕ) → AreBytes bytes → AreBytes (ethernet_header kind src dst ++ bytes)
encap_bytes bytes kind src dst are =
    two_bytes (put_six (put_six (behind_zeros bytes) 0 dst) 6 src) 12 kind (six_bytes (put_six (behind_zeros bytes) 0 dst) 6 src (six_bytes (behind_zeros bytes) 0 dst (zeros_bytes 14 bytes are)))

-- ---- the header

no_arp : (bytes : List ℕ) (kind : ℕ) → eth_type_of bytes ≡ kind → (kind == 2054) ≡ false → arp_op_of bytes ≡ 65536
unfolding arp_op_of
no_arp bytes kind is other = either (nat_lt (length bytes) 22) (eth_type_of bytes == 2054) (ap (λ k. k == 2054) is ∙ other)
  where
    either : (short arp : Bool) → arp ≡ false → (if short then 65536 else (if arp then two_bytes_at bytes 20 else 65536)) ≡ 65536
    either true arp e = refl
    either false true e = absurd (false≢true (sym e))
    either false false e = refl

module _ (p : PacketState) (kind src dst : ℕ) (low : kind ≤ 65535) (low_src : src ≤ 281474976710655) (low_dst : dst ≤ 281474976710655) where
  -- the writes
  abbrev zeros : PacketState
  zeros = record p { bytes = behind_zeros p.bytes; layer = Framed }

  abbrev addressed : PacketState
  addressed = with_field zeros of.EthDst dst

  abbrev sent : PacketState
  sent = with_field addressed of.EthSrc src

  zeros_there : HasEthernet zeros
  zeros_there = record { is_there = refl; is_whole = omega arith }

  addressed_there : HasEthernet addressed
  addressed_there = record { is_there = refl; is_whole = omega arith }

  sent_there : HasEthernet sent
  sent_there = record { is_there = refl; is_whole = omega arith }

  typed_header : packet_header (encap p kind src dst) ≡ slice_set (slice_set (packet_header sent) 1 kind) 4 (arp_op_of (ethernet_header kind src dst ++ p.bytes))
  typed_header = with_field-header sent of.EthType kind (sent_there, low)

  sent_header : packet_header sent ≡ slice_set (slice_set (packet_header zeros) 2 dst) 3 src
  sent_header = with_field-header addressed of.EthSrc src (addressed_there, low_src) ∙ ap (λ h. slice_set h 3 src) (with_field-header zeros of.EthDst dst (zeros_there, low_dst))

  all_header : (arp : ℕ) → arp_op_of (ethernet_header kind src dst ++ p.bytes) ≡ arp → packet_header (encap p kind src dst) ≡ four_values (packet_header zeros) kind dst src arp
  all_header arp is = typed_header ∙ ap (λ h. slice_set (slice_set h 1 kind) 4 (arp_op_of (ethernet_header kind src dst ++ p.bytes))) sent_header ∙ ap (λ a. four_values (packet_header zeros) kind dst src a) is

  kind_read : eth_type_of (ethernet_header kind src dst ++ p.bytes) ≡ kind
  kind_read = ap (λ h. field_of h of.EthType) typed_header

  encap_header : p.layer ≡ Ip → (kind == 2054) ≡ false → packet_header (encap p kind src dst) ≡ four_values (packet_header p) kind dst src 65536
  encap_header ip other =
      all_header 65536 (no_arp (ethernet_header kind src dst ++ p.bytes) kind kind_read other)
      ∙ ap (λ l. four_values (fields_of p.device (if has_ethernet l then p.bytes else []) (if has_ethernet l then drop 14 p.bytes else p.bytes) p.paint p.annotation) kind dst src 65536) (sym ip)

-- ---- the terms

module _ (symbol : Symbol) (kind dst src arp : TermForm) (long : length symbol.terms ≡ 24) where
  type_there : term_at (four symbol kind dst src arp) of.EthType ≡ kind
  type_there =
      term_beside (with_term (with_term (with_term symbol of.EthType kind) of.EthDst dst) of.EthSrc src) of.ArpOp of.EthType arp (two_fields of.EthType of.ArpOp refl)
      ∙ term_beside (with_term (with_term symbol of.EthType kind) of.EthDst dst) of.EthSrc of.EthType src (two_fields of.EthType of.EthSrc refl)
      ∙ term_beside (with_term symbol of.EthType kind) of.EthDst of.EthType dst (two_fields of.EthType of.EthDst refl)
      ∙ term_here symbol of.EthType kind long

  dst_there : term_at (four symbol kind dst src arp) of.EthDst ≡ dst
  dst_there =
      term_beside (with_term (with_term (with_term symbol of.EthType kind) of.EthDst dst) of.EthSrc src) of.ArpOp of.EthDst arp (two_fields of.EthDst of.ArpOp refl)
      ∙ term_beside (with_term (with_term symbol of.EthType kind) of.EthDst dst) of.EthSrc of.EthDst src (two_fields of.EthDst of.EthSrc refl)
      ∙ term_here (with_term symbol of.EthType kind) of.EthDst dst (length-set symbol.terms 1 kind ∙ long)

  src_there : term_at (four symbol kind dst src arp) of.EthSrc ≡ src
  src_there =
      term_beside (with_term (with_term (with_term symbol of.EthType kind) of.EthDst dst) of.EthSrc src) of.ArpOp of.EthSrc arp (two_fields of.EthSrc of.ArpOp refl)
      ∙ term_here (with_term (with_term symbol of.EthType kind) of.EthDst dst) of.EthSrc src
      (length-set (with_term symbol of.EthType kind).terms 2 dst ∙ length-set symbol.terms 1 kind ∙ long)

-- the writes of an Ethernet header
abbrev header_writes : ℕ → ℕ → ℕ → Field → Option ℕ
header_writes kind src dst of.EthType = Some kind
header_writes kind src dst of.EthDst = Some dst
header_writes kind src dst of.EthSrc = Some src
header_writes kind src dst field = None

module _ (header : List ℕ) (first : PacketState) (symbol : Symbol) (passed : List Flow) (p : PacketState) (shadow : IsShadow header first symbol passed p) (ip : symbol.layer ≡ Ip) (long_first : 14 ≤ length first.bytes)
    (kind src dst : ℕ) (low : kind ≤ 65535) (other : (kind == 2054) ≡ false) (low_src : src ≤ 281474976710655) (low_dst : dst ≤ 281474976710655) where
  abbrev next : Symbol
  next = encapsulated symbol kind src dst

  now_ip : p.layer ≡ Ip
  now_ip = shadow.layer ∙ ip

  same_data : of_data header first next passed ≡ of_data header first symbol passed
  same_data = data_alike header first symbol next passed (four_beside symbol (const kind) (const dst) (const src) (const 65536))

  next_front : of_front header first next passed ≡ header_writes kind src dst
  next_front = λ i field. each field i
    where
      each : (field : Field) → of_front header first next passed field ≡ header_writes kind src dst field
      each of.EthType = ap (λ t. write_value header first of.EthType t passed) (type_there symbol (const kind) (const dst) (const src) (const 65536) shadow.long)
      each of.EthDst = ap (λ t. write_value header first of.EthDst t passed) (dst_there symbol (const kind) (const dst) (const src) (const 65536) shadow.long)
      each of.EthSrc = ap (λ t. write_value header first of.EthSrc t passed) (src_there symbol (const kind) (const dst) (const src) (const 65536) shadow.long)
      each field = refl

  base_length : length (front_base header first).bytes ≡ 14
  base_length = let n = length-take 14 first.bytes in omega (arith, n, long_first)

  base_there : HasEthernet (front_base header first)
  base_there = record { is_there = refl; is_whole = omega (arith, base_length) }

  may_write : May (header_writes kind src dst) (front_base header first)
  may_write of.EthType v e = (base_there, subst (λ n. n ≤ 65535) (unsome kind v e) low)
  may_write of.EthDst v e = (base_there, subst (λ n. n ≤ 281474976710655) (unsome dst v e) low_dst)
  may_write of.EthSrc v e = (base_there, subst (λ n. n ≤ 281474976710655) (unsome src v e) low_src)
  may_write field v e = absurd (none-some v e)

  front_next : HasFront header first next passed (encap p kind src dst)
  front_next = record {
    may = subst (λ w. May w (front_base header first)) (sym next_front) may_write;
    same = sym (header_written (front_base header first).bytes kind src dst base_length) ∙ ap (λ w. (all w (front_base header first) front_fields).bytes) (sym next_front);
  }

  data_next : IsTrimmed header first next passed (encap p kind src dst)
  data_next = let t = shadow.checked (ap is_checked_layer ip) in record {
    may = subst (λ w. May w (data_base header first)) (sym same_data) t.may;
    same = sym (bare_bytes p now_ip) ∙ t.same ∙ ap (λ w. (all w (data_base header first) data_fields).bytes) (sym same_data);
  }

  -- an Ethernet header is put in front
  pub encap_shadow : IsShadow header first (encapsulated symbol kind src dst) passed (encap p kind src dst)
  encap_shadow = record {
    long = four_long symbol (const kind) (const dst) (const src) (const 65536) shadow.long;
    counted = shadow.counted;
    bounded = four_bounded symbol symbol.passages kind dst src 65536 shadow.long shadow.bounded;
    values = λ field. four_reads header passed symbol (packet_header p) kind dst src 65536 shadow.long refl shadow.values field
        ∙ sym (ap (λ h. field_of h field) (encap_header p kind src dst low low_src low_dst now_ip other));
    layer = refl;
    came = record { stamp = shadow.came.stamp; device = shadow.came.device; number = shadow.came.number };
    are_bytes = encap_bytes p.bytes kind src dst shadow.are_bytes;
    protocol = subst (λ t. is_own of.Proto t ≡ true) (sym (four_proto symbol (const kind) (const dst) (const src) (const 65536))) shadow.protocol;
    trim = shadow.trim ∙ ap is_checked_layer ip;
    checked = λ _. data_next;
    unchecked = λ h. absurd (false≢true (sym h));
    front = λ _. front_next;
  }
