-- The tree of each class of elements means its step, where what follows means what follows.
use Rattle.std.proofs.Common.{◌≡◌, ◌≢◌, ◌∙◌, sym, ap, subst, refl, ℕ, ◌+◌, ◌≤◌, Bool, true, false, List, [], length, drop, arith}
use Rattle.std.specs.Prelude.{◌==◌, if◌then◌else◌, Some, None}
use Rattle.std.proofs.lemmas.Bool.{false≢true}
use Rattle.mt_packet.proofs.Forms.{Part, source, destination, code_point, life, source_port, destination_port}
use Rattle.std.proofs.lemmas.List.{length-drop}
use Rattle.mt_packet.proofs.PacketWrites.{ethernet, receiver, as-after, side_bytes}
use Rattle.mt_packet.proofs.Spots.{sets-length}
use Rattle.mt_packet.proofs.Ranges.{fields_of-in_ranges, two_bytes-range}
use Rattle.mt_packet.proofs.Settled.{datagram-bytes}
use Rattle.mt_packet.specs.Field.{two_bytes_at}
use Rattle.mt_packet.specs.Flow.{packet_flow, datagram_flow}
use Rattle.mt_packet.specs.Header.{AreBytes, field_of, greatest_of}
use Rattle.mt_packet.specs.Ipv4.{IsValidIpv4, has_ports, sport_of, dport_of, header_length}
use Rattle.mt_packet.specs.Packet.{PacketState, has_ethernet, datagram_of, packet_header, with_field, stripped as strip, encapsulated as encap, checked as check, CanWrite, HasWrittenSums}
use Rattle.mt_packet.specs.declared.field.Field.{Field}
use Rattle.mt_packet.specs.declared.field.Field.TheVariants as of
use Rattle.mt_packet.specs.declared.flow.Flow.{Flow}
use Rattle.mt_packet.specs.declared.layer.Layer.{Layer}
use Rattle.mt_packet.specs.declared.layer.Layer.TheVariants.{Frame, Bare, Ip, Framed}
use Rattle.mt_kinds.specs.Layers.{is_ip}
use Rattle.mt_elements.specs.ChainState.{ChainState}
use Rattle.mt_chain.specs.Classifier.{value_of as read}
use Rattle.mt_chain.specs.Step.{refused as refuse}
use Rattle.mt_terms.specs.Terms.{TermForm, const, value_of, passages_of}
use Rattle.mt_trees.proofs.Checks.{first_check, check_again, refuse_shadow, sums_now, ports_now}
use Rattle.mt_trees.proofs.Encapsulated.{encap_shadow}
use Rattle.mt_trees.proofs.Frames.{below_checked, four_beside, four_paint, strip_shadow}
use Rattle.mt_trees.proofs.Grounds.{ground_sums, ground_whole, ground_data, ground_bytes, ground_front, ground_long}
use Rattle.mt_trees.proofs.Leaving.{Shade, unpainted, is_lowered, unlowered}
use Rattle.mt_trees.proofs.Moves.{Mark, paint, annotation, mark_at, marked}
use Rattle.mt_trees.proofs.Parts.{at as part_at}
use Rattle.mt_trees.proofs.Shadow.{is_checked_layer, data_base, IsShadow, term_here, part_written}
use Rattle.mt_trees.proofs.Stations.{Station, to, from, at_station, station_written}
use Rattle.mt_trees.proofs.Writes.{two_fields}
use Rattle.mt_trees.specs.Symbols.{Symbol, term_at, with_term, stripped, encapsulated, checked, refused}

-- ---- values of a packet in their ranges

pub in_range : (p : PacketState) → AreBytes p.bytes → (field : Field) → field_of (packet_header (record p { device = 0; paint = 0; annotation = 0 })) field ≤ greatest_of field
in_range p bytes field = (fields_of-in_ranges 0 _ (datagram_of p) 0 0 (omega arith) (frame_bytes (has_ethernet p.layer)) (datagram-bytes p bytes) (omega arith) (omega arith)).in_range field
  where
    frame_bytes : (b : Bool) → AreBytes (if b then p.bytes else [])
    frame_bytes true = bytes
    frame_bytes false = λ o. omega arith

pub low_sport : (d : List ℕ) → AreBytes d → has_ports d ≡ true → sport_of d ≤ 65535
unfolding sport_of
low_sport d bytes visible = subst (λ b. (if b then two_bytes_at d (header_length d) else 65536) ≤ 65535) (sym visible) (two_bytes-range d (header_length d) bytes)

pub low_dport : (d : List ℕ) → AreBytes d → has_ports d ≡ true → dport_of d ≤ 65535
unfolding dport_of
low_dport d bytes visible = subst (λ b. (if b then two_bytes_at d (header_length d + 2) else 65536) ≤ 65535) (sym visible) (two_bytes-range d (header_length d + 2) bytes)

pub flow_there : (p : PacketState) → has_ports (datagram_of p) ≡ true
    → packet_flow p ≡ Some (record { proto = read p of.Proto; sa = read p of.Src; sp = read p of.Sport; da = read p of.Dst; dp = read p of.Dport })
unfolding datagram_flow
flow_there p visible = ap (λ (b : Bool). if b then Some (record { proto = read p of.Proto; sa = read p of.Src; sp = read p of.Sport; da = read p of.Dst; dp = read p of.Dport }) else None) visible

pub flow_gone : (p : PacketState) → has_ports (datagram_of p) ≡ false → packet_flow p ≡ None
unfolding datagram_flow
flow_gone p hidden = ap (λ (b : Bool). if b then Some (record { proto = read p of.Proto; sa = read p of.Src; sp = read p of.Sport; da = read p of.Dst; dp = read p of.Dport }) else None) hidden

-- ---- layers by their tests

pub ip_is : (l : Layer) → is_ip l ≡ true → l ≡ Ip
ip_is Frame e = absurd (false≢true e)
ip_is Bare e = absurd (false≢true e)
ip_is Ip e = refl
ip_is Framed e = absurd (false≢true e)

-- a valid packet lies behind 14 bytes
long_valid : (first : PacketState) → first.layer ≡ Frame → IsValidIpv4 (datagram_of first) → 14 ≤ length first.bytes
long_valid first arrives valid =
    let held : datagram_of first ≡ drop 14 first.bytes = ap (λ l. if has_ethernet l then drop 14 first.bytes else first.bytes) arrives in
    let long = valid.has_fixed_part in
    let same = ap length held in
    let n = length-drop 14 first.bytes in
    omega (arith, long, same, n)

module _ (chain : ChainState) (header : List ℕ) (first : PacketState) (header_is : header ≡ packet_header first) (arrives : first.layer ≡ Frame) (bytes : AreBytes first.bytes) (picks : List ℕ)
    (symbol : Symbol) (passed : List Flow) (p : PacketState) (shade : Shade header first symbol passed p) where
  shadow : IsShadow header first symbol passed p
  shadow = shade.shadow

  -- ---- a term of the Ethernet header, of paint or of the annotation

  pub mark_shade : (m : Mark) (term : TermForm) (v : ℕ) → value_of term header passed ≡ v → passages_of term ≤ symbol.passages → (mark_at m ≡ of.Paint → passages_of term ≡ 0)
      → Shade header first (with_term symbol (mark_at m) term) passed (with_field p (mark_at m) v)
  mark_shade m term v is within plain = record {
    shadow = marked header first m symbol passed p term v shadow is within;
    valid = shade.valid;
    painted = either m plain;
    lowered = beside m;
  }
    where
      beside : (m : Mark) → is_lowered (term_at (with_term symbol (mark_at m) term) of.Ttl) ≡ true
      beside paint = unlowered symbol of.Paint term (two_fields of.Ttl of.Paint refl) shade.lowered
      beside annotation = unlowered symbol of.Annotation term (two_fields of.Ttl of.Annotation refl) shade.lowered

      either : (m : Mark) → (mark_at m ≡ of.Paint → passages_of term ≡ 0) → passages_of (term_at (with_term symbol (mark_at m) term) of.Paint) ≡ 0
      either paint h = ap passages_of (term_here symbol of.Paint term shadow.long) ∙ h refl
      either annotation h = unpainted symbol of.Annotation term (two_fields of.Paint of.Annotation refl) shade.painted

  -- ---- a field of IPv4

  module _ (ip : symbol.layer ≡ Ip) where
    valid : IsValidIpv4 (datagram_of first)
    valid = shade.valid (ap is_checked_layer ip)

    sums : HasWrittenSums (data_base header first)
    sums = ground_sums header first header_is arrives bytes valid

    part_paint : (q : Part) → of.Paint ≢ part_at q
    part_paint source = two_fields of.Paint of.Src refl
    part_paint destination = two_fields of.Paint of.Dst refl
    part_paint code_point = two_fields of.Paint of.Dscp refl
    part_paint life = two_fields of.Paint of.Ttl refl
    part_paint source_port = two_fields of.Paint of.Sport refl
    part_paint destination_port = two_fields of.Paint of.Dport refl

    -- the time to live only falls
    part_ttl : (q : Part) (term : TermForm) → (part_at q ≡ of.Ttl → is_lowered term ≡ true) → is_lowered (term_at (with_term symbol (part_at q) term) of.Ttl) ≡ true
    part_ttl source term h = unlowered symbol of.Src term (two_fields of.Ttl of.Src refl) shade.lowered
    part_ttl destination term h = unlowered symbol of.Dst term (two_fields of.Ttl of.Dst refl) shade.lowered
    part_ttl code_point term h = unlowered symbol of.Dscp term (two_fields of.Ttl of.Dscp refl) shade.lowered
    part_ttl life term h = ap is_lowered (term_here symbol of.Ttl term shadow.long) ∙ h refl
    part_ttl source_port term h = unlowered symbol of.Sport term (two_fields of.Ttl of.Sport refl) shade.lowered
    part_ttl destination_port term h = unlowered symbol of.Dport term (two_fields of.Ttl of.Dport refl) shade.lowered

    pub part_shade : (q : Part) (term : TermForm) (v : ℕ) → value_of term header passed ≡ v → passages_of term ≤ symbol.passages → CanWrite (data_base header first) (part_at q) v
        → (part_at q ≡ of.Ttl → is_lowered term ≡ true) → Shade header first (with_term symbol (part_at q) term) passed (with_field p (part_at q) v)
    part_shade q term v is within can falls = record {
      shadow = part_written header first sums (ground_data header first header_is arrives bytes valid) symbol passed p shadow ip q term v is within can;
      valid = shade.valid;
      painted = unpainted symbol (part_at q) term (part_paint q) shade.painted;
      lowered = part_ttl q term falls;
    }

    pub sums_here : HasWrittenSums p
    sums_here = sums_now header first symbol passed p shadow ip sums (ground_whole header first header_is arrives bytes valid)

    pub ports_here : has_ports (datagram_of p) ≡ true → has_ports (datagram_of (data_base header first)) ≡ true
    ports_here visible = sym (ports_now header first symbol passed p shadow ip sums (ground_whole header first header_is arrives bytes valid)) ∙ visible

    pub can_source : (v : ℕ) → v ≤ 4294967295 → CanWrite (data_base header first) of.Src v
    can_source v low = (sums.is_checked, low)

    pub can_destination : (v : ℕ) → v ≤ 4294967295 → CanWrite (data_base header first) of.Dst v
    can_destination v low = (sums.is_checked, low)

    pub can_dscp : (v : ℕ) → v ≤ 63 → CanWrite (data_base header first) of.Dscp v
    can_dscp v low = (sums.is_checked, low)

    pub can_ttl : (v : ℕ) → v ≤ 255 → CanWrite (data_base header first) of.Ttl v
    can_ttl v low = (sums.is_checked, low)

    pub can_sport : (v : ℕ) → has_ports (datagram_of p) ≡ true → v ≤ 65535 → CanWrite (data_base header first) of.Sport v
    can_sport v visible low = (record { is_checked = sums.is_checked; are_visible = ports_here visible }, low)

    pub can_dport : (v : ℕ) → has_ports (datagram_of p) ≡ true → v ≤ 65535 → CanWrite (data_base header first) of.Dport v
    can_dport v visible low = (record { is_checked = sums.is_checked; are_visible = ports_here visible }, low)

  -- ---- the Ethernet header

  module _ (there : has_ethernet symbol.layer ≡ true) (long : 14 ≤ length p.bytes) where
    long_first : 14 ≤ length first.bytes
    long_first = ground_long header first header_is arrives bytes symbol passed p shadow there long

    station_paint : (s : Station) → of.Paint ≢ at_station s
    station_paint to = two_fields of.Paint of.EthDst refl
    station_paint from = two_fields of.Paint of.EthSrc refl

    station_ttl : (s : Station) → of.Ttl ≢ at_station s
    station_ttl to = two_fields of.Ttl of.EthDst refl
    station_ttl from = two_fields of.Ttl of.EthSrc refl

    pub station_shade : (s : Station) (term : TermForm) (v : ℕ) → value_of term header passed ≡ v → passages_of term ≤ symbol.passages → v ≤ greatest_of (at_station s)
        → Shade header first (with_term symbol (at_station s) term) passed (with_field p (at_station s) v)
    station_shade s term v is within low = record {
      shadow = station_written header first long_first (ground_bytes header first header_is arrives bytes) (ground_front header first header_is arrives bytes long_first) symbol passed p shadow there long s term v is within low;
      valid = shade.valid;
      painted = unpainted symbol (at_station s) term (station_paint s) shade.painted;
      lowered = unlowered symbol (at_station s) term (station_ttl s) shade.lowered;
    }

    abbrev pub swapped_once : PacketState
    swapped_once = with_field p of.EthDst (read p of.EthSrc)

    pub once_shade : Shade header first (with_term symbol of.EthDst (term_at symbol of.EthSrc)) passed swapped_once
    once_shade = station_shade to (term_at symbol of.EthSrc) (read p of.EthSrc) (shadow.values of.EthSrc) (shadow.bounded of.EthSrc) (in_range p shadow.are_bytes of.EthSrc)

    pub once_long : 14 ≤ length swapped_once.bytes
    once_long =
        let same = ap (λ r. length r.bytes) (as-after p (ethernet receiver) (read p of.EthSrc)) ∙ sets-length 20 (side_bytes receiver (read p of.EthSrc)) p.bytes in
        omega (arith, same, long)

  -- what a check refuses
  pub refused_shade : symbol.layer ≡ Bare → Shade header first (refused symbol) passed (refuse p)
  refused_shade bare = record {
    shadow = refuse_shadow header first symbol passed p bare shadow;
    valid = λ h. absurd (false≢true h);
    painted = shade.painted;
    lowered = shade.lowered;
  }

  -- without its Ethernet header
  pub stripped_shade : has_ethernet symbol.layer ≡ true → Shade header first (stripped symbol) passed (strip p)
  stripped_shade there = record {
    shadow = strip_shadow header first symbol passed p shadow there;
    valid = λ h. shade.valid (sym (below_checked symbol.layer) ∙ h);
    painted = ap passages_of (four_paint symbol (const 65536) (const 0) (const 0) (const 65536)) ∙ shade.painted;
    lowered = ap is_lowered (four_beside symbol (const 65536) (const 0) (const 0) (const 65536) of.Ttl refl) ∙ shade.lowered;
  }

  -- with another
  pub encapsulated_shade : symbol.layer ≡ Ip → (ether_type src dst : ℕ) → ether_type ≤ 65535 → (ether_type == 2054) ≡ false → src ≤ 281474976710655 → dst ≤ 281474976710655
      → Shade header first (encapsulated symbol ether_type src dst) passed (encap p ether_type src dst)
  encapsulated_shade ip ether_type src dst low other low_src low_dst = record {
    shadow = encap_shadow header first symbol passed p shadow ip (long_valid first arrives (valid ip)) ether_type src dst low other low_src low_dst;
    valid = λ _. valid ip;
    painted = ap passages_of (four_paint symbol (const ether_type) (const dst) (const src) (const 65536)) ∙ shade.painted;
    lowered = ap is_lowered (four_beside symbol (const ether_type) (const dst) (const src) (const 65536) of.Ttl refl) ∙ shade.lowered;
  }

  -- checked
  check_painted : passages_of (term_at (checked symbol) of.Paint) ≡ 0
  check_painted = unpainted symbol of.Annotation (term_at symbol of.Dst) (two_fields of.Paint of.Annotation refl) shade.painted

  check_lowered : is_lowered (term_at (checked symbol) of.Ttl) ≡ true
  check_lowered = unlowered symbol of.Annotation (term_at symbol of.Dst) (two_fields of.Ttl of.Annotation refl) shade.lowered

  pub checked_shade : symbol.layer ≡ Bare → IsValidIpv4 (datagram_of p) → Shade header first (checked symbol) passed (check p)
  checked_shade bare found =
      let first_valid : IsValidIpv4 (datagram_of first) = subst (λ d. IsValidIpv4 d) (shadow.unchecked (ap is_checked_layer bare)).same found in
      record {
        shadow = first_check header first symbol passed p shadow bare first_valid;
        valid = λ _. first_valid;
        painted = check_painted;
        lowered = check_lowered;
      }

  pub rechecked_shade : symbol.layer ≡ Ip → Shade header first (checked symbol) passed (check p)
  rechecked_shade ip = record {
    shadow = check_again header first symbol passed p shadow ip (sums ip) (ground_whole header first header_is arrives bytes (valid ip));
    valid = λ _. valid ip;
    painted = check_painted;
    lowered = check_lowered;
  }
