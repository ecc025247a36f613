-- What the frame as it arrived gives: its data checked, and its first 14 bytes.
use Rattle.std.proofs.Common.{◌≡◌, ◌∙◌, sym, ap, refl, ℕ, zero, suc, ◌<◌, ◌≤◌, true, List, [], ◌∷◌, length, get_or, take, arith}
use Rattle.std.specs.Prelude.{Option, Some, None, if◌then◌else◌, nat_lt}
use Rattle.std.proofs.lemmas.Bool.Decides.{nat_tests}
use Rattle.std.proofs.lemmas.List.{length-take, get_or-take}
use Rattle.std.proofs.lemmas.Option.{none-some}
use Rattle.mt_packet.proofs.Forms.{Part, source, destination, code_point, life, source_port, destination_port}
use Rattle.mt_packet.proofs.Judged.{checked-header}
use Rattle.mt_packet.proofs.Kept.{checked-ports}
use Rattle.mt_packet.proofs.PacketWrites.{type, receiver, sender, ethernet, as-after, side_bytes}
use Rattle.mt_packet.proofs.Settled.{datagram-bytes}
use Rattle.mt_packet.proofs.Settles.{check-settles}
use Rattle.mt_packet.proofs.Spots.{sets-length}
use Rattle.mt_packet.specs.Field.{eth_dst_of, eth_src_of}
use Rattle.mt_packet.specs.Header.{AreBytes, field_of}
use Rattle.mt_packet.specs.Ipv4.{IsValidIpv4, has_ports}
use Rattle.mt_packet.specs.Packet.{PacketState, has_ethernet, datagram_of, packet_header, checked as check, HasWrittenSums}
use Rattle.mt_packet.specs.declared.field.Field.{Field}
use Rattle.mt_packet.specs.declared.field.Field.TheVariants as of
use Rattle.mt_packet.specs.declared.flow.Flow.{Flow}
use Rattle.mt_packet.specs.declared.layer.Layer.{Layer}
use Rattle.mt_packet.specs.declared.layer.Layer.TheVariants.{Frame, Bare}
use Rattle.mt_trees.proofs.Checks.{IsWhole, checked_whole, sums_as}
use Rattle.mt_trees.proofs.Parts.{at}
use Rattle.mt_trees.proofs.Shadow.{of_front, data_base, front_base, IsShadow}
use Rattle.mt_trees.proofs.Stations.{Station, to, from, at_station}
use Rattle.mt_trees.proofs.Writes.{opt, all}
use Rattle.mt_trees.specs.Elements.{front_fields}
use Rattle.mt_trees.specs.Symbols.{Symbol}

module _ (header : List ℕ) (first : PacketState) (header_is : header ≡ packet_header first) (arrives : first.layer ≡ Frame) (bytes : AreBytes first.bytes) where
  -- ---- the data

  module _ (valid : IsValidIpv4 (datagram_of first)) where
    -- the data alone, before the check
    abbrev bare : PacketState
    bare = record first { bytes = datagram_of first; layer = Bare }

    pub ground_sums : HasWrittenSums (data_base header first)
    ground_sums =
        let s = check-settles bare (datagram-bytes first bytes) valid in
        sums_as (check bare) (data_base header first) refl s.are_bytes s

    pub ground_whole : IsWhole (datagram_of (data_base header first))
    ground_whole = checked_whole (datagram_of first) valid

    pub ground_ports : has_ports (datagram_of (data_base header first)) ≡ has_ports (datagram_of first)
    ground_ports = checked-ports bare valid

    as_checked : (q : Part) → field_of (packet_header (data_base header first)) (at q) ≡ field_of (packet_header (check bare)) (at q)
    as_checked source = refl
    as_checked destination = refl
    as_checked code_point = refl
    as_checked life = refl
    as_checked source_port = refl
    as_checked destination_port = refl

    as_bare : (q : Part) → field_of (packet_header (check bare)) (at q) ≡ field_of (packet_header bare) (at q)
    as_bare source = ap (λ h. field_of h of.Src) (checked-header bare valid)
    as_bare destination = ap (λ h. field_of h of.Dst) (checked-header bare valid)
    as_bare code_point = ap (λ h. field_of h of.Dscp) (checked-header bare valid)
    as_bare life = ap (λ h. field_of h of.Ttl) (checked-header bare valid)
    as_bare source_port = ap (λ h. field_of h of.Sport) (checked-header bare valid)
    as_bare destination_port = ap (λ h. field_of h of.Dport) (checked-header bare valid)

    as_first : (q : Part) → field_of (packet_header bare) (at q) ≡ field_of (packet_header first) (at q)
    as_first source = refl
    as_first destination = refl
    as_first code_point = refl
    as_first life = refl
    as_first source_port = refl
    as_first destination_port = refl

    pub ground_data : (q : Part) → field_of (packet_header (data_base header first)) (at q) ≡ field_of header (at q)
    ground_data q = as_checked q ∙ as_bare q ∙ as_first q ∙ ap (λ h. field_of h (at q)) (sym header_is)

  -- ---- the Ethernet header

  take_small : (n : ℕ) (b : List ℕ) (o : ℕ) → get_or b o 0 < 256 → get_or (take n b) o 0 < 256
  take_small zero b o small = omega arith
  take_small (suc n) [] o small = small
  take_small (suc n) (x ∷ xs) zero small = small
  take_small (suc n) (x ∷ xs) (suc o) small = take_small n xs o small

  pub ground_bytes : AreBytes (front_base header first).bytes
  ground_bytes = λ o. take_small 14 first.bytes o (bytes o)

  same_dst : (b : List ℕ) → 14 ≤ length b → eth_dst_of (take 14 b) ≡ eth_dst_of b
  unfolding eth_dst_of
  same_dst b long =
      let n = length-take 14 b in
      let t : nat_lt (length (take 14 b)) 14 ≡ nat_lt (length b) 14 = grind (arith, nat_tests) in
      let b0 = get_or-take 14 b 0 0 (omega arith) in
      let b1 = get_or-take 14 b 1 0 (omega arith) in
      let b2 = get_or-take 14 b 2 0 (omega arith) in
      let b3 = get_or-take 14 b 3 0 (omega arith) in
      let b4 = get_or-take 14 b 4 0 (omega arith) in
      let b5 = get_or-take 14 b 5 0 (omega arith) in
      cc

  same_src : (b : List ℕ) → 14 ≤ length b → eth_src_of (take 14 b) ≡ eth_src_of b
  unfolding eth_src_of
  same_src b long =
      let n = length-take 14 b in
      let t : nat_lt (length (take 14 b)) 14 ≡ nat_lt (length b) 14 = grind (arith, nat_tests) in
      let b0 = get_or-take 14 b 6 0 (omega arith) in
      let b1 = get_or-take 14 b 7 0 (omega arith) in
      let b2 = get_or-take 14 b 8 0 (omega arith) in
      let b3 = get_or-take 14 b 9 0 (omega arith) in
      let b4 = get_or-take 14 b 10 0 (omega arith) in
      let b5 = get_or-take 14 b 11 0 (omega arith) in
      cc

  -- with an Ethernet header in front the frame is all bytes
  frame_value : (of_frame : List ℕ → ℕ) → (l : Layer) → l ≡ Frame → of_frame (if has_ethernet l then first.bytes else []) ≡ of_frame first.bytes
  frame_value of_frame l e = ap (λ k. of_frame (if has_ethernet k then first.bytes else [])) e

  pub ground_front : 14 ≤ length first.bytes → (s : Station) → field_of (packet_header (front_base header first)) (at_station s) ≡ field_of header (at_station s)
  ground_front long to = same_dst first.bytes long ∙ sym (frame_value eth_dst_of first.layer arrives) ∙ ap (λ h. field_of h of.EthDst) (sym header_is)
  ground_front long from = same_src first.bytes long ∙ sym (frame_value eth_src_of first.layer arrives) ∙ ap (λ h. field_of h of.EthSrc) (sym header_is)

  -- writes of it leave its length
  opt_length : (symbol : Symbol) (passed : List Flow) (p : PacketState) (field : Field) (o : Option ℕ) → of_front header first symbol passed field ≡ o → length (opt p field o).bytes ≡ length p.bytes
  opt_length symbol passed p field None e = refl
  opt_length symbol passed p of.EthType (Some v) e = ap (λ r. length r.bytes) (as-after p (ethernet type) v) ∙ sets-length 20 (side_bytes type v) p.bytes
  opt_length symbol passed p of.EthDst (Some v) e = ap (λ r. length r.bytes) (as-after p (ethernet receiver) v) ∙ sets-length 20 (side_bytes receiver v) p.bytes
  opt_length symbol passed p of.EthSrc (Some v) e = ap (λ r. length r.bytes) (as-after p (ethernet sender) v) ∙ sets-length 20 (side_bytes sender v) p.bytes
  opt_length symbol passed p field (Some v) e = absurd (none-some v e)

  all_length : (symbol : Symbol) (passed : List Flow) (fs : List Field) (p : PacketState) → length (all (of_front header first symbol passed) p fs).bytes ≡ length p.bytes
  all_length symbol passed [] p = refl
  all_length symbol passed (f ∷ fs) p =
      all_length symbol passed fs (opt p f (of_front header first symbol passed f)) ∙ opt_length symbol passed p f (of_front header first symbol passed f) refl

  -- a frame of 14 bytes came from one
  pub ground_long : (symbol : Symbol) (passed : List Flow) (p : PacketState) → IsShadow header first symbol passed p → has_ethernet symbol.layer ≡ true → 14 ≤ length p.bytes → 14 ≤ length first.bytes
  ground_long symbol passed p shadow there long =
      let same = ap length (shadow.front there).same ∙ all_length symbol passed front_fields (front_base header first) in
      let a = length-take 14 p.bytes in
      let b = length-take 14 first.bytes in
      omega (arith, same, a, b, long)
