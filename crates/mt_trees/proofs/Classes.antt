-- The tree of each class of elements means its step, where what follows means what follows.
use Rattle.std.proofs.Common.{◌≡◌, ◌≢◌, ◌∙◌, sym, ap, subst, refl, ℕ, ◌-◌, ◌≤◌, Bool, true, false, List, [], length, arith}
use Rattle.std.specs.Prelude.{nat_le, ◌&&◌, ◌==◌, if◌then◌else◌, Option, Some, None, option_map, option_and_then, drop, Ok}
use Rattle.std.proofs.lemmas.Bool.{false≢true, leb-true}
use Rattle.std.proofs.lemmas.Bool.Decides.{nat_tests}
use Rattle.mt_packet.proofs.Forms.{source, destination, code_point, life, source_port, destination_port}
use Rattle.mt_packet.proofs.Frames.{valid-holds, valid-tested}
use Rattle.mt_packet.specs.Header.{AreBytes, field_of}
use Rattle.mt_packet.specs.Ipv4.{IsValidIpv4, is_valid_ipv4, ip_ok_of, has_ports}
use Rattle.mt_packet.specs.Packet.{PacketState, has_ethernet, datagram_of, packet_header, with_field, stripped as strip, encapsulated as encap, checked as check}
use Rattle.mt_packet.specs.declared.cause.Cause.{Cause}
use Rattle.mt_packet.specs.declared.cause.Cause.TheVariants as cause
use Rattle.mt_packet.specs.declared.field.Field.{Field}
use Rattle.mt_packet.specs.declared.field.Field.TheVariants as of
use Rattle.mt_packet.specs.declared.flow.Flow.{Flow}
use Rattle.mt_packet.specs.declared.layer.Layer.{Layer}
use Rattle.mt_packet.specs.declared.layer.Layer.TheVariants.{Frame, Bare, Ip, Framed}
use Rattle.mt_pattern.specs.Meaning.{contains_number}
use Rattle.mt_packet.proofs.Settled.{datagram-bytes}
use Rattle.mt_kinds.specs.Layers.{is_bare, is_ip, takes}
use Rattle.mt_kinds.specs.Ports.{is_rewriter}
use Rattle.mt_kinds.specs.declared.kind.End.{End}
use Rattle.mt_kinds.specs.declared.kind.End.TheVariants as end
use Rattle.mt_kinds.specs.declared.kind.Kind.{Kind}
use Rattle.mt_kinds.specs.declared.kind.Kind.TheVariants as kind
use Rattle.mt_kinds.specs.declared.rule.FilterAction.{FilterAction}
use Rattle.mt_kinds.specs.declared.rule.FilterAction.TheVariants.{Deny, Out}
use Rattle.mt_elements.specs.ChainState.{ChainState}
use Rattle.mt_elements.specs.Ranges.{KindFits}
use Rattle.mt_chain.specs.Classifier.{value_of as read, is_whole}
use Rattle.mt_chain.specs.Run.{State, Run, Answer, with_packet, goes_on, stamped_of}
use Rattle.mt_chain.specs.Step.{class_step, leaves as run_leaves, drops as run_drops, by_pattern, ethernet_swapped as swap_ethernet, refused as refuse, one_hop_on, address_of, addresses_swapped as swap_addresses, ports_swapped as swap_ports, by_action, by_ip_pattern, towards, by_hop}
use Rattle.mt_chain.specs.declared.run.Fate.TheVariants as fate
use Rattle.mt_terms.specs.Terms.{TermForm, const, entry, minus, flow_part, less_by, value_of, passages_of}
use Rattle.mt_terms.specs.Trees.{leaf}
use Rattle.mt_trees.proofs.Chosen.{field_agrees, whole_agrees, ports_agrees, classifier_agrees, ip_classifier_agrees, filter_agrees, route_agrees}
use Rattle.mt_trees.proofs.Leaves.{leaf_is, leaf_can}
use Rattle.mt_trees.proofs.Leaving.{Shade, is_lowered, IsGood, under_of, Agree, are_known, drop_answer, drop_agrees, leave_answer, leaves_agree}
use Rattle.mt_trees.proofs.Moves.{paint, annotation}
use Rattle.mt_trees.proofs.Shadow.{IsShadow, term_beside}
use Rattle.mt_trees.proofs.Stations.{from}
use Rattle.mt_trees.proofs.Steps.{in_range, low_sport, low_dport, flow_there, flow_gone, ip_is, mark_shade, part_shade, sums_here, can_source, can_destination, can_dscp, can_ttl, can_sport, can_dport, station_shade, refused_shade, stripped_shade, encapsulated_shade, checked_shade, rechecked_shade, once_shade, once_long}
use Rattle.mt_trees.proofs.Tested.{header_value, one_agrees}
use Rattle.mt_trees.proofs.Writes.{one_field, two_fields}
use Rattle.mt_trees.specs.Elements.{Along, class_tree, check_tree, leaves, with_gateway, action_tree, dropped, rewrite_of}
use Rattle.mt_trees.specs.Meaning.{CanRewrite, meaning_of, CanServe, rewriters_of, rewritten}
use Rattle.mt_trees.specs.Symbols.{Symbol, term_at, with_term, annotated, stripped, encapsulated, ethernet_swapped, checked, refused, addresses_swapped, ports_swapped}
use Rattle.mt_trees.specs.Tests.{Found}

-- ---- one hop less

less_value : (header : List ℕ) (passed : List Flow) (term : TermForm) → is_lowered term ≡ true → field_of header of.Ttl ≤ 255 → value_of (less_by term 1) header passed ≡ value_of term header passed - 1
less_value header passed (const v) h low = absurd (false≢true h)
less_value header passed (entry own) h low = refl
less_value header passed (minus (const v) n) h low = absurd (false≢true h)
less_value header passed (minus (entry own) n) h low =
    let same = ap (field_of header) (one_field own of.Ttl h) in
    omega (arith, same, low)
less_value header passed (minus (minus t m) n) h low = absurd (false≢true h)
less_value header passed (minus (flow_part k q) n) h low = absurd (false≢true h)
less_value header passed (flow_part k q) h low = absurd (false≢true h)

less_passages : (term : TermForm) → passages_of (less_by term 1) ≡ passages_of term
less_passages (const v) = refl
less_passages (entry own) = refl
less_passages (minus t n) = refl
less_passages (flow_part k q) = refl

less_lowered : (term : TermForm) → is_lowered term ≡ true → is_lowered (less_by term 1) ≡ true
less_lowered (const v) h = h
less_lowered (entry own) h = h
less_lowered (minus (const v) n) h = h
less_lowered (minus (entry own) n) h = h
less_lowered (minus (minus t m) n) h = h
less_lowered (minus (flow_part k q) n) h = h
less_lowered (flow_part k q) h = absurd (false≢true h)

one_only : (b : Bool) → contains_number (record { lo = 1; hi = 1 }) (if b then 1 else 0) ≡ b
one_only true = refl
one_only false = refl

run_out_is : (n : ℕ) → contains_number (record { lo = 0; hi = 1 }) n ≡ nat_le n 1
run_out_is n = grind (arith, nat_tests)

module _ (chain : ChainState) (header : List ℕ) (first : PacketState) (header_is : header ≡ packet_header first) (arrives : first.layer ≡ Frame) (bytes : AreBytes first.bytes) (picks : List ℕ)
    (at : ℕ × ℕ) (along : Along) (along_run : ℕ × ℕ → State → Answer Run)
    (again : (next : ℕ × ℕ) (symbol : Symbol) (passed : List Flow) (state : State) → Shade header first symbol passed state.packet → IsGood chain state.tables → Agree chain header first picks passed state (along next symbol) (along_run next state))
    (symbol : Symbol) (passed : List Flow) (state : State) (shade : Shade header first symbol passed state.packet) (good : IsGood chain state.tables) where
  abbrev p : PacketState
  p = state.packet

  shadow : IsShadow header first symbol passed p
  shadow = shade.shadow

  known : (field : Field) → passages_of (term_at symbol field) ≤ length passed
  known = are_known header first symbol passed p shade

  abbrev Means : Found → Answer Run → Type 0
  Means found answer = Agree chain header first picks passed state found answer

  -- what comes of the step of a class
  abbrev stepped : Kind → Answer Run
  stepped own = option_and_then (goes_on chain picks at.0 own along_run) (option_map (with_packet state) (class_step own p))

  -- the packet leaves by an output, as it is or as it was made
  goes : (own : Kind) (next : Symbol) (q : PacketState) (out : ℕ) → Shade header first next passed q → Means (leaves chain header along at own next out) (leave_answer chain header first picks at along along_run again own (record state { packet = q }) out)
  goes own next q out shade' = leaves_agree chain header first picks at along along_run again own next passed (record state { packet = q }) out shade' good

  drops : (why : Cause) → Means (dropped why) (drop_answer chain header first picks state why)
  drops why = drop_agrees chain header first picks passed state why good.range

  -- ---- the Ethernet header

  has_length : has_ethernet p.layer ≡ true → is_whole p ≡ true → 14 ≤ length p.bytes
  unfolding is_whole
  has_length there whole = leb-true 14 (length p.bytes) (sym (ap (λ b. b && nat_le 14 (length p.bytes)) there) ∙ whole)

  length_test : has_ethernet p.layer ≡ true → nat_le 14 (length p.bytes) ≡ is_whole p
  unfolding is_whole
  length_test there = sym (ap (λ b. b && nat_le 14 (length p.bytes)) there)

  mirror_shade : (there : has_ethernet symbol.layer ≡ true) (long : 14 ≤ length p.bytes) → Shade header first (ethernet_swapped symbol) passed (swap_ethernet p)
  mirror_shade there long =
      station_shade chain header first header_is arrives bytes picks (with_term symbol of.EthDst (term_at symbol of.EthSrc)) passed (with_field p of.EthDst (read p of.EthSrc))
      (once_shade chain header first header_is arrives bytes picks symbol passed p shade there long) there (once_long chain header first header_is arrives bytes picks symbol passed p shade there long)
      from (term_at symbol of.EthDst) (read p of.EthDst) (shadow.values of.EthDst) (shadow.bounded of.EthDst) (in_range p shadow.are_bytes of.EthDst)

  mirror_agrees : has_ethernet symbol.layer ≡ true → Means (class_tree chain header along at kind.EtherMirror symbol) (stepped kind.EtherMirror)
  unfolding class_tree class_step
  mirror_agrees there =
      whole_agrees (rewriters_of chain) picks first header (under_of passed state) symbol p shadow.values known shadow.are_bytes _ _ _
      (λ e. subst (λ b. Means (leaves chain header along at kind.EtherMirror (ethernet_swapped symbol) 0) (option_and_then (goes_on chain picks at.0 kind.EtherMirror along_run) (option_map (with_packet state) (if b then run_leaves (swap_ethernet p) 0 else run_drops p cause.Short)))) (sym e)
      (goes kind.EtherMirror (ethernet_swapped symbol) (swap_ethernet p) 0 (mirror_shade there (has_length (ap has_ethernet shadow.layer ∙ there) e))))
      (λ e. subst (λ b. Means (dropped cause.Short) (option_and_then (goes_on chain picks at.0 kind.EtherMirror along_run) (option_map (with_packet state) (if b then run_leaves (swap_ethernet p) 0 else run_drops p cause.Short)))) (sym e)
      (drops cause.Short))

  strip_agrees : has_ethernet symbol.layer ≡ true → Means (class_tree chain header along at kind.Strip symbol) (stepped kind.Strip)
  unfolding class_tree class_step
  strip_agrees there =
      whole_agrees (rewriters_of chain) picks first header (under_of passed state) symbol p shadow.values known shadow.are_bytes _ _ _
      (λ e. subst (λ b. Means (leaves chain header along at kind.Strip (stripped symbol) 0) (option_and_then (goes_on chain picks at.0 kind.Strip along_run) (option_map (with_packet state) (if b then run_leaves (strip p) 0 else run_drops p cause.Short)))) (sym (length_test (ap has_ethernet shadow.layer ∙ there) ∙ e))
      (goes kind.Strip (stripped symbol) (strip p) 0 (stripped_shade chain header first header_is arrives bytes picks symbol passed p shade there)))
      (λ e. subst (λ b. Means (dropped cause.Short) (option_and_then (goes_on chain picks at.0 kind.Strip along_run) (option_map (with_packet state) (if b then run_leaves (strip p) 0 else run_drops p cause.Short)))) (sym (length_test (ap has_ethernet shadow.layer ∙ there) ∙ e))
      (drops cause.Short))

  -- ---- checks

  ip_ok : field_of (packet_header p) of.IpOk ≡ (if is_valid_ipv4 (datagram_of p) then 1 else 0)
  unfolding ip_ok_of
  ip_ok = refl

  check_agrees : (l : Layer) → symbol.layer ≡ l → is_bare l ≡ true → Means (check_tree chain header along at kind.CheckIPHeader symbol l) (stepped kind.CheckIPHeader)
  unfolding class_step
  check_agrees Frame is bare = absurd (false≢true bare)
  check_agrees Framed is bare = absurd (false≢true bare)
  check_agrees Ip is bare =
      subst (λ b. Means (leaves chain header along at kind.CheckIPHeader (checked symbol) 0) (option_and_then (goes_on chain picks at.0 kind.CheckIPHeader along_run) (option_map (with_packet state) (if b then run_leaves (check p) 0 else run_leaves (refuse p) 1))))
      (sym (valid-tested (datagram_of p) (sums_here chain header first header_is arrives bytes picks symbol passed p shade is).is_checked))
      (goes kind.CheckIPHeader (checked symbol) (check p) 0 (rechecked_shade chain header first header_is arrives bytes picks symbol passed p shade is))
  check_agrees Bare is bare =
      field_agrees (rewriters_of chain) picks first header (under_of passed state) symbol p shadow.values known shadow.are_bytes of.IpOk 1 1 _ _ _
      (λ e. (let valid : is_valid_ipv4 (datagram_of p) ≡ true = sym (one_only (is_valid_ipv4 (datagram_of p))) ∙ ap (contains_number (record { lo = 1; hi = 1 })) (sym ip_ok) ∙ e in
      subst (λ b. Means (leaves chain header along at kind.CheckIPHeader (checked symbol) 0) (option_and_then (goes_on chain picks at.0 kind.CheckIPHeader along_run) (option_map (with_packet state) (if b then run_leaves (check p) 0 else run_leaves (refuse p) 1)))) (sym valid)
      (goes kind.CheckIPHeader (checked symbol) (check p) 0 (checked_shade chain header first header_is arrives bytes picks symbol passed p shade is (valid-holds (datagram_of p) valid)))))
      (λ e. (let invalid : is_valid_ipv4 (datagram_of p) ≡ false = sym (one_only (is_valid_ipv4 (datagram_of p))) ∙ ap (contains_number (record { lo = 1; hi = 1 })) (sym ip_ok) ∙ e in
      subst (λ b. Means (leaves chain header along at kind.CheckIPHeader (refused symbol) 1) (option_and_then (goes_on chain picks at.0 kind.CheckIPHeader along_run) (option_map (with_packet state) (if b then run_leaves (check p) 0 else run_leaves (refuse p) 1)))) (sym invalid)
      (goes kind.CheckIPHeader (refused symbol) (refuse p) 1 (refused_shade chain header first header_is arrives bytes picks symbol passed p shade is))))

  -- ---- IPv4

  module _ (ip : symbol.layer ≡ Ip) where
    ttl_shade : Shade header first (with_term symbol of.Ttl (less_by (term_at symbol of.Ttl) 1)) passed (one_hop_on p)
    ttl_shade =
        part_shade chain header first header_is arrives bytes picks symbol passed p shade ip life (less_by (term_at symbol of.Ttl) 1) (read p of.Ttl - 1)
        (less_value header passed (term_at symbol of.Ttl) shade.lowered (subst (λ h. field_of h of.Ttl ≤ 255) (sym header_is) (in_range first bytes of.Ttl)) ∙ ap (λ n. n - 1) (shadow.values of.Ttl))
        (let b = shadow.bounded of.Ttl in let same = less_passages (term_at symbol of.Ttl) in omega (arith, b, same))
        (can_ttl chain header first header_is arrives bytes picks symbol passed p shade ip (read p of.Ttl - 1) (let low = in_range p shadow.are_bytes of.Ttl in omega (arith, low)))
        (λ _. less_lowered (term_at symbol of.Ttl) shade.lowered)

    ttl_agrees : Means (class_tree chain header along at kind.DecIPTTL symbol) (stepped kind.DecIPTTL)
    unfolding class_tree class_step
    ttl_agrees =
        field_agrees (rewriters_of chain) picks first header (under_of passed state) symbol p shadow.values known shadow.are_bytes of.Ttl 0 1 _ _ _
        (λ e. subst (λ b. Means (leaves chain header along at kind.DecIPTTL symbol 1) (option_and_then (goes_on chain picks at.0 kind.DecIPTTL along_run) (option_map (with_packet state) (if b then run_leaves p 1 else run_leaves (one_hop_on p) 0)))) (sym (sym (run_out_is (read p of.Ttl)) ∙ e))
        (goes kind.DecIPTTL symbol p 1 shade))
        (λ e. subst (λ b. Means (leaves chain header along at kind.DecIPTTL (with_term symbol of.Ttl (less_by (term_at symbol of.Ttl) 1)) 0) (option_and_then (goes_on chain picks at.0 kind.DecIPTTL along_run) (option_map (with_packet state) (if b then run_leaves p 1 else run_leaves (one_hop_on p) 0)))) (sym (sym (run_out_is (read p of.Ttl)) ∙ e))
        (goes kind.DecIPTTL (with_term symbol of.Ttl (less_by (term_at symbol of.Ttl) 1)) (one_hop_on p) 0 ttl_shade))

    dscp_agrees : (point : ℕ) → point ≤ 63 → Means (class_tree chain header along at (kind.SetIPDSCP point) symbol) (stepped (kind.SetIPDSCP point))
    unfolding class_tree class_step
    dscp_agrees point low =
        subst (λ b. Means (leaves chain header along at (kind.SetIPDSCP point) (with_term symbol of.Dscp (const point)) 0) (option_and_then (goes_on chain picks at.0 (kind.SetIPDSCP point) along_run) (option_map (with_packet state) (if b then run_leaves (with_field p of.Dscp point) 0 else None))))
        (sym (let t : nat_le point 63 ≡ true = grind (arith, nat_tests) in t))
        (goes (kind.SetIPDSCP point) (with_term symbol of.Dscp (const point)) (with_field p of.Dscp point) 0
        (part_shade chain header first header_is arrives bytes picks symbol passed p shade ip code_point (const point) point refl (omega arith) (can_dscp chain header first header_is arrives bytes picks symbol passed p shade ip point low) (λ e. absurd (two_fields of.Dscp of.Ttl refl e))))

    store_shade : (address : ℕ) (which : End) → address ≤ 4294967295 → Shade header first (with_term symbol (address_of which) (const address)) passed (with_field p (address_of which) address)
    store_shade address end.Src low =
        part_shade chain header first header_is arrives bytes picks symbol passed p shade ip source (const address) address refl (omega arith) (can_source chain header first header_is arrives bytes picks symbol passed p shade ip address low) (λ e. absurd (two_fields of.Src of.Ttl refl e))
    store_shade address end.Dst low =
        part_shade chain header first header_is arrives bytes picks symbol passed p shade ip destination (const address) address refl (omega arith) (can_destination chain header first header_is arrives bytes picks symbol passed p shade ip address low) (λ e. absurd (two_fields of.Dst of.Ttl refl e))

    -- the two ends
    abbrev ends_once : Symbol
    ends_once = with_term symbol of.Src (term_at symbol of.Dst)

    ends_shade : Shade header first (addresses_swapped symbol) passed (swap_addresses p)
    ends_shade =
        part_shade chain header first header_is arrives bytes picks ends_once passed (with_field p of.Src (read p of.Dst))
        (part_shade chain header first header_is arrives bytes picks symbol passed p shade ip source (term_at symbol of.Dst) (read p of.Dst) (shadow.values of.Dst) (shadow.bounded of.Dst)
        (can_source chain header first header_is arrives bytes picks symbol passed p shade ip (read p of.Dst) (in_range p shadow.are_bytes of.Dst)) (λ e. absurd (two_fields of.Src of.Ttl refl e)))
        ip destination (term_at symbol of.Src) (read p of.Src) (shadow.values of.Src) (shadow.bounded of.Src)
        (can_destination chain header first header_is arrives bytes picks symbol passed p shade ip (read p of.Src) (in_range p shadow.are_bytes of.Src)) (λ e. absurd (two_fields of.Dst of.Ttl refl e))

    ports_shade : has_ports (datagram_of p) ≡ true → Shade header first (ports_swapped (addresses_swapped symbol)) passed (with_field (with_field (swap_addresses p) of.Sport (read p of.Dport)) of.Dport (read p of.Sport))
    ports_shade visible =
        part_shade chain header first header_is arrives bytes picks (with_term (addresses_swapped symbol) of.Sport (term_at (addresses_swapped symbol) of.Dport)) passed (with_field (swap_addresses p) of.Sport (read p of.Dport))
        (part_shade chain header first header_is arrives bytes picks (addresses_swapped symbol) passed (swap_addresses p) ends_shade ip source_port (term_at (addresses_swapped symbol) of.Dport) (read p of.Dport)
        (same_value of.Dport (two_fields of.Dport of.Dst refl) (two_fields of.Dport of.Src refl)) (ends_shade.shadow.bounded of.Dport)
        (can_sport chain header first header_is arrives bytes picks symbol passed p shade ip (read p of.Dport) visible (low_dport (datagram_of p) (datagram-bytes p shadow.are_bytes) visible)) (λ e. absurd (two_fields of.Sport of.Ttl refl e)))
        ip destination_port (term_at (addresses_swapped symbol) of.Sport) (read p of.Sport)
        (same_value of.Sport (two_fields of.Sport of.Dst refl) (two_fields of.Sport of.Src refl)) (ends_shade.shadow.bounded of.Sport)
        (can_dport chain header first header_is arrives bytes picks symbol passed p shade ip (read p of.Sport) visible (low_sport (datagram_of p) (datagram-bytes p shadow.are_bytes) visible)) (λ e. absurd (two_fields of.Dport of.Ttl refl e))
      where
        same_value : (field : Field) → field ≢ of.Dst → field ≢ of.Src → value_of (term_at (addresses_swapped symbol) field) header passed ≡ read p field
        same_value field not_dst not_src =
            ap (λ t. value_of t header passed) (term_beside ends_once of.Dst field (term_at symbol of.Src) not_dst ∙ term_beside symbol of.Src field (term_at symbol of.Dst) not_src) ∙ shadow.values field

    swap_agrees : Means (class_tree chain header along at kind.IPMirror symbol) (stepped kind.IPMirror)
    unfolding class_tree class_step
    swap_agrees =
        ports_agrees (rewriters_of chain) picks first header (under_of passed state) symbol p shadow.values known shadow.are_bytes _ _ _
        (λ e. subst (λ o. Means (leaves chain header along at kind.IPMirror (ports_swapped (addresses_swapped symbol)) 0) (option_and_then (goes_on chain picks at.0 kind.IPMirror along_run) (option_map (with_packet state) (run_leaves (swap_ports (swap_addresses p) o) 0)))) (sym (flow_there p e))
        (goes kind.IPMirror (ports_swapped (addresses_swapped symbol)) (with_field (with_field (swap_addresses p) of.Sport (read p of.Dport)) of.Dport (read p of.Sport)) 0 (ports_shade e)))
        (λ e. subst (λ o. Means (leaves chain header along at kind.IPMirror (addresses_swapped symbol) 0) (option_and_then (goes_on chain picks at.0 kind.IPMirror along_run) (option_map (with_packet state) (run_leaves (swap_ports (swap_addresses p) o) 0)))) (sym (flow_gone p e))
        (goes kind.IPMirror (addresses_swapped symbol) (swap_addresses p) 0 ends_shade))

    encap_agrees : (ether_type src dst : ℕ) → KindFits (kind.EtherEncap ether_type src dst) → Means (class_tree chain header along at (kind.EtherEncap ether_type src dst) symbol) (stepped (kind.EtherEncap ether_type src dst))
    unfolding class_tree class_step
    encap_agrees ether_type src dst fits =
        goes (kind.EtherEncap ether_type src dst) (encapsulated symbol ether_type src dst) (encap p ether_type src dst) 0
        (encapsulated_shade chain header first header_is arrives bytes picks symbol passed p shade ip ether_type src dst fits.0 fits.1 fits.2 fits.3)

  -- ---- choices

  paint_value : value_of (term_at symbol of.Paint) header [] ≡ p.paint
  paint_value = header_value header passed (term_at symbol of.Paint) (ap (λ n. n == 0) shade.painted) ∙ shadow.values of.Paint

  switch_agrees : Means (class_tree chain header along at kind.PaintSwitch symbol) (stepped kind.PaintSwitch)
  unfolding class_tree class_step
  switch_agrees =
      subst (λ n. Means (leaves chain header along at kind.PaintSwitch symbol n) (leave_answer chain header first picks at along along_run again kind.PaintSwitch state p.paint)) (sym paint_value)
      (goes kind.PaintSwitch symbol p p.paint shade)

  action_agrees : (own : Kind) (action : FilterAction) → Means (action_tree chain header along at own symbol action) (option_and_then (goes_on chain picks at.0 own along_run) (option_map (with_packet state) (by_action p action)))
  action_agrees own Deny = drops cause.Filtered
  action_agrees own (Out number) = goes own symbol p number shade

  hop_agrees : (own : Kind) (gateway : Option ℕ) (out : ℕ)
      → Means (leaves chain header along at own (with_gateway chain header along at symbol gateway) out) (option_and_then (goes_on chain picks at.0 own along_run) (option_map (with_packet state) (run_leaves (towards p gateway) out)))
  hop_agrees own None out = goes own symbol p out shade
  hop_agrees own (Some gateway) out =
      goes own (with_term symbol of.Annotation (const gateway)) (with_field p of.Annotation gateway) out
      (mark_shade chain header first header_is arrives bytes picks symbol passed p shade annotation (const gateway) gateway refl (omega arith) (λ _. refl))

  -- ---- the end

  leaf_means : (device : ℕ) → meaning_of (rewriters_of chain) picks first header (leaf (rewrite_of symbol) device) (under_of passed state)
      ≡ Some (Ok (record { fate = fate.Sent device (stamped_of (rewritten header passed (rewrite_of symbol) first)); tables = state.tables; picks = drop state.used picks }))
  unfolding meaning_of
  leaf_means device = refl

  leaf_serves : (device : ℕ) → CanRewrite header passed (rewrite_of symbol) first → CanServe (rewriters_of chain) picks first header (leaf (rewrite_of symbol) device) (under_of passed state)
  unfolding CanServe
  leaf_serves device can = (refl, refl, can)

  sent_agrees : has_ethernet symbol.layer ≡ true → (device : ℕ) → Means (class_tree chain header along at (kind.ToDevice device) symbol) (stepped (kind.ToDevice device))
  unfolding class_tree class_step
  sent_agrees there device =
      one_agrees (rewriters_of chain) picks first header (under_of passed state) (leaf (rewrite_of symbol) device) (stepped (kind.ToDevice device)) (
        leaf_means device
            ∙ ap (λ s. Some (Ok (record { fate = fate.Sent device s; tables = state.tables; picks = drop state.used picks })))
            (leaf_is header first symbol passed p arrives shadow there checked_first),
        good.range,
        leaf_serves device (leaf_can header first symbol passed p arrives shadow there checked_first),
      )
    where
      checked_first : symbol.trim ≡ true → IsValidIpv4 (datagram_of first)
      checked_first e = shade.valid (sym shadow.trim ∙ e)

  -- ---- all classes

  now_ip : is_ip symbol.layer ≡ true → symbol.layer ≡ Ip
  now_ip h = ip_is symbol.layer h

  pub class_agrees : (own : Kind) → is_rewriter own ≡ false → takes own symbol.layer ≡ true → KindFits own → ((point : ℕ) → own ≡ kind.SetIPDSCP point → point ≤ 63)
      → Means (class_tree chain header along at own symbol) (stepped own)
  unfolding class_tree class_step
  class_agrees (kind.FromDevice device) plain h fits low = goes (kind.FromDevice device) symbol p 0 shade
  class_agrees (kind.ToDevice device) plain h fits low = sent_agrees h device
  class_agrees kind.Discard plain h fits low = drops cause.Discarded
  class_agrees kind.Null plain h fits low = goes kind.Null symbol p 0 shade
  class_agrees kind.Counter plain h fits low = goes kind.Counter symbol p 0 shade
  class_agrees kind.Queue plain h fits low = goes kind.Queue symbol p 0 shade
  class_agrees (kind.Paint v) plain h fits low =
      goes (kind.Paint v) (with_term symbol of.Paint (const v)) (with_field p of.Paint v) 0
      (mark_shade chain header first header_is arrives bytes picks symbol passed p shade paint (const v) v refl (omega arith) (λ _. refl))
  class_agrees kind.PaintSwitch plain h fits low = switch_agrees
  class_agrees (kind.Classifier patterns) plain h fits low =
      classifier_agrees (rewriters_of chain) picks first header (under_of passed state) symbol p shadow.values known shadow.are_bytes chain along at (kind.Classifier patterns)
      (λ o. option_and_then (goes_on chain picks at.0 (kind.Classifier patterns) along_run) (option_map (with_packet state) (by_pattern p o)))
      (λ i. goes (kind.Classifier patterns) symbol p i shade) (drops cause.Classified) patterns
  class_agrees kind.EtherMirror plain h fits low = mirror_agrees h
  class_agrees kind.Strip plain h fits low = strip_agrees h
  class_agrees kind.CheckIPHeader plain h fits low = check_agrees symbol.layer refl h
  class_agrees (kind.EtherEncap ether_type src dst) plain h fits low = encap_agrees (now_ip h) ether_type src dst fits
  class_agrees kind.DecIPTTL plain h fits low = ttl_agrees (now_ip h)
  class_agrees (kind.SetIPDSCP point) plain h fits low = dscp_agrees (now_ip h) point (low point refl)
  class_agrees (kind.StoreIPAddress address which) plain h fits low =
      goes (kind.StoreIPAddress address which) (with_term symbol (address_of which) (const address)) (with_field p (address_of which) address) 0 (store_shade (now_ip h) address which fits)
  class_agrees kind.GetIPAddress plain h fits low =
      goes kind.GetIPAddress (annotated symbol) (with_field p of.Annotation (read p of.Dst)) 0
      (mark_shade chain header first header_is arrives bytes picks symbol passed p shade annotation (term_at symbol of.Dst) (read p of.Dst) (shadow.values of.Dst) (shadow.bounded of.Dst) (λ e. absurd (two_fields of.Annotation of.Paint refl e)))
  class_agrees kind.IPMirror plain h fits low = swap_agrees (now_ip h)
  class_agrees (kind.IPFilter rules) plain h fits low =
      filter_agrees (rewriters_of chain) picks first header (under_of passed state) symbol p shadow.values known shadow.are_bytes chain along at (kind.IPFilter rules)
      (λ action. option_and_then (goes_on chain picks at.0 (kind.IPFilter rules) along_run) (option_map (with_packet state) (by_action p action)))
      (action_agrees (kind.IPFilter rules)) rules
  class_agrees (kind.IPClassifier patterns) plain h fits low =
      ip_classifier_agrees (rewriters_of chain) picks first header (under_of passed state) symbol p shadow.values known shadow.are_bytes chain along at (kind.IPClassifier patterns)
      (λ o. option_and_then (goes_on chain picks at.0 (kind.IPClassifier patterns) along_run) (option_map (with_packet state) (by_ip_pattern p o)))
      (λ i. goes (kind.IPClassifier patterns) symbol p i shade) (drops cause.Filtered) patterns
  class_agrees (kind.Route hops) plain h fits low =
      route_agrees (rewriters_of chain) picks first header (under_of passed state) symbol p shadow.values known shadow.are_bytes chain along at (kind.Route hops)
      (λ o. option_and_then (goes_on chain picks at.0 (kind.Route hops) along_run) (option_map (with_packet state) (by_hop p o)))
      (λ hop. hop_agrees (kind.Route hops) hop.gateway hop.out) (drops cause.NoRoute) hops
  class_agrees (kind.IPRewriter specs) plain h fits low = absurd (false≢true (sym plain))
  class_agrees (kind.RoundRobinIPMapper templates) plain h fits low = absurd (false≢true h)
