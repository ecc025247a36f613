-- The tree of a frame's header means the run of the frame, and the frame can be served by it.
use Rattle.std.proofs.Common.{◌≡◌, ◌∙◌, sym, ap, subst, refl, ℕ, zero, suc, ◌≤◌, Bool, true, false, List, [], length, arith}
use Rattle.std.specs.Prelude.{Option, Some, None, if◌then◌else◌, slice_get, option_map, option_and_then}
use Rattle.std.proofs.lemmas.Bool.{false≢true}
use Rattle.std.proofs.lemmas.Option.{none-some}
use Rattle.mt_packet.specs.Header.{AreBytes, field_of}
use Rattle.mt_packet.specs.Packet.{PacketState, packet_header}
use Rattle.mt_packet.specs.declared.field.Field.{Field}
use Rattle.mt_packet.specs.declared.field.Field.TheVariants as of
use Rattle.mt_packet.specs.declared.flow.Flow.{Flow}
use Rattle.mt_packet.specs.declared.layer.Layer.TheVariants.{Frame}
use Rattle.mt_kinds.specs.Layers.{takes, is_ip}
use Rattle.mt_kinds.specs.Ports.{is_rewriter, LeadsWithin}
use Rattle.mt_kinds.specs.declared.kind.Kind.{Kind}
use Rattle.mt_kinds.specs.declared.kind.Kind.TheVariants as kind
use Rattle.mt_elements.specs.ChainState.{ChainState, IsKind, mappers_of, entry_of}
use Rattle.mt_elements.specs.Numbered.{IsNumbered}
use Rattle.mt_elements.specs.Ranges.{IsInRange}
use Rattle.mt_rewriter.specs.Kept.{DecisionsKeep, PassagesLead}
use Rattle.mt_rewriter.specs.Mappings.{TablesState}
use Rattle.mt_chain.specs.Run.{State, Run, Answer, goes_on, element_step, rewriter_step, at_element, with_packet, run_from, run_answer}
use Rattle.mt_chain.specs.Step.{stateless_step, class_step}
use Rattle.mt_kinds.specs.declared.rewriter.Spec.{Spec}
use Rattle.mt_terms.specs.Trees.{TreeForm}
use Rattle.mt_terms.specs.Terms.{value_of, passages_of}
use Rattle.mt_trees.proofs.Classes.{class_agrees}
use Rattle.mt_trees.proofs.Leaving.{Shade, IsGood, under_of, Agree}
use Rattle.mt_trees.proofs.Rewriters.{rewriter_agrees}
use Rattle.mt_trees.proofs.Shadow.{is_data, of_front}
use Rattle.mt_trees.proofs.Steps.{ip_is}
use Rattle.mt_trees.proofs.Tested.{Fine, IsMeant, none_agrees}
use Rattle.mt_trees.specs.Elements.{class_tree, element_tree, tree_from, tree_of, is_own}
use Rattle.mt_trees.specs.Meaning.{rewriters_of, first_under}
use Rattle.mt_trees.specs.Symbols.{Symbol, term_at, first_symbol}
use Rattle.mt_trees.specs.Tests.{Found}

-- ---- as the frame arrives

module _ (header : List ℕ) (first : PacketState) (header_is : header ≡ packet_header first) (arrives : first.layer ≡ Frame) (bytes : AreBytes first.bytes) (unpainted : first.paint ≡ 0) (plain : first.annotation ≡ 0) where
  first_values : (field : Field) → value_of (term_at first_symbol field) header [] ≡ field_of (packet_header first) field
  first_values of.Device = ap (λ h. field_of h of.Device) header_is
  first_values of.EthType = ap (λ h. field_of h of.EthType) header_is
  first_values of.EthDst = ap (λ h. field_of h of.EthDst) header_is
  first_values of.EthSrc = ap (λ h. field_of h of.EthSrc) header_is
  first_values of.ArpOp = ap (λ h. field_of h of.ArpOp) header_is
  first_values of.Proto = ap (λ h. field_of h of.Proto) header_is
  first_values of.Src = ap (λ h. field_of h of.Src) header_is
  first_values of.Dst = ap (λ h. field_of h of.Dst) header_is
  first_values of.Dscp = ap (λ h. field_of h of.Dscp) header_is
  first_values of.Ecn = ap (λ h. field_of h of.Ecn) header_is
  first_values of.Sport = ap (λ h. field_of h of.Sport) header_is
  first_values of.Dport = ap (λ h. field_of h of.Dport) header_is
  first_values of.IcmpType = ap (λ h. field_of h of.IcmpType) header_is
  first_values of.IpOk = ap (λ h. field_of h of.IpOk) header_is
  first_values of.Ports = ap (λ h. field_of h of.Ports) header_is
  first_values of.Mf = ap (λ h. field_of h of.Mf) header_is
  first_values of.FragOff = ap (λ h. field_of h of.FragOff) header_is
  first_values of.Ttl = ap (λ h. field_of h of.Ttl) header_is
  first_values of.Syn = ap (λ h. field_of h of.Syn) header_is
  first_values of.Ack = ap (λ h. field_of h of.Ack) header_is
  first_values of.Fin = ap (λ h. field_of h of.Fin) header_is
  first_values of.Rst = ap (λ h. field_of h of.Rst) header_is
  first_values of.Paint = sym unpainted
  first_values of.Annotation = sym plain

  first_bounded : (field : Field) → passages_of (term_at first_symbol field) ≤ 0
  first_bounded of.Device = omega arith
  first_bounded of.EthType = omega arith
  first_bounded of.EthDst = omega arith
  first_bounded of.EthSrc = omega arith
  first_bounded of.ArpOp = omega arith
  first_bounded of.Proto = omega arith
  first_bounded of.Src = omega arith
  first_bounded of.Dst = omega arith
  first_bounded of.Dscp = omega arith
  first_bounded of.Ecn = omega arith
  first_bounded of.Sport = omega arith
  first_bounded of.Dport = omega arith
  first_bounded of.IcmpType = omega arith
  first_bounded of.IpOk = omega arith
  first_bounded of.Ports = omega arith
  first_bounded of.Mf = omega arith
  first_bounded of.FragOff = omega arith
  first_bounded of.Ttl = omega arith
  first_bounded of.Syn = omega arith
  first_bounded of.Ack = omega arith
  first_bounded of.Fin = omega arith
  first_bounded of.Rst = omega arith
  first_bounded of.Paint = omega arith
  first_bounded of.Annotation = omega arith

  first_own : (field : Field) → is_data field ≡ true → is_own field (term_at first_symbol field) ≡ true
  first_own of.Src e = refl
  first_own of.Dst e = refl
  first_own of.Dscp e = refl
  first_own of.Sport e = refl
  first_own of.Dport e = refl
  first_own of.Ttl e = refl
  first_own field e = absurd (false≢true e)

  no_front : (field : Field) → of_front header first first_symbol [] field ≡ None
  no_front of.EthType = refl
  no_front of.EthDst = refl
  no_front of.EthSrc = refl
  no_front field = refl

  first_shade : Shade header first first_symbol [] first
  first_shade = record {
    shadow = record {
      long = refl;
      counted = refl;
      bounded = first_bounded;
      values = first_values;
      layer = arrives;
      came = record { stamp = refl; device = refl; number = refl };
      are_bytes = bytes;
      protocol = refl;
      trim = refl;
      checked = λ h. absurd (false≢true h);
      unchecked = λ _. record { own = first_own; same = refl };
      front = λ _. record { may = λ field v e. absurd (none-some v (sym (no_front field) ∙ e)); same = refl };
    };
    valid = λ h. absurd (false≢true h);
    painted = refl;
    lowered = refl;
  }

-- ---- all elements

module _ (chain : ChainState) (ranges : IsInRange chain) (numbered : IsNumbered chain) (keep : DecisionsKeep) (lead_law : PassagesLead) (within_law : LeadsWithin)
    (header : List ℕ) (first : PacketState) (header_is : header ≡ packet_header first) (arrives : first.layer ≡ Frame) (bytes : AreBytes first.bytes) (picks : List ℕ) where
  abbrev Goes : ℕ → Type 0
  Goes most =
      (at : ℕ × ℕ) (symbol : Symbol) (passed : List Flow) (state : State) → Shade header first symbol passed state.packet → IsGood chain state.tables
      → Agree chain header first picks passed state (tree_from most chain header at symbol) (run_from most chain picks at state)

  module _ (most : ℕ) (again : Goes most) (at : ℕ × ℕ) (symbol : Symbol) (passed : List Flow) (state : State) (shade : Shade header first symbol passed state.packet) (good : IsGood chain state.tables) where
    abbrev Means : Found → Answer Run → Type 0
    Means found answer = Agree chain header first picks passed state found answer

    plain_agrees : (own : Kind) → IsKind chain at.0 own → is_rewriter own ≡ false → (b : Bool) → takes own symbol.layer ≡ b
        → Means (if b then class_tree chain header (tree_from most chain header) at own symbol else None)
        (option_and_then (goes_on chain picks at.0 own (run_from most chain picks)) (option_map (with_packet state) (if b then class_step own state.packet else None)))
    plain_agrees own stands plain true took =
        class_agrees chain header first header_is arrives bytes picks at (tree_from most chain header) (run_from most chain picks) again symbol passed state shade good own plain took (ranges.kinds at.0 own stands)
        (λ point same. numbered.points at.0 point (stands ∙ ap Some same))
    plain_agrees own stands plain false took = none_agrees (rewriters_of chain) picks first header (under_of passed state) None

    taken : (own : Kind) → takes own state.packet.layer ≡ takes own symbol.layer
    taken own = ap (takes own) shade.shadow.layer

    stateless_agrees : (own : Kind) → IsKind chain at.0 own → is_rewriter own ≡ false
        → Means (element_tree chain header (tree_from most chain header) at symbol own) (option_and_then (goes_on chain picks at.0 own (run_from most chain picks)) (option_map (with_packet state) (stateless_step own state.packet)))
    unfolding stateless_step
    stateless_agrees own stands plain =
        subst (λ b. Means (element_tree chain header (tree_from most chain header) at symbol own) (option_and_then (goes_on chain picks at.0 own (run_from most chain picks)) (option_map (with_packet state) (if b then class_step own state.packet else None))))
        (sym (taken own)) (plain_agrees own stands plain (takes own symbol.layer) refl)

    rewriter_at : (specs : List Spec) → IsKind chain at.0 (kind.IPRewriter specs) → (b : Bool) → is_ip symbol.layer ≡ b
        → Means (if b then class_tree chain header (tree_from most chain header) at (kind.IPRewriter specs) symbol else None)
        (option_and_then (goes_on chain picks at.0 (kind.IPRewriter specs) (run_from most chain picks)) (rewriter_step (mappers_of chain.kinds) chain.pools picks at specs state))
    unfolding class_tree
    rewriter_at specs stands true ip =
        rewriter_agrees chain header first header_is arrives bytes picks at (tree_from most chain header) (run_from most chain picks) again symbol passed state shade good ranges keep lead_law within_law (ip_is symbol.layer ip) specs stands
    rewriter_at specs stands false ip = none_agrees (rewriters_of chain) picks first header (under_of passed state) _

    element_agrees : (own : Kind) → IsKind chain at.0 own
        → Means (element_tree chain header (tree_from most chain header) at symbol own) (option_and_then (goes_on chain picks at.0 own (run_from most chain picks)) (element_step (mappers_of chain.kinds) chain.pools picks at own state))
    element_agrees (kind.IPRewriter specs) stands = rewriter_at specs stands (is_ip symbol.layer) refl
    element_agrees own stands = stateless_agrees own stands refl

    found_agrees : (found : Option Kind) → slice_get chain.kinds at.0 ≡ found
        → Means (option_and_then (element_tree chain header (tree_from most chain header) at symbol) found) (option_and_then (at_element chain picks at state (run_from most chain picks)) found)
    found_agrees None is = none_agrees (rewriters_of chain) picks first header (under_of passed state) None
    found_agrees (Some own) is = element_agrees own is

  from_agrees : (most : ℕ) → Goes most
  unfolding tree_from run_from
  from_agrees zero at symbol passed state shade good = none_agrees (rewriters_of chain) picks first header (under_of passed state) None
  from_agrees (suc most) at symbol passed state shade good = found_agrees most (from_agrees most) at symbol passed state shade good (slice_get chain.kinds at.0) refl

  -- ---- the law

  module _ (unpainted : first.paint ≡ 0) (plain : first.annotation ≡ 0) (tables : TablesState) (good : IsGood chain tables) where
    abbrev start : State
    start = record { packet = first; tables = tables; used = 0 }

    entered : (found : Option ℕ)
        → Agree chain header first picks [] start (option_and_then (λ element. tree_from (suc (length chain.wires)) chain header (element, 0) first_symbol) found)
        (option_and_then (λ element. run_from (suc (length chain.wires)) chain picks (element, 0) start) found)
    entered None = none_agrees (rewriters_of chain) picks first header (under_of [] start) None
    entered (Some element) = from_agrees (suc (length chain.wires)) (element, 0) first_symbol [] start (first_shade header first header_is arrives bytes unpainted plain) good

    arrives_at : option_and_then (λ element. run_from (suc (length chain.wires)) chain picks (element, 0) start) (entry_of chain (field_of header of.Device))
        ≡ option_and_then (λ element. run_from (suc (length chain.wires)) chain picks (element, 0) start) (entry_of chain first.device)
    arrives_at = ap (λ h. option_and_then (λ element. run_from (suc (length chain.wires)) chain picks (element, 0) start) (entry_of chain (field_of h of.Device))) header_is

    pub tree_means : (tree : TreeForm) → tree_of chain header ≡ Some tree
        → IsMeant (rewriters_of chain) picks first header (first_under tables) tree (run_answer chain tables first picks)
    unfolding tree_of run_answer
    tree_means tree is =
        let meant = entered (entry_of chain (field_of header of.Device)) tree is in
        (meant.0 ∙ arrives_at, subst Fine arrives_at meant.1, meant.2)
