-- The tree of a rewriter means its step, where what follows means what follows.
use Rattle.std.proofs.Common.{◌≡◌, ◌≢◌, ◌∙◌, sym, ap, subst, refl, ℕ, ◌≤◌, Bool, true, List, [], ◌∷◌, ◌++◌, map, length, arith}
use Rattle.std.specs.Prelude.{Option, Some, None, Result, Ok, Err, if◌then◌else◌, slice_get, option_map, option_and_then}
use Rattle.std.proofs.lemmas.Option.{slice_get-map}
use Rattle.mt_lists.specs.Options.{each}
use Rattle.mt_packet.proofs.Settled.{same-write-keeps, written-sums-settle, datagram-bytes}
use Rattle.mt_packet.specs.Header.{AreBytes, field_of}
use Rattle.mt_packet.specs.Ipv4.{IsValidIpv4, has_ports}
use Rattle.mt_packet.specs.Packet.{PacketState, datagram_of, packet_header, with_field, CanWrite, HasWrittenSums}
use Rattle.mt_packet.specs.declared.cause.Cause.TheVariants as cause
use Rattle.mt_packet.specs.declared.field.Field.{Field}
use Rattle.mt_packet.specs.declared.field.Field.TheVariants as of
use Rattle.mt_packet.specs.declared.flow.Flow.{Flow}
use Rattle.mt_packet.specs.declared.layer.Layer.TheVariants.{Frame, Ip}
use Rattle.mt_kinds.specs.Layers.{is_ip}
use Rattle.mt_kinds.specs.Ports.{leads, rewriter_outs, LeadsWithin}
use Rattle.mt_kinds.specs.declared.kind.Kind.{Kind}
use Rattle.mt_kinds.specs.declared.kind.Kind.TheVariants as kind
use Rattle.mt_kinds.specs.declared.rewriter.Spec.{Spec}
use Rattle.mt_kinds.specs.declared.rewriter.Spec.TheVariants as spec
use Rattle.mt_elements.specs.ChainState.{ChainState, IsKind, mappers_of, specs_in}
use Rattle.mt_elements.specs.Ranges.{IsInRange}
use Rattle.mt_rewriter.specs.Kept.{DecisionsKeep, PassageLeads, PassagesLead}
use Rattle.mt_rewriter.specs.Passages.{decide_for, remembered, settled, unported}
use Rattle.mt_rewriter.specs.declared.passage.Decision.{Decision}
use Rattle.mt_rewriter.specs.declared.passage.Passage.{Passage}
use Rattle.mt_rewriter.specs.declared.passage.Passage.TheVariants as passage
use Rattle.mt_chain.specs.Classifier.{value_of as read}
use Rattle.mt_chain.specs.Rewriting.{with_flow, annotated as annotate, passed as passed_on}
use Rattle.mt_chain.specs.Run.{State, Run, Answer, goes_on, with_passage, by_decision as run_by_decision, at_input as run_at_input, rewriter_step}
use Rattle.mt_terms.specs.Terms.{value_of, passages_of, part_of}
use Rattle.mt_terms.specs.Trees.{TreeForm, branches_of}
use Rattle.mt_terms.specs.Trees.{passage as op}
use Rattle.mt_terms.specs.declared.term.Part.{Part}
use Rattle.mt_terms.specs.declared.term.Part.TheVariants.{Sa, Sp, Da, Dp}
use Rattle.mt_trees.proofs.Branches.{kept_within, branch_of}
use Rattle.mt_trees.proofs.Chosen.{ports_agrees}
use Rattle.mt_trees.proofs.Flows.{parts_kept, fits_after, stays_in_range}
use Rattle.mt_trees.proofs.Grounds.{ground_sums, ground_whole, ground_data}
use Rattle.mt_trees.proofs.Leaving.{Shade, is_lowered, IsGood, under_of, Agree, are_known, drop_agrees, leave_answer, leaves_agree}
use Rattle.mt_trees.proofs.Moves.{annotation}
use Rattle.mt_trees.proofs.Passing.{behind_beside, behind_shadow}
use Rattle.mt_trees.proofs.Shadow.{is_checked_layer, IsShadow, own_value, term_beside}
use Rattle.mt_trees.proofs.Steps.{in_range, low_sport, low_dport, flow_there, flow_gone, mark_shade, sums_here, ports_here}
use Rattle.mt_trees.proofs.Tested.{Fine, IsMeant, none_agrees, one_agrees}
use Rattle.mt_trees.proofs.Writes.{two_fields}
use Rattle.mt_trees.specs.Elements.{Along, leaves, passed_tree, passage_tree, rewriter_tree}
use Rattle.mt_trees.specs.Meaning.{Under, meaning_of, meaning_among, rewriters_of, flow_at, by_passage as meant_by_passage, by_decision, at_input, CanArrive, ServesPassage, ServesDecision, ServesInput, ServesElement, CanServe, CanServeAmong}
use Rattle.mt_trees.specs.Passages.{keeps_part, field_of_part, part_behind, one_more, behind, code_of, outputs_taken}
use Rattle.mt_trees.specs.Ranges.{FlowFits}
use Rattle.mt_trees.specs.Symbols.{Symbol, term_at, annotated}
use Rattle.mt_trees.specs.Tests.{Found}

-- a term that no part changes
left_behind : (keeps : Part → Bool) (symbol : Symbol) (field : Field) → field ≢ of.Annotation → field ≢ of.Src → field ≢ of.Sport → field ≢ of.Dst → field ≢ of.Dport → term_at (behind keeps symbol) field ≡ term_at symbol field
left_behind keeps symbol field a b c d e =
    let k = symbol.passages in
    let s1 = part_behind k (keeps Sa) Sa (one_more symbol) in
    let s2 = part_behind k (keeps Sp) Sp s1 in
    let s3 = part_behind k (keeps Da) Da s2 in
    let s4 = part_behind k (keeps Dp) Dp s3 in
    term_beside s4 of.Annotation field (term_at s4 of.Dst) a
    ∙ behind_beside k (keeps Dp) Dp s3 field e
    ∙ behind_beside k (keeps Da) Da s2 field d
    ∙ behind_beside k (keeps Sp) Sp s1 field c
    ∙ behind_beside k (keeps Sa) Sa (one_more symbol) field b

module _ (chain : ChainState) (header : List ℕ) (first : PacketState) (header_is : header ≡ packet_header first) (arrives : first.layer ≡ Frame) (bytes : AreBytes first.bytes) (picks : List ℕ)
    (at : ℕ × ℕ) (along : Along) (along_run : ℕ × ℕ → State → Answer Run)
    (again : (next : ℕ × ℕ) (symbol : Symbol) (passed : List Flow) (state : State) → Shade header first symbol passed state.packet → IsGood chain state.tables → Agree chain header first picks passed state (along next symbol) (along_run next state))
    (symbol : Symbol) (passed : List Flow) (state : State) (shade : Shade header first symbol passed state.packet) (good : IsGood chain state.tables)
    (ranges : IsInRange chain) (keep : DecisionsKeep) (lead_law : PassagesLead) (within_law : LeadsWithin) (ip : symbol.layer ≡ Ip) (specs : List Spec) (stands : IsKind chain at.0 (kind.IPRewriter specs)) where
  abbrev p : PacketState
  p = state.packet

  abbrev own : Kind
  own = kind.IPRewriter specs

  shadow : IsShadow header first symbol passed p
  shadow = shade.shadow

  abbrev Means : Found → Answer Run → Type 0
  Means found answer = Agree chain header first picks passed state found answer

  known : (field : Field) → passages_of (term_at symbol field) ≤ length passed
  known = are_known header first symbol passed p shade

  valid : IsValidIpv4 (datagram_of first)
  valid = shade.valid (ap is_checked_layer ip)

  -- what comes of a decision
  abbrev decided : Result Decision ℕ → Answer Run
  decided result = option_and_then (goes_on chain picks at.0 own along_run) (run_by_decision state result)

  -- ---- without visible ports

  hidden_agrees : (s : Spec) → Means (passed_tree chain header along at own symbol (unported s)) (decided (Ok (settled state.used (unported s))))
  hidden_agrees spec.Drop = drop_agrees chain header first picks passed state cause.Unported good.range
  hidden_agrees (spec.Pass out) =
      leaves_agree chain header first picks at along along_run again own (annotated symbol) passed (record state { packet = annotate p }) out
      (mark_shade chain header first header_is arrives bytes picks symbol passed p shade annotation (term_at symbol of.Dst) (read p of.Dst) (shadow.values of.Dst) (shadow.bounded of.Dst) (λ e. absurd (two_fields of.Annotation of.Paint refl e))) good
  hidden_agrees (spec.Keep fout rout) = drop_agrees chain header first picks passed state cause.Unported good.range
  hidden_agrees (spec.Pattern template) = drop_agrees chain header first picks passed state cause.Unported good.range
  hidden_agrees (spec.Mapper number) = drop_agrees chain header first picks passed state cause.Unported good.range

  -- ---- with a flow

  abbrev flow : Flow
  flow = record { proto = read p of.Proto; sa = read p of.Src; sp = read p of.Sport; da = read p of.Dst; dp = read p of.Dport }

  same_protocol : field_of header of.Proto ≡ read p of.Proto
  same_protocol = sym (own_value header passed of.Proto (term_at symbol of.Proto) shadow.protocol) ∙ shadow.values of.Proto

  same_flow : flow_at (rewriters_of chain) picks first header (code_of at symbol) (under_of passed state) ≡ flow
  same_flow =
      let proto = same_protocol in
      let sa = shadow.values of.Src in
      let sp = shadow.values of.Sport in
      let da = shadow.values of.Dst in
      let dp = shadow.values of.Dport in
      λ i. record { proto = proto i; sa = sa i; sp = sp i; da = da i; dp = dp i }

  module _ (visible : has_ports (datagram_of p) ≡ true) (s : Spec) (spec_is : slice_get specs at.1 ≡ Some s) where
    abbrev keeps : Part → Bool
    keeps part = keeps_part (mappers_of chain.kinds) specs s part

    flow_fits : FlowFits flow
    flow_fits = record {
      sa = in_range p shadow.are_bytes of.Src;
      sp = low_sport (datagram_of p) (datagram-bytes p shadow.are_bytes) visible;
      da = in_range p shadow.are_bytes of.Dst;
      dp = low_dport (datagram_of p) (datagram-bytes p shadow.are_bytes) visible;
    }

    can_arrive : CanArrive (rewriters_of chain) picks first header (code_of at symbol) (under_of passed state)
    can_arrive = record {
      sa = known of.Src;
      sp = known of.Sport;
      da = known of.Dst;
      dp = known of.Dport;
      protocol = subst (λ n. n ≤ 255) (sym same_protocol) (in_range p shadow.are_bytes of.Proto);
      fits = subst FlowFits (sym same_flow) flow_fits;
    }

    flow_value : (part : Part) → part_of part flow ≡ value_of (term_at symbol (field_of_part part)) header passed
    flow_value Sa = sym (shadow.values of.Src)
    flow_value Sp = sym (shadow.values of.Sport)
    flow_value Da = sym (shadow.values of.Dst)
    flow_value Dp = sym (shadow.values of.Dport)

    -- behind a passage with that flow after it
    behind_shade : (next : Flow) → FlowFits next → ((part : Part) → keeps part ≡ true → part_of part next ≡ part_of part flow)
        → Shade header first (behind keeps symbol) (passed ++ next ∷ []) (annotate (with_flow p next))
    behind_shade next fits same = record {
      shadow =
          behind_shadow header first (ground_sums header first header_is arrives bytes valid) (ground_data header first header_is arrives bytes valid) (ground_whole header first header_is arrives bytes valid)
          (ports_here chain header first header_is arrives bytes picks symbol passed p shade ip visible) keeps passed next fits symbol.passages shadow.counted symbol p shadow ip refl
          (λ part e. same part e ∙ flow_value part);
      valid = λ _. valid;
      painted = ap passages_of (left_behind keeps symbol of.Paint (two_fields of.Paint of.Annotation refl) (two_fields of.Paint of.Src refl) (two_fields of.Paint of.Sport refl) (two_fields of.Paint of.Dst refl) (two_fields of.Paint of.Dport refl)) ∙ shade.painted;
      lowered = ap is_lowered (left_behind keeps symbol of.Ttl (two_fields of.Ttl of.Annotation refl) (two_fields of.Ttl of.Src refl) (two_fields of.Ttl of.Sport refl) (two_fields of.Ttl of.Dst refl) (two_fields of.Ttl of.Dport refl)) ∙ shade.lowered;
    }

    -- a packet that gets the flow that it has stays as it is
    sums : HasWrittenSums p
    sums = sums_here chain header first header_is arrives bytes picks symbol passed p shade ip

    same_write : (field : Field) → CanWrite p field (read p field) → with_field p field (read p field) ≡ p
    same_write field can = (same-write-keeps p field shadow.are_bytes can).1 (written-sums-settle p field sums)

    same_packet : with_flow p flow ≡ p
    same_packet =
        ap (λ q. with_field (with_field (with_field q of.Sport flow.sp) of.Dst flow.da) of.Dport flow.dp) (same_write of.Src (sums.is_checked, flow_fits.sa))
        ∙ ap (λ q. with_field (with_field q of.Dst flow.da) of.Dport flow.dp) (same_write of.Sport (record { is_checked = sums.is_checked; are_visible = visible }, flow_fits.sp))
        ∙ ap (λ q. with_field q of.Dport flow.dp) (same_write of.Dst (sums.is_checked, flow_fits.da))
        ∙ same_write of.Dport (record { is_checked = sums.is_checked; are_visible = visible }, flow_fits.dp)

    -- ---- the branch of an output

    abbrev tree_at : ℕ → Found
    tree_at out = leaves chain header along at own (behind keeps symbol) out

    module _ (branches : List (ℕ × TreeForm)) (read_all : each (λ out. option_map (λ tree. (out, tree)) (tree_at out)) (outputs_taken (mappers_of chain.kinds) specs at.1) ≡ Some branches)
        (decision : Decision) (told : decide_for (mappers_of chain.kinds) chain.pools picks state.tables at.0 at.1 state.used s (Some flow) ≡ Ok decision) where
      abbrev after : PacketState → State
      after q = record { packet = q; tables = remembered decision state.tables; used = decision.used }

      good_after : IsGood chain (remembered decision state.tables)
      good_after = record {
        kept = keep chain at.0 at.1 specs s stands spec_is state.tables picks state.used (Some flow) decision good.kept told;
        range = stays_in_range chain at.0 at.1 specs s stands spec_is state.tables picks state.used flow decision good.kept told ranges good.range flow_fits;
      }

      abbrev among : ℕ → Under → Answer Run
      among = meaning_among (rewriters_of chain) picks first header (branches_of branches)

      abbrev Serves : ℕ → Under → Type 0
      Serves = CanServeAmong (rewriters_of chain) picks first header (branches_of branches)

      out_agrees : (out : ℕ) (next : Flow) (q : PacketState) → leads (mappers_of chain.kinds) own at.1 out ≡ true → Shade header first (behind keeps symbol) (passed ++ next ∷ []) q
          → (among out (under_of (passed ++ next ∷ []) (after q)) ≡ leave_answer chain header first picks at along along_run again own (after q) out)
          × Fine (leave_answer chain header first picks at along along_run again own (after q) out) × Serves out (under_of (passed ++ next ∷ []) (after q))
      out_agrees out next q lead shade' =
          let below = within_law (mappers_of chain.kinds) specs at.1 out 0 lead in
          let there = kept_within (leads (mappers_of chain.kinds) own at.1) out 0 (rewriter_outs (mappers_of chain.kinds) specs) lead (omega arith) (omega (arith, below)) in
          let found = branch_of (rewriters_of chain) picks first header tree_at out (outputs_taken (mappers_of chain.kinds) specs at.1) branches read_all there in
          let goes = leaves_agree chain header first picks at along along_run again own (behind keeps symbol) (passed ++ next ∷ []) (after q) out shade' good_after found.tree found.found in
          (found.means (under_of (passed ++ next ∷ []) (after q)) ∙ goes.0, goes.1, found.serves (under_of (passed ++ next ∷ []) (after q)) goes.2)

      by_passage : (made : Passage) → decision.passage ≡ made → PassageLeads (leads (mappers_of chain.kinds) own at.1) made
          → (meant_by_passage (rewriters_of chain) picks first header among (under_of passed state) flow decision made
          ≡ option_and_then (goes_on chain picks at.0 own along_run) (Some (Ok (with_passage state decision (passed_on made p)))))
          × Fine (option_and_then (goes_on chain picks at.0 own along_run) (Some (Ok (with_passage state decision (passed_on made p)))))
          × ServesPassage (rewriters_of chain) picks first header Serves (under_of passed state) flow decision made
      by_passage (passage.Rewritten meeting) is lead =
          out_agrees meeting.output meeting.after (annotate (with_flow p meeting.after)) lead
          (behind_shade meeting.after (fits_after chain at.0 at.1 specs s stands spec_is state.tables picks state.used flow decision good.kept told ranges good.range flow_fits meeting is)
          (parts_kept chain at.0 at.1 specs s stands spec_is state.tables picks state.used flow decision good.kept told meeting is))
      by_passage (passage.Passed out) is lead =
          out_agrees out flow (annotate p) lead (subst (λ q. Shade header first (behind keeps symbol) (passed ++ flow ∷ []) (annotate q)) same_packet (behind_shade flow flow_fits (λ part e. refl)))
      by_passage (passage.Dropped why) is lead = (refl, good_after.range, tt)

    -- ---- the passage

    passage_means : (branches : List (ℕ × TreeForm)) → each (λ out. option_map (λ tree. (out, tree)) (tree_at out)) (outputs_taken (mappers_of chain.kinds) specs at.1) ≡ Some branches → (result : Result Decision ℕ)
        → decide_for (mappers_of chain.kinds) chain.pools picks state.tables at.0 at.1 state.used s (Some flow) ≡ result
        → (by_decision (rewriters_of chain) picks first header (meaning_among (rewriters_of chain) picks first header (branches_of branches)) (under_of passed state) flow result ≡ decided result) × Fine (decided result)
        × ServesDecision (rewriters_of chain) picks first header (CanServeAmong (rewriters_of chain) picks first header (branches_of branches)) (under_of passed state) flow result
    passage_means branches read_all (Ok decision) told =
        by_passage branches read_all decision told decision.passage refl (lead_law chain at.0 at.1 specs s stands spec_is state.tables picks state.used (Some flow) decision good.kept told)
    passage_means branches read_all (Err place) told = (refl, tt, tt)

    abbrev meant_at : (List (ℕ × TreeForm)) → Option Spec → Answer Run
    meant_at branches found = at_input (rewriters_of chain) picks first header (meaning_among (rewriters_of chain) picks first header (branches_of branches)) (code_of at symbol) (under_of passed state) found

    specs_stand : slice_get (map specs_in chain.kinds) at.0 ≡ Some specs
    specs_stand = slice_get-map specs_in chain.kinds at.0 ∙ ap (option_map specs_in) stands

    abbrev Served : List (ℕ × TreeForm) → ℕ → Under → Type 0
    Served branches = CanServeAmong (rewriters_of chain) picks first header (branches_of branches)

    op_means : (branches : List (ℕ × TreeForm)) → each (λ out. option_map (λ tree. (out, tree)) (tree_at out)) (outputs_taken (mappers_of chain.kinds) specs at.1) ≡ Some branches
        → IsMeant (rewriters_of chain) picks first header (under_of passed state) (op (code_of at symbol) (branches_of branches))
        (decided (decide_for (mappers_of chain.kinds) chain.pools picks state.tables at.0 at.1 state.used s (Some flow)))
    unfolding meaning_of CanServe
    op_means branches read_all =
        let meant = passage_means branches read_all (decide_for (mappers_of chain.kinds) chain.pools picks state.tables at.0 at.1 state.used s (Some flow)) refl in (
          ap (option_and_then (λ (found : List Spec). meant_at branches (slice_get found at.1))) specs_stand
              ∙ ap (meant_at branches) spec_is
              ∙ ap (λ f. by_decision (rewriters_of chain) picks first header (meaning_among (rewriters_of chain) picks first header (branches_of branches)) (under_of passed state) f
              (decide_for (mappers_of chain.kinds) chain.pools picks state.tables at.0 at.1 state.used s (Some f))) same_flow
              ∙ meant.0,
          meant.1,
          (
            can_arrive,
            subst (ServesElement (rewriters_of chain) picks first header (Served branches) (code_of at symbol) (under_of passed state)) (sym specs_stand)
                (subst (ServesInput (rewriters_of chain) picks first header (Served branches) (code_of at symbol) (under_of passed state)) (sym spec_is)
                (subst (λ f. ServesDecision (rewriters_of chain) picks first header (Served branches) (under_of passed state) f
                (decide_for (mappers_of chain.kinds) chain.pools picks state.tables at.0 at.1 state.used s (Some f))) (sym same_flow) meant.2)),
          ),
        )

    passage_agrees : Means (passage_tree chain header along at own symbol specs s) (decided (decide_for (mappers_of chain.kinds) chain.pools picks state.tables at.0 at.1 state.used s (Some flow)))
    passage_agrees = either (each (λ out. option_map (λ tree. (out, tree)) (tree_at out)) (outputs_taken (mappers_of chain.kinds) specs at.1)) refl
      where
        either : (found : Option (List (ℕ × TreeForm))) → each (λ out. option_map (λ tree. (out, tree)) (tree_at out)) (outputs_taken (mappers_of chain.kinds) specs at.1) ≡ found
            → Means (option_map (λ branches. op (code_of at symbol) (branches_of branches)) found) (decided (decide_for (mappers_of chain.kinds) chain.pools picks state.tables at.0 at.1 state.used s (Some flow)))
        either None e = none_agrees (rewriters_of chain) picks first header (under_of passed state) _
        either (Some branches) e =
            one_agrees (rewriters_of chain) picks first header (under_of passed state) (op (code_of at symbol) (branches_of branches))
            (decided (decide_for (mappers_of chain.kinds) chain.pools picks state.tables at.0 at.1 state.used s (Some flow))) (op_means branches e)

  -- ---- the step

  at_spec : (found : Option Spec) → slice_get specs at.1 ≡ found
      → Means (rewriter_tree chain header along at own symbol specs found) (option_and_then (goes_on chain picks at.0 own along_run) (run_at_input (mappers_of chain.kinds) chain.pools picks at state found))
  at_spec None is = none_agrees (rewriters_of chain) picks first header (under_of passed state) None
  at_spec (Some s) is =
      ports_agrees (rewriters_of chain) picks first header (under_of passed state) symbol p shadow.values known shadow.are_bytes _ _ _
      (λ e. subst (λ o. Means (passage_tree chain header along at own symbol specs s) (decided (decide_for (mappers_of chain.kinds) chain.pools picks state.tables at.0 at.1 state.used s o))) (sym (flow_there p e)) (passage_agrees e s is))
      (λ e. subst (λ o. Means (passed_tree chain header along at own symbol (unported s)) (decided (decide_for (mappers_of chain.kinds) chain.pools picks state.tables at.0 at.1 state.used s o))) (sym (flow_gone p e)) (hidden_agrees s))

  pub rewriter_agrees : Means (rewriter_tree chain header along at own symbol specs (slice_get specs at.1)) (option_and_then (goes_on chain picks at.0 own along_run) (rewriter_step (mappers_of chain.kinds) chain.pools picks at specs state))
  unfolding rewriter_step
  rewriter_agrees =
      subst (λ b. Means (rewriter_tree chain header along at own symbol specs (slice_get specs at.1)) (option_and_then (goes_on chain picks at.0 own along_run) (if b then run_at_input (mappers_of chain.kinds) chain.pools picks at state (slice_get specs at.1) else None)))
      (sym (ap is_ip (shadow.layer ∙ ip))) (at_spec (slice_get specs at.1) refl)
