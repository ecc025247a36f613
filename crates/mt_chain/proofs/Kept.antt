-- A packet keeps on its way when and where it arrived, and never grows.
use Rattle.std.proofs.Common.{◌≡◌, ◌∙◌, sym, ap, subst, refl, ℕ, zero, suc, ◌+◌, ◌-◌, ◌≤◌, Bool, true, false, List, length, arith}
use Rattle.std.specs.Prelude.{Option, Some, None, Result, Ok, Err, ⊤, IfSome, if◌then◌else◌, nat_le, slice_get, drop, option_map, option_and_then}
use Rattle.std.proofs.lemmas.List.{length-drop}
use Rattle.std.proofs.lemmas.Bool.{leb-true}
use Rattle.mt_packet.specs.Flow.{packet_flow}
use Rattle.mt_packet.specs.Ipv4.{is_valid_ipv4}
use Rattle.mt_packet.specs.Packet.{PacketState, has_ethernet, datagram_of, with_field, stripped, layer_below, layer_checked, encapsulated, checked, checked_datagram}
use Rattle.mt_packet.specs.declared.field.Field.{Field}
use Rattle.mt_packet.specs.declared.field.Field.TheVariants as of
use Rattle.mt_packet.specs.declared.flow.Flow.{Flow}
use Rattle.mt_packet.specs.declared.layer.Layer.{Layer}
use Rattle.mt_packet.specs.declared.layer.Layer.TheVariants.{Frame, Bare, Ip, Framed}
use Rattle.mt_kinds.specs.declared.kind.Kind.{Kind}
use Rattle.mt_kinds.specs.declared.kind.Kind.TheVariants.{FromDevice, ToDevice, Classifier, Discard, Null, Counter, Queue, Paint, PaintSwitch, EtherMirror, Strip, CheckIPHeader, EtherEncap, DecIPTTL, SetIPDSCP, StoreIPAddress, GetIPAddress, IPMirror, IPFilter, IPClassifier, Route, IPRewriter, RoundRobinIPMapper}
use Rattle.mt_kinds.specs.Layers.{is_bare, is_ip, takes}
use Rattle.mt_kinds.specs.declared.hop.Hop.{Hop}
use Rattle.mt_kinds.specs.declared.rule.FilterAction.{FilterAction}
use Rattle.mt_kinds.specs.declared.rule.FilterAction.TheVariants.{Deny, Out}
use Rattle.mt_chain.specs.declared.step.Exit.{Exit}
use Rattle.mt_chain.specs.Classifier.{is_whole}
use Rattle.mt_chain.specs.Step.{class_step, stateless_step, refused, by_pattern, has_run_out, address_of, addresses_swapped, ports_swapped, by_action, by_ip_pattern, towards, by_hop}
use Rattle.mt_elements.specs.ChainState.{ChainState}
use Rattle.mt_chain.specs.declared.run.Fate.{Fate}
use Rattle.mt_chain.specs.declared.run.Fate.TheVariants.{Sent, Dropped}
use Rattle.mt_chain.specs.declared.step.Ending.TheVariants as ending
use Rattle.mt_chain.specs.declared.walk.Next.{Next}
use Rattle.mt_chain.specs.declared.walk.Next.TheVariants.{Goes, Ends}
use Rattle.mt_elements.specs.ChainState.{IsKind, entry_of, mappers_of}
use Rattle.std.specs.Result.{result_ok}
use Rattle.std.proofs.lemmas.Bool.{false≢true}
use Rattle.std.proofs.lemmas.Option.{none-some, same_Some}
use Rattle.mt_kinds.specs.declared.rewriter.Spec.{Spec}
use Rattle.mt_rewriter.specs.Kept.{AreTables, DecisionsKeep, MappingsStay}
use Rattle.mt_rewriter.specs.Mappings.{TablesState}
use Rattle.mt_rewriter.specs.Passages.{decide_for}
use Rattle.mt_rewriter.specs.declared.passage.Decision.{Decision}
use Rattle.mt_rewriter.specs.declared.passage.Passage.{Passage}
use Rattle.mt_rewriter.specs.declared.passage.Passage.TheVariants.{Rewritten, Passed}
use Rattle.mt_rewriter.specs.declared.passage.Passage.TheVariants as passage
use Rattle.mt_chain.specs.Rewriting.{with_flow, annotated, passed}
use Rattle.mt_chain.specs.Run.{State, Run, Answer, with_packet, by_decision, at_input, rewriter_step, element_step, next_after, follow, goes_on, at_element, run_from, run_answer, run_packet, IsStateless, IsThere}
use Rattle.mt_chain.specs.Kept.{IsKept, ComesFrom, Stays}
use Rattle.mt_chain.proofs.Sizes.{length-with_field, length-with_datagram, checked_no_longer}

pub same : (p : PacketState) → IsKept p p
same p = record { stamp = refl; device = refl; number = refl; size = omega arith }

pub twice : (p q r : PacketState) → IsKept p q → IsKept q r → IsKept p r
twice p q r first second = record {
  stamp = second.stamp ∙ first.stamp;
  device = second.device ∙ first.device;
  number = second.number ∙ first.number;
  size = let a = first.size in let b = second.size in omega (arith, a, b);
}

-- with bytes of the same length at the same layer
as_long : (p q : PacketState) → q.stamp ≡ p.stamp → q.device ≡ p.device → q.number ≡ p.number → q.layer ≡ p.layer → length q.bytes ≡ length p.bytes → IsKept p q
as_long p q stamp device number layer long = record {
  stamp = stamp;
  device = device;
  number = number;
  size = let there = ap {B = ℕ} (λ l. if has_ethernet l then 0 else 14) layer in omega (arith, there, long);
}

-- ---- what is done to a packet

field_kept : (p : PacketState) (field : Field) (v : ℕ) → IsKept p (with_field p field v)
field_kept p of.EthType v = as_long p _ refl refl refl refl (length-with_field p of.EthType v)
field_kept p of.EthDst v = as_long p _ refl refl refl refl (length-with_field p of.EthDst v)
field_kept p of.EthSrc v = as_long p _ refl refl refl refl (length-with_field p of.EthSrc v)
field_kept p of.Paint v = as_long p _ refl refl refl refl refl
field_kept p of.Annotation v = as_long p _ refl refl refl refl refl
field_kept p field v = as_long p _ refl refl refl refl (length-with_field p field v)

two_fields_kept : (p : PacketState) (first second : Field) (v w : ℕ) → IsKept p (with_field (with_field p first v) second w)
two_fields_kept p first second v w = twice p _ _ (field_kept p first v) (field_kept (with_field p first v) second w)

less_header : (l : Layer) (n m : ℕ) → n ≡ m - 14 → 14 ≤ m → n + (if has_ethernet (layer_below l) then 0 else 14) ≤ m + (if has_ethernet l then 0 else 14)
less_header Frame n m is long = omega (arith, is, long)
less_header Bare n m is long = omega (arith, is, long)
less_header Ip n m is long = omega (arith, is, long)
less_header Framed n m is long = omega (arith, is, long)

stripped_kept : (p : PacketState) → nat_le 14 (length p.bytes) ≡ true → IsKept p (stripped p)
stripped_kept p long = record {
  stamp = refl;
  device = refl;
  number = refl;
  size = less_header p.layer _ (length p.bytes) (length-drop 14 p.bytes) (leb-true 14 (length p.bytes) long);
}

checked_layer : (l : Layer) → has_ethernet l ≡ false → has_ethernet (layer_checked l) ≡ false
checked_layer Frame h = h
checked_layer Bare h = refl
checked_layer Ip h = refl
checked_layer Framed h = h

checked_kept : (p : PacketState) → has_ethernet p.layer ≡ false → IsKept p (checked p)
checked_kept p bare = record {
  stamp = refl;
  device = refl;
  number = refl;
  size =
      let shorter = checked_no_longer (datagram_of p) in
      let all = length-with_datagram p (checked_datagram (datagram_of p)) in
      let before = ap {B = ℕ} (λ b. if b then 0 else 14) bare in
      let after = ap {B = ℕ} (λ b. if b then 0 else 14) (checked_layer p.layer bare) in
      omega (arith, shorter, all, before, after);
}

refused_kept : (p : PacketState) → has_ethernet p.layer ≡ false → IsKept p (refused p)
refused_kept p bare = record {
  stamp = refl;
  device = refl;
  number = refl;
  size = let before = ap {B = ℕ} (λ b. if b then 0 else 14) bare in omega (arith, before);
}

encapsulated_kept : (p : PacketState) (kind src dst : ℕ) → is_ip p.layer ≡ true → IsKept p (encapsulated p kind src dst)
encapsulated_kept p kind src dst ip = record {
  stamp = refl;
  device = refl;
  number = refl;
  size = let before = ap {B = ℕ} (λ b. if b then 0 else 14) (no_header p.layer ip) in omega (arith, before);
}
  where
    no_header : (l : Layer) → is_ip l ≡ true → has_ethernet l ≡ false
    no_header Frame h = sym h
    no_header Bare h = refl
    no_header Ip h = refl
    no_header Framed h = sym h

-- ---- a step

-- what comes of a step, where there is one
abbrev Keeps : PacketState → Option (PacketState × Exit) → Type 0
Keeps p after = IfSome after (λ a. IsKept p a.0)

-- a layer without an Ethernet header
bare_header : (l : Layer) → is_bare l ≡ true → has_ethernet l ≡ false
bare_header Frame h = sym h
bare_header Bare h = refl
bare_header Ip h = refl
bare_header Framed h = sym h

-- by a test
by_test : (p : PacketState) (test : Bool) (passed failed : Option (PacketState × Exit)) → (test ≡ true → Keeps p passed) → Keeps p failed → Keeps p (if test then passed else failed)
by_test p test passed failed h k = either test refl
  where
    either : (b : Bool) → test ≡ b → Keeps p (if b then passed else failed)
    either true e = h e
    either false e = k

pattern_kept : (p : PacketState) (found : Option ℕ) → Keeps p (by_pattern p found)
pattern_kept p (Some number) = same p
pattern_kept p None = same p

ports_kept : (p : PacketState) (flow : Option Flow) → IsKept p (ports_swapped p flow)
ports_kept p (Some flow) = two_fields_kept p of.Sport of.Dport _ _
ports_kept p None = same p

action_kept : (p : PacketState) (action : FilterAction) → Keeps p (by_action p action)
action_kept p Deny = same p
action_kept p (Out number) = same p

ip_pattern_kept : (p : PacketState) (found : Option ℕ) → Keeps p (by_ip_pattern p found)
ip_pattern_kept p (Some number) = same p
ip_pattern_kept p None = same p

towards_kept : (p : PacketState) (gateway : Option ℕ) → IsKept p (towards p gateway)
towards_kept p (Some gateway) = field_kept p of.Annotation gateway
towards_kept p None = same p

hop_kept : (p : PacketState) (found : Option Hop) → Keeps p (by_hop p found)
hop_kept p (Some hop) = towards_kept p hop.gateway
hop_kept p None = same p

class_kept : (kind : Kind) (p : PacketState) → takes kind p.layer ≡ true → Keeps p (class_step kind p)
unfolding class_step
class_kept (FromDevice device) p h = same p
class_kept (ToDevice device) p h = same p
class_kept Discard p h = same p
class_kept Null p h = same p
class_kept Counter p h = same p
class_kept Queue p h = same p
class_kept (Paint paint) p h = field_kept p of.Paint paint
class_kept PaintSwitch p h = same p
class_kept (Classifier patterns) p h = pattern_kept p _
class_kept EtherMirror p h = by_test p (is_whole p) _ _ (λ _. two_fields_kept p of.EthDst of.EthSrc _ _) (same p)
class_kept Strip p h = by_test p (nat_le 14 (length p.bytes)) _ _ (λ long. stripped_kept p long) (same p)
class_kept CheckIPHeader p h = by_test p (is_valid_ipv4 (datagram_of p)) _ _ (λ _. checked_kept p (bare_header p.layer h)) (refused_kept p (bare_header p.layer h))
class_kept (EtherEncap kind src dst) p h = encapsulated_kept p kind src dst h
class_kept DecIPTTL p h = by_test p (has_run_out p) _ _ (λ _. same p) (field_kept p of.Ttl _)
class_kept (SetIPDSCP point) p h = by_test p (nat_le point 63) _ _ (λ _. field_kept p of.Dscp point) tt
class_kept (StoreIPAddress address which) p h = field_kept p (address_of which) address
class_kept GetIPAddress p h = field_kept p of.Annotation _
class_kept IPMirror p h = twice p _ _ (two_fields_kept p of.Src of.Dst _ _) (ports_kept (addresses_swapped p) (packet_flow p))
class_kept (IPFilter rules) p h = action_kept p _
class_kept (IPClassifier patterns) p h = ip_pattern_kept p _
class_kept (Route hops) p h = hop_kept p _
class_kept (IPRewriter specs) p h = tt
class_kept (RoundRobinIPMapper templates) p h = tt

pub step_kept : (kind : Kind) (p : PacketState) → Keeps p (stateless_step kind p)
unfolding stateless_step
step_kept kind p = by_test p (takes kind p.layer) (class_step kind p) None (λ h. class_kept kind p h) tt

-- ---- a rewriter

flow_kept : (p : PacketState) (flow : Flow) → IsKept p (with_flow p flow)
flow_kept p flow = twice p _ _ (two_fields_kept p of.Src of.Sport _ _) (two_fields_kept _ of.Dst of.Dport _ _)

annotated_kept : (p : PacketState) → IsKept p (annotated p)
annotated_kept p = field_kept p of.Annotation _

passed_kept : (p : PacketState) (passage : Passage) → IsKept p (passed passage p).0
passed_kept p (Rewritten meeting) = twice p _ _ (flow_kept p meeting.after) (annotated_kept (with_flow p meeting.after))
passed_kept p (Passed out) = annotated_kept p
passed_kept p (passage.Dropped why) = same p

-- ---- a run

came_from : (p q : PacketState) (fate : Fate) → IsKept p q → ComesFrom q fate → ComesFrom p fate
came_from p q (Sent device frame) kept h =
    (h.0 ∙ kept.stamp, h.1 ∙ kept.device, h.2 ∙ kept.number, let size = kept.size in let long = h.3 in omega (arith, size, long))
came_from p q (Dropped why) kept h = tt

module _ (keep : DecisionsKeep) (stay : MappingsStay) (chain : ChainState) (picks : List ℕ) where
  -- What is sent comes from the packet, what holds of tables still holds, no mapping has left, no more picks are left
  -- than there were, and no pick is wrong where there is no rewriter.
  abbrev Keeps-run : PacketState → TablesState → Answer Run → Type 0
  Keeps-run p tables None = ⊤
  Keeps-run p tables (Some (Ok run)) = ComesFrom p run.fate × AreTables chain run.tables × Stays tables run.tables × (length run.picks ≤ length picks)
  Keeps-run p tables (Some (Err place)) = IsStateless chain → ⊥

  abbrev Keeps-step : PacketState → TablesState → Answer (State × Exit) → Type 0
  Keeps-step p tables None = ⊤
  Keeps-step p tables (Some (Ok after)) = IsKept p after.0.packet × AreTables chain after.0.tables × Stays tables after.0.tables
  Keeps-step p tables (Some (Err place)) = IsStateless chain → ⊥

  -- ---- one element

  plain_keeps : (state : State) (after : Option (PacketState × Exit)) → AreTables chain state.tables → Keeps state.packet after → Keeps-step state.packet state.tables (option_map (with_packet state) after)
  plain_keeps state None kept h = tt
  plain_keeps state (Some after) kept h = (h, kept, λ m there. there)

  module _ (port : ℕ × ℕ) (specs : List Spec) (stands : IsKind chain port.0 (IPRewriter specs)) (state : State) (kept : AreTables chain state.tables) where
    never_stateless : IsStateless chain → ⊥
    never_stateless stateless = false≢true (sym (stateless port.0 (IPRewriter specs) stands))

    decided_keeps : (spec : Spec) → slice_get specs port.1 ≡ Some spec → (result : Result Decision ℕ)
        → decide_for (mappers_of chain.kinds) chain.pools picks state.tables port.0 port.1 state.used spec (packet_flow state.packet) ≡ result → Keeps-step state.packet state.tables (by_decision state result)
    decided_keeps spec at (Ok decision) is = (
      passed_kept state.packet decision.passage,
      keep chain port.0 port.1 specs spec stands at state.tables picks state.used (packet_flow state.packet) decision kept is,
      stay (mappers_of chain.kinds) chain.pools picks state.tables port.0 port.1 state.used spec (packet_flow state.packet) decision is,
    )
    decided_keeps spec at (Err place) is = never_stateless

    input_keeps : (found : Option Spec) → slice_get specs port.1 ≡ found → Keeps-step state.packet state.tables (at_input (mappers_of chain.kinds) chain.pools picks port state found)
    input_keeps None at = tt
    input_keeps (Some spec) at = decided_keeps spec at _ refl

    rewriter_keeps : Keeps-step state.packet state.tables (rewriter_step (mappers_of chain.kinds) chain.pools picks port specs state)
    unfolding rewriter_step
    rewriter_keeps = either (is_ip state.packet.layer)
      where
        either : (b : Bool) → Keeps-step state.packet state.tables (if b then at_input (mappers_of chain.kinds) chain.pools picks port state (slice_get specs port.1) else None)
        either true = input_keeps (slice_get specs port.1) refl
        either false = tt

  element_keeps : (port : ℕ × ℕ) (state : State) (kind : Kind) → IsKind chain port.0 kind → AreTables chain state.tables
      → Keeps-step state.packet state.tables (element_step (mappers_of chain.kinds) chain.pools picks port kind state)
  element_keeps port state (IPRewriter specs) is kept = rewriter_keeps port specs is state kept
  element_keeps port state kind is kept = plain_keeps state (stateless_step kind state.packet) kept (step_kept kind state.packet)

  -- ---- all of them

  fewer : (used : ℕ) → length (drop used picks) ≤ length picks
  fewer used = let left = length-drop used picks in omega (arith, left)

  module _ (most : ℕ) (again : (port : ℕ × ℕ) (state : State) → AreTables chain state.tables → Keeps-run state.packet state.tables (run_from most chain picks port state)) (p : PacketState) (before : TablesState) where
    by_next : (state : State) → IsKept p state.packet → AreTables chain state.tables → Stays before state.tables → (next : Option Next) → Keeps-run p before (option_and_then (follow picks (run_from most chain picks) state) next)
    by_next state same tables stays None = tt
    by_next state same tables stays (Some (Goes element input)) = either (run_from most chain picks (element, input) state) (again (element, input) state tables)
      where
        either : (answer : Answer Run) → Keeps-run state.packet state.tables answer → Keeps-run p before answer
        either None h = tt
        either (Some (Ok run)) h = (came_from p state.packet run.fate same h.0, h.1, λ m there. h.2 m (stays m there), h.3)
        either (Some (Err place)) h = h
    by_next state same tables stays (Some (Ends (ending.Sent device))) =
        ((same.stamp, same.device, same.number, let size = same.size in omega (arith, size)), tables, stays, fewer state.used)
    by_next state same tables stays (Some (Ends (ending.Dropped why))) = (tt, tables, stays, fewer state.used)

    by_step : (element : ℕ) (kind : Kind) (answer : Answer (State × Exit)) → Keeps-step p before answer → Keeps-run p before (option_and_then (goes_on chain picks element kind (run_from most chain picks)) answer)
    by_step element kind None h = tt
    by_step element kind (Some (Ok after)) h = by_next after.0 h.0 h.1 h.2 (next_after chain element kind after.1)
    by_step element kind (Some (Err place)) h = h

  by_kind : (most : ℕ) → ((port : ℕ × ℕ) (state : State) → AreTables chain state.tables → Keeps-run state.packet state.tables (run_from most chain picks port state)) → (port : ℕ × ℕ) (state : State) → AreTables chain state.tables
      → (found : Option Kind) → slice_get chain.kinds port.0 ≡ found → Keeps-run state.packet state.tables (option_and_then (at_element chain picks port state (run_from most chain picks)) found)
  by_kind most again port state kept None is = tt
  by_kind most again port state kept (Some kind) is = by_step most again state.packet state.tables port.0 kind _ (element_keeps port state kind is kept)

  along : (most : ℕ) (port : ℕ × ℕ) (state : State) → AreTables chain state.tables → Keeps-run state.packet state.tables (run_from most chain picks port state)
  unfolding run_from
  along zero port state kept = tt
  along (suc most) port state kept = by_kind most (λ port' state' kept'. along most port' state' kept') port state kept (slice_get chain.kinds port.0) refl

  entered_keeps : (tables : TablesState) (packet : PacketState) → AreTables chain tables → (found : Option ℕ)
      → Keeps-run packet tables (option_and_then (λ entry. run_from (suc (length chain.wires)) chain picks (entry, 0) (record { packet = packet; tables = tables; used = 0 })) found)
  entered_keeps tables packet kept None = tt
  entered_keeps tables packet kept (Some entry) = along (suc (length chain.wires)) (entry, 0) _ kept

  answer_keeps : (tables : TablesState) (packet : PacketState) → AreTables chain tables → Keeps-run packet tables (run_answer chain tables packet picks)
  unfolding run_answer
  answer_keeps tables packet kept = entered_keeps tables packet kept (entry_of chain packet.device)

  -- what a run sends comes from its packet, and its tables hold what tables hold
  pub run_keeps : (tables : TablesState) (packet : PacketState) (run : Run) → AreTables chain tables → run_answer chain tables packet picks ≡ Some (Ok run)
      → ComesFrom packet run.fate × AreTables chain run.tables × Stays tables run.tables
  run_keeps tables packet run kept is = let h = subst (Keeps-run packet tables) is (answer_keeps tables packet kept) in (h.0, h.1, h.2)

  -- a run leaves no more picks than it was given
  pub run_leaves : (tables : TablesState) (packet : PacketState) (run : Run) → AreTables chain tables → run_packet chain tables packet picks ≡ Some run → length run.picks ≤ length picks
  unfolding run_packet
  run_leaves tables packet run kept is = either (run_answer chain tables packet picks) is (answer_keeps tables packet kept)
    where
      either : (answer : Answer Run) → option_and_then result_ok answer ≡ Some run → Keeps-run packet tables answer → length run.picks ≤ length picks
      either None told h = absurd (none-some run told)
      either (Some (Ok other)) told h = subst (λ (r : Run). length r.picks ≤ length picks) (same_Some other run told) h.3
      either (Some (Err place)) told h = absurd (none-some run told)

  -- without a rewriter no pick is wrong
  pub run_there : (tables : TablesState) (packet : PacketState) → AreTables chain tables → IsStateless chain → IsThere (run_answer chain tables packet picks) → IsThere (run_packet chain tables packet picks)
  unfolding run_packet
  run_there tables packet kept stateless there = either (run_answer chain tables packet picks) there (answer_keeps tables packet kept)
    where
      either : (answer : Answer Run) → IsThere answer → Keeps-run packet tables answer → IsThere (option_and_then result_ok answer)
      either None there h = absurd (none-some there.0 there.1)
      either (Some (Ok run)) there h = (run, refl)
      either (Some (Err place)) there h = absurd (h stateless)
