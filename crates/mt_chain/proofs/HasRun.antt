-- Every packet of an accepted chain has a run.
use Rattle.std.proofs.Common.{◌≡◌, ◌∙◌, sym, ap, subst, refl, ◌⊎◌, inl, inr, ℕ, zero, suc, ◌<◌, Bool, true, false, cond, List, [], ◌∷◌, length, get_or, position, Contains, arith}
use Rattle.std.specs.Prelude.{Option, Some, None, Result, Ok, Err, ⊤, nat_lt, ◌==◌, ◌&&◌, not, if◌then◌else◌, slice_get, option_map, option_and_then}
use Rattle.std.specs.List.{find}
use Rattle.std.proofs.lemmas.Bool.{false≢true}
use Rattle.std.proofs.lemmas.Bool.Decides.{nat_tests}
use Rattle.std.proofs.lemmas.List.Quantifiers.{position-Some}
use Rattle.std.proofs.lemmas.Option.{slice_get-get_or, none-some}
use Rattle.mt_lists.proofs.Members.{first_in, later_in}
use Rattle.mt_graph.specs.declared.Wire.{Wire}
use Rattle.mt_packet.specs.Packet.{PacketState}
use Rattle.mt_packet.specs.declared.cause.Cause.{Cause}
use Rattle.mt_packet.specs.declared.layer.Layer.{Layer}
use Rattle.mt_packet.specs.declared.layer.Layer.TheVariants.{Frame}
use Rattle.mt_kinds.specs.Layers.{takes, layer_behind}
use Rattle.mt_kinds.specs.Layers.{is_ip}
use Rattle.mt_kinds.specs.Ports.{is_rewriter, leads, LeadsWithin, output_count, may_be_open}
use Rattle.mt_kinds.specs.declared.kind.Kind.{Kind}
use Rattle.mt_kinds.specs.declared.kind.Kind.TheVariants.{FromDevice, IPRewriter}
use Rattle.mt_kinds.specs.declared.rewriter.Spec.{Spec}
use Rattle.mt_kinds.specs.declared.rewriter.Template.{Template}
use Rattle.mt_wiring.specs.Ways.{Reached, enters, onward, IsStep, IsRank}
use Rattle.mt_elements.specs.Accepted.{IsAccepted, behavior_of, leads_at, takes_at, behind_at, enters_at}
use Rattle.mt_elements.specs.ChainState.{ChainState, IsKind, is_from, target, next_of, entry_of, is_entry, inputs_in, inputs_of, outputs_in, outputs_of, wired_of, mappers_of}
use Rattle.mt_elements.specs.Numbered.{IsNumbered}
use Rattle.mt_elements.specs.Wired.{free_at, missing_port, or_twice}
use Rattle.mt_chain.specs.declared.step.Exit.{Exit}
use Rattle.mt_chain.specs.declared.step.Exit.TheVariants.{Leaves, Stops}
use Rattle.mt_kinds.specs.declared.rewriter.Spec.TheVariants as spec
use Rattle.mt_chain.specs.Step.{stateless_step, unwired_cause}
use Rattle.mt_packet.specs.Flow.{packet_flow}
use Rattle.mt_rewriter.specs.Kept.{AreTables, DecisionsKeep, PassageLeads, PassagesLead}
use Rattle.mt_rewriter.specs.Mappings.{TablesState, taken_back}
use Rattle.mt_rewriter.specs.declared.log.Undo.{Undo}
use Rattle.mt_rewriter.specs.Passages.{decide_for}
use Rattle.mt_rewriter.specs.declared.passage.Decision.{Decision}
use Rattle.mt_rewriter.specs.declared.passage.Passage.{Passage}
use Rattle.mt_rewriter.specs.declared.passage.Passage.TheVariants.{Rewritten, Passed, Dropped}
use Rattle.mt_chain.specs.Rewriting.{passed}
use Rattle.mt_chain.specs.Run.{State, Run, Answer, with_packet, by_decision, at_input, rewriter_step, element_step, by_wire, follow, goes_on, at_element, run_from, run_answer, run_packet, IsThere}
use Rattle.mt_chain.specs.Walking.{IsStop}
use Rattle.mt_chain.specs.declared.walk.Stop.{Stop}
use Rattle.mt_chain.specs.declared.walk.Stop.TheVariants.{NoWay, BadPick, NoMemory}
use Rattle.std.specs.Result.{result_ok}
use Rattle.mt_chain.proofs.StepsThere.{IsWay, IsAfter, Steps, step_there, open_cause}

-- ---- options and lists

there_then : {A B : Type 0} (found : Option A) (value : A) (go_on : A → Option B) → found ≡ Some value → IsThere (go_on value) → IsThere (option_and_then go_on found)
there_then found value go_on is there = (there.0, ap (option_and_then go_on) is ∙ there.1)

-- the element at which a test passes first
position_is : {A : Type 0} (p : A → Bool) (xs : List A) (i : ℕ) → position p xs ≡ Some i → (x : A) × (slice_get xs i ≡ Some x) × (p x ≡ true)
position_is p [] i is = absurd (none-some i is)
position_is p (x ∷ xs) i is =
    let h = position-Some p (x ∷ xs) i x is in
    (get_or (x ∷ xs) i x, slice_get-get_or (x ∷ xs) i x h.0, h.1)

unsome : {A : Type 0} (x y : A) → Some x ≡ Some y → x ≡ y
unsome x y e = ap (λ o. elim o as (λ _. _) [ Some z ↦ z | None ↦ x ]) e

-- what is found is in the list, at a place, and passes
record Found {A : Type 0} (p : A → Bool) (xs : List A) (x : A) : Type 0 where
  place : ℕ
  at : slice_get xs place ≡ Some x
  there : Contains xs x
  passes : p x ≡ true

found_in : {A : Type 0} (p : A → Bool) (xs : List A) (x : A) → find p xs ≡ Some x → Found p xs x
found_in p [] x e = absurd (none-some x e)
found_in {A} p (y ∷ ys) x e = either (p y) refl e (found_in p ys x)
  where
    either : (b : Bool) → p y ≡ b → cond b (Some y) (find p ys) ≡ Some x → (find p ys ≡ Some x → Found p ys x) → Found p (y ∷ ys) x
    either true test e again =
        let same = unsome y x e in
        record { place = 0; at = ap Some same; there = subst (λ z. Contains (y ∷ ys) z) same (first_in y ys); passes = subst (λ z. p z ≡ true) same test }
    either false test e again =
        let later = again e in
        record { place = suc later.place; at = later.at; there = later_in y ys x later.there; passes = later.passes }

mapped : {A B : Type 0} (f : A → B) (found : Option A) (y : B) → option_map f found ≡ Some y → (x : A) × (found ≡ Some x) × (f x ≡ y)
mapped f (Some x) y e = (x, refl, unsome (f x) y e)
mapped f None y e = absurd (none-some y e)

both : (a b : Bool) → (a && b) ≡ true → (a ≡ true) × (b ≡ true)
both true true e = (refl, refl)
both true false e = absurd (false≢true e)
both false b e = absurd (false≢true e)

same_number : (a b : ℕ) → (a == b) ≡ true → a ≡ b
same_number a b e = grind (arith, nat_tests)

-- ---- kinds

-- beside rewriters each input leads to each output
leads_all : (mappers : List (List Template)) (kind : Kind) (input out : ℕ) → is_rewriter kind ≡ false → leads mappers kind input out ≡ true
leads_all mappers (IPRewriter specs) input out plain = absurd (false≢true (sym plain))
leads_all mappers kind input out plain = refl

-- and the number of outputs does not depend on mappers
same_count : (mappers : List (List Template)) (kind : Kind) (wired : ℕ) → is_rewriter kind ≡ false → output_count [] kind wired ≡ output_count mappers kind wired
same_count mappers (IPRewriter specs) wired plain = absurd (false≢true (sym plain))
same_count mappers kind wired plain = refl

-- an entry is the FromDevice of a device
abbrev kind_device : (device : ℕ) (kind : Kind) → is_entry device kind ≡ true → ℕ
kind_device device (FromDevice number) h = number
kind_device device kind h = 0

kind_is : (device : ℕ) (kind : Kind) (h : is_entry device kind ≡ true) → kind ≡ FromDevice (kind_device device kind h)
kind_is device (FromDevice number) h = refl
kind_is device kind h = absurd (false≢true h)

-- an element with an input is there
some_kind : (found : Option Kind) (into : ℕ) → nat_lt into (inputs_in found) ≡ true → IsThere found
some_kind (Some kind) into h = (kind, refl)
some_kind None into h = let below : into < 0 = grind (arith, nat_tests) in absurd (omega (arith, below))

-- a wire with nothing wrong comes to an input that is there
input_there : (chain : ChainState) (wire : Wire) (again : Bool) (missing : Option ℕ) → or_twice wire.from again (missing_port chain wire) ≡ None → nat_lt wire.into (inputs_of chain wire.to) ≡ true
input_there chain wire again missing faultless = output (nat_lt wire.out (outputs_of chain wire.from)) (nat_lt wire.into (inputs_of chain wire.to)) again faultless
  where
    output : (a b again : Bool) → or_twice wire.from again (if not a then Some wire.from else (if not b then Some wire.to else None)) ≡ None → b ≡ true
    output true true again e = refl
    output true false again e = absurd (none-some _ (sym e))
    output false b again e = absurd (none-some _ (sym e))

-- ---- where a packet stands

-- A packet of a layer is at an input port: it has just arrived, or it came by a wire to an input that is there.
data Stands (chain : ChainState) (port : ℕ × ℕ) (layer : Layer) : Type 0 where
  arrived : (device : ℕ) → IsKind chain port.0 (FromDevice device) → layer ≡ Frame → Stands chain port layer
  came : Reached (behavior_of chain.kinds) chain.wires port layer → nat_lt port.1 (inputs_of chain port.0) ≡ true → Stands chain port layer

module _ (chain : ChainState) (accepted : IsAccepted chain) where
  -- the element takes it
  fits : (port : ℕ × ℕ) (layer : Layer) (kind : Kind) → IsKind chain port.0 kind → Stands chain port layer → takes kind layer ≡ true
  fits port layer kind is (arrived device from frame) =
      let same = unsome kind (FromDevice device) (sym is ∙ from) in
      ap (λ k. takes k layer) same ∙ ap (λ l. takes (FromDevice device) l) frame
  fits port layer kind is (came reached there) = either (takes kind layer) refl
    where
      either : (b : Bool) → takes kind layer ≡ b → b ≡ true
      either true e = refl
      either false e = absurd (accepted.fits port.0 (port.1, layer, reached, ap (λ k. takes_at k layer) is ∙ e))

  -- a wire by which it leaves
  module _ (port : ℕ × ℕ) (kind : Kind) (is : IsKind chain port.0 kind) (out : ℕ) (lead : leads (mappers_of chain.kinds) kind port.1 out ≡ true) (wire : Wire) (found : find (is_from port.0 out) chain.wires ≡ Some wire) where
    there : Found (is_from port.0 out) chain.wires wire
    there = found_in (is_from port.0 out) chain.wires wire found

    from_is : (wire.from ≡ port.0) × (wire.out ≡ out)
    from_is = let h = both (port.0 == wire.from) (out == wire.out) there.passes in (sym (same_number _ _ h.0), sym (same_number _ _ h.1))

    step : IsStep (behavior_of chain.kinds).leads chain.wires port wire
    step = record {
      there = there.there;
      left = (from_is.0, ap (λ k. leads_at (mappers_of chain.kinds) k port.1 wire.out) is ∙ ap (leads (mappers_of chain.kinds) kind port.1) from_is.1 ∙ lead);
    }

    -- the input to which it leads is there
    input : nat_lt wire.into (inputs_of chain wire.to) ≡ true
    input = input_there chain wire _ None (accepted.wired there.place wire there.at)

    goes : (layer : Layer) → Stands chain port layer → Stands chain (target wire) (layer_behind kind layer out)
    goes layer (arrived device from frame) =
        let same = unsome kind (FromDevice device) (sym is ∙ from) in
        came (enters (behavior_of chain.kinds) chain.wires (target wire) _ wire there.there
        (ap (λ e. enters_at (slice_get chain.kinds e)) from_is.0 ∙ ap enters_at from) refl
        (sym (ap (λ k. layer_behind k layer out) same ∙ frame))) input
    goes layer (came reached within) =
        let took = fits port layer kind is (came reached within) in
        came (onward (behavior_of chain.kinds) chain.wires port (target wire) layer _ wire reached (ap (λ k. takes_at k layer) is ∙ took) step refl
        (ap (λ k. behind_at k layer wire.out) is ∙ ap (layer_behind kind layer) from_is.1)) input

    -- the element to which it leads is there
    next_kind : IsThere (slice_get chain.kinds wire.to)
    next_kind = some_kind (slice_get chain.kinds wire.to) wire.into input

-- ---- what comes of a step

module _ (chain : ChainState) (kind : Kind) (layer : Layer) (port : ℕ × ℕ) where
  abbrev wired : ℕ
  wired = wired_of chain.wires port.0

  -- the packet leaves by an output to which its input leads, and which the element has or at which it is dropped
  record Leaving (packet : PacketState) (out : ℕ) : Type 0 where
    layer_is : packet.layer ≡ layer_behind kind layer out
    lead : leads (mappers_of chain.kinds) kind port.1 out ≡ true
    way : (out < output_count (mappers_of chain.kinds) kind wired) ⊎ IsThere (unwired_cause kind out)

  abbrev GoesBy : PacketState → Exit → Type 0
  GoesBy packet (Leaves out) = Leaving packet out
  GoesBy packet (Stops ending) = ⊤

  abbrev StepsTo : Answer (State × Exit) → Type 0
  StepsTo None = ⊥
  StepsTo (Some (Ok after)) = GoesBy after.0.packet after.1 × AreTables chain after.0.tables
  StepsTo (Some (Err place)) = ⊤

  -- of an element that is no rewriter
  module _ (plain : is_rewriter kind ≡ false) where
    plain_way : (out : ℕ) → IsWay kind wired out → (out < output_count (mappers_of chain.kinds) kind wired) ⊎ IsThere (unwired_cause kind out)
    plain_way out (inl within) = inl (let same = same_count (mappers_of chain.kinds) kind wired plain in omega (arith, within, same))
    plain_way out (inr dropped) = inr dropped

    plain_exit : (packet : PacketState) (exit : Exit) → IsAfter kind layer wired packet exit → GoesBy packet exit
    plain_exit packet (Leaves out) h = record { layer_is = h.0; lead = leads_all (mappers_of chain.kinds) kind port.1 out plain; way = plain_way out h.1 }
    plain_exit packet (Stops ending) h = tt

    plain_steps : (state : State) → AreTables chain state.tables → (after : Option (PacketState × Exit)) → Steps kind layer wired after → StepsTo (option_map (with_packet state) after)
    plain_steps state kept None h = elim h [ ]
    plain_steps state kept (Some after) h = (plain_exit after.0 after.1 h, kept)

-- of a rewriter
module _ (chain : ChainState) (keep : DecisionsKeep) (lead_law : PassagesLead) (within_law : LeadsWithin) (port : ℕ × ℕ) (specs : List Spec) (stands : IsKind chain port.0 (IPRewriter specs)) (picks : List ℕ) (state : State) (kept : AreTables chain state.tables) where
  abbrev Rewriter : Kind
  Rewriter = IPRewriter specs

  rewriter_leaves : (packet : PacketState) (out : ℕ) → packet.layer ≡ state.packet.layer → leads (mappers_of chain.kinds) Rewriter port.1 out ≡ true → Leaving chain Rewriter state.packet.layer port packet out
  rewriter_leaves packet out same lead = record { layer_is = same; lead = lead; way = inl (within_law (mappers_of chain.kinds) specs port.1 out (wired_of chain.wires port.0) lead) }

  passage_leaves : (passage : Passage) → PassageLeads (leads (mappers_of chain.kinds) Rewriter port.1) passage → GoesBy chain Rewriter state.packet.layer port (passed passage state.packet).0 (passed passage state.packet).1
  passage_leaves (Rewritten meeting) lead = rewriter_leaves _ meeting.output refl lead
  passage_leaves (Passed out) lead = rewriter_leaves _ out refl lead
  passage_leaves (Dropped why) lead = tt

  decided : (spec : Spec) → slice_get specs port.1 ≡ Some spec → (result : Result Decision ℕ) → decide_for (mappers_of chain.kinds) chain.pools picks state.tables port.0 port.1 state.used spec (packet_flow state.packet) ≡ result
      → StepsTo chain Rewriter state.packet.layer port (by_decision state result)
  decided spec at (Ok decision) is = (
    passage_leaves decision.passage (lead_law chain port.0 port.1 specs spec stands at state.tables picks state.used (packet_flow state.packet) decision kept is),
    keep chain port.0 port.1 specs spec stands at state.tables picks state.used (packet_flow state.packet) decision kept is,
  )
  decided spec at (Err place) is = tt

  input_decides : (found : Option Spec) → slice_get specs port.1 ≡ found → IsThere found → StepsTo chain Rewriter state.packet.layer port (at_input (mappers_of chain.kinds) chain.pools picks port state found)
  input_decides (Some spec) at known = decided spec at _ refl
  input_decides None at known = absurd (none-some known.0 known.1)

  rewriter_steps : is_ip state.packet.layer ≡ true → IsThere (slice_get specs port.1) → StepsTo chain Rewriter state.packet.layer port (rewriter_step (mappers_of chain.kinds) chain.pools picks port specs state)
  unfolding rewriter_step
  rewriter_steps ip there =
      subst (λ b. StepsTo chain Rewriter state.packet.layer port (if b then at_input (mappers_of chain.kinds) chain.pools picks port state (slice_get specs port.1) else None)) (sym ip)
      (input_decides (slice_get specs port.1) refl there)

spec_there : (specs : List Spec) (input : ℕ) → nat_lt input (length specs) ≡ true → IsThere (slice_get specs input)
spec_there specs input h = let below : input < length specs = grind (arith, nat_tests) in (get_or specs input (spec.Drop), slice_get-get_or specs input spec.Drop below)

-- ---- the run

module _ (chain : ChainState) (accepted : IsAccepted chain) (numbered : IsNumbered chain) (keep : DecisionsKeep) (lead_law : PassagesLead) (within_law : LeadsWithin)
    (rank : ℕ × ℕ → ℕ) (ranks : IsRank (behavior_of chain.kinds).leads chain.wires rank) (picks : List ℕ) where
  -- the element at which a packet stands has a step
  element_steps : (port : ℕ × ℕ) (state : State) (kind : Kind) → IsKind chain port.0 kind → AreTables chain state.tables → Stands chain port state.packet.layer
      → StepsTo chain kind state.packet.layer port (element_step (mappers_of chain.kinds) chain.pools picks port kind state)
  element_steps port state (IPRewriter specs) is kept stands =
      rewriter_steps chain keep lead_law within_law port specs is picks state kept (fits chain accepted port state.packet.layer (IPRewriter specs) is stands) (by_input stands)
    where
      by_input : Stands chain port state.packet.layer → IsThere (slice_get specs port.1)
      by_input (arrived device from frame) = absurd (never (unsome _ _ (sym is ∙ from)))
        where
          never : IPRewriter specs ≡ FromDevice device → ⊥
          never e = false≢true (sym (ap is_rewriter e))
      by_input (came reached within) = spec_there specs port.1 (ap (λ k. nat_lt port.1 (inputs_in k)) (sym is) ∙ within)
  element_steps port state kind is kept stands =
      plain_steps chain kind state.packet.layer port refl state kept (stateless_step kind state.packet)
      (step_there kind state.packet (wired_of chain.wires port.0) (fits chain accepted port state.packet.layer kind is stands) (λ point same. numbered.points port.0 point (is ∙ ap Some same)) refl)

  module _ (most : ℕ) (port : ℕ × ℕ) (kind : Kind) (is : IsKind chain port.0 kind)
      (again : (next : ℕ × ℕ) (state : State) (k : Kind) → IsKind chain next.0 k → rank next < rank port → AreTables chain state.tables → Stands chain next state.packet.layer → IsThere (run_from most chain picks next state)) where
    dropped : (state : State) (why : Option Cause) → IsThere why → IsThere (option_and_then (follow picks (run_from most chain picks) state) (by_wire None why))
    dropped state (Some why) is = (_, refl)
    dropped state None is = absurd (none-some is.0 is.1)

    -- an output that is not wired may be open
    may_drop : (out : ℕ) → next_of chain port.0 out ≡ None → (out < output_count (mappers_of chain.kinds) kind (wired_of chain.wires port.0)) ⊎ IsThere (unwired_cause kind out) → IsThere (unwired_cause kind out)
    may_drop out unwired (inr dropped_at) = dropped_at
    may_drop out unwired (inl within) = open_cause kind out (either (may_be_open kind out) refl)
      where
        count : outputs_of chain port.0 ≡ output_count (mappers_of chain.kinds) kind (wired_of chain.wires port.0)
        count = ap (λ k. outputs_in (mappers_of chain.kinds) (wired_of chain.wires port.0) k) is

        either : (b : Bool) → may_be_open kind out ≡ b → b ≡ true
        either true e = refl
        either false e = absurd (accepted.closed port.0 (record {
          out = out;
          there = omega (arith, within, count);
          unwired = unwired;
          bound = ap (λ k. free_at k out) is ∙ e;
        }))

    to_next : (state : State) (out : ℕ) (layer : Layer) → AreTables chain state.tables → Stands chain port layer → Leaving chain kind layer port state.packet out
        → (found : Option Wire) → find (is_from port.0 out) chain.wires ≡ found
        → IsThere (option_and_then (follow picks (run_from most chain picks) state) (by_wire (option_map target found) (unwired_cause kind out)))
    to_next state out layer kept stands leaving (Some wire) found =
        let next = next_kind chain accepted port kind is out leaving.lead wire found in
        again (target wire) state next.0 next.1 (ranks.falls port wire (step chain accepted port kind is out leaving.lead wire found)) kept
        (subst (Stands chain (target wire)) (sym leaving.layer_is) (goes chain accepted port kind is out leaving.lead wire found layer stands))
    to_next state out layer kept stands leaving None found = dropped state (unwired_cause kind out) (may_drop out (ap (option_map target) found) leaving.way)

    follows : (state : State) (layer : Layer) (exit : Exit) → AreTables chain state.tables → Stands chain port layer → GoesBy chain kind layer port state.packet exit
        → IsThere (goes_on chain picks port.0 kind (run_from most chain picks) (Ok (state, exit)))
    follows state layer (Stops ending) kept stands h = (_, refl)
    follows state layer (Leaves out) kept stands h = to_next state out layer kept stands h (find (is_from port.0 out) chain.wires) refl

    stepped : (layer : Layer) (answer : Answer (State × Exit)) → Stands chain port layer → StepsTo chain kind layer port answer
        → IsThere (option_and_then (goes_on chain picks port.0 kind (run_from most chain picks)) answer)
    stepped layer None stands h = elim h [ ]
    stepped layer (Some (Ok after)) stands h = follows after.0 layer after.1 h.1 stands h.0
    stepped layer (Some (Err place)) stands h = (_, refl)

  from_there : (most : ℕ) (port : ℕ × ℕ) (state : State) (kind : Kind) → IsKind chain port.0 kind → rank port < most → AreTables chain state.tables → Stands chain port state.packet.layer
      → IsThere (run_from most chain picks port state)
  unfolding run_from
  from_there zero port state kind is below kept stands = absurd (omega (arith, below))
  from_there (suc most) port state kind is below kept stands =
      there_then (slice_get chain.kinds port.0) kind (at_element chain picks port state (run_from most chain picks)) is
      (stepped most port kind is
      (λ next state' k is' falls kept' stands'. from_there most next state' k is' (omega (arith, below, falls)) kept' stands')
      state.packet.layer _ stands (element_steps port state kind is kept stands))

  entered : (device : ℕ) (packet : PacketState) (tables : TablesState) (found : Option ℕ) → entry_of chain device ≡ found → packet.layer ≡ Frame → AreTables chain tables → IsThere found
      → IsThere (option_and_then (λ entry. run_from (suc (length chain.wires)) chain picks (entry, 0) (record { packet = packet; tables = tables; used = 0 })) found)
  entered device packet tables (Some entry) is arrives kept there =
      let kind = position_is (is_entry device) chain.kinds entry is in
      let from = kind.1 ∙ ap Some (kind_is device kind.0 kind.2) in
      let bounded = ranks.bounded (entry, 0) in
      from_there (suc (length chain.wires)) (entry, 0) _ kind.0 kind.1 (omega (arith, bounded)) kept (arrived (kind_device device kind.0 kind.2) from arrives)
  entered device packet tables None is arrives kept there = absurd (none-some there.0 there.1)

  -- every packet that arrives on a device of the chain has a run, or a pick that is wrong
  pub has_answer : (tables : TablesState) (packet : PacketState) → packet.layer ≡ Frame → AreTables chain tables → IsThere (entry_of chain packet.device) → IsThere (run_answer chain tables packet picks)
  unfolding run_answer
  has_answer tables packet arrives kept known = entered packet.device packet tables (entry_of chain packet.device) refl arrives kept known

-- a run begins at the element of its device
pub from_entry : (chain : ChainState) (tables : TablesState) (packet : PacketState) (picks : List ℕ) (entry device : ℕ) → device ≡ packet.device → Some entry ≡ entry_of chain device
    → run_answer chain tables packet picks ≡ run_from (suc (length chain.wires)) chain picks (entry, 0) (record { packet = packet; tables = tables; used = 0 })
unfolding run_answer
from_entry chain tables packet picks entry device same is =
    ap (option_and_then (λ e. run_from (suc (length chain.wires)) chain picks (e, 0) (record { packet = packet; tables = tables; used = 0 }))) (ap (entry_of chain) (sym same) ∙ sym is)

-- a value is not missing
pub not_missing : {A : Type 0} (found : Option A) → IsThere found → found ≡ None → false ≡ true
not_missing found there none = absurd (none-some there.0 (sym none ∙ there.1))

-- a run with that answer is the run of the packet
pub run_is : (chain : ChainState) (tables : TablesState) (packet : PacketState) (picks : List ℕ) (run : Run) → run_answer chain tables packet picks ≡ Some (Ok run) → run_packet chain tables packet picks ≡ Some run
unfolding run_packet
run_is chain tables packet picks run is = ap (option_and_then result_ok) is

-- the chain has a way for a packet that has an answer
pub some_way : {A : Type 0} (answer : Answer A) (stop : Stop) → IsThere answer → IsStop answer stop → stop ≡ NoWay → ⊥
some_way answer NoWay there is same = absurd (none-some there.0 (sym is ∙ there.1))
some_way answer (BadPick place) there is same = absurd cc
some_way answer NoMemory there is same = absurd cc

-- where nothing was logged, nothing is taken back
pub nothing_back : (log : List Undo) (tables : TablesState) → log ≡ [] → taken_back log tables ≡ tables
unfolding taken_back
nothing_back log tables none = ap (λ l. taken_back l tables) none
