-- The run of one packet: from the element of its device along the wires to its fate.
use Rattle.std.specs.Prelude.{◌≡◌, ℕ, zero, suc, false, if◌then◌else◌, List, length, drop, Option, Some, None, Result, Ok, Err, slice_get, option_map, option_and_then, ⊤}
use Rattle.std.specs.Result.{result_ok}
use Rattle.mt_packet.specs.Flow.{packet_flow}
use Rattle.mt_packet.specs.Packet.{PacketState}
use Rattle.mt_packet.specs.declared.cause.Cause.{Cause}
use Rattle.mt_packet.specs.declared.frame.Stamped.{Stamped}
use Rattle.mt_kinds.specs.declared.kind.Kind.{Kind}
use Rattle.mt_kinds.specs.declared.kind.Kind.TheVariants.{IPRewriter}
use Rattle.mt_kinds.specs.declared.rewriter.Pool.{Pool}
use Rattle.mt_kinds.specs.declared.rewriter.Spec.{Spec}
use Rattle.mt_kinds.specs.declared.rewriter.Template.{Template}
use Rattle.mt_kinds.specs.Layers.{is_ip}
use Rattle.mt_kinds.specs.Ports.{is_rewriter}
use Rattle.mt_elements.specs.ChainState.{ChainState, IsKind, mappers_of, next_of, entry_of}
use Rattle.mt_rewriter.specs.Mappings.{TablesState}
use Rattle.mt_rewriter.specs.Passages.{decide_for, remembered}
use Rattle.mt_rewriter.specs.declared.passage.Decision.{Decision}
use Rattle.mt_chain.specs.declared.step.Exit.{Exit}
use Rattle.mt_chain.specs.declared.step.Exit.TheVariants.{Leaves, Stops}
use Rattle.mt_chain.specs.declared.run.Fate.{Fate}
use Rattle.mt_chain.specs.declared.run.Fate.TheVariants as fate
use Rattle.mt_chain.specs.declared.run.Ran.{Ran}
use Rattle.mt_chain.specs.declared.run.RunFault.{RunFault}
use Rattle.mt_chain.specs.declared.run.RunFault.TheVariants.{BadPick, NoMemory}
use Rattle.mt_chain.specs.declared.step.Ending.{Ending}
use Rattle.mt_chain.specs.declared.step.Ending.TheVariants.{Sent, Dropped}
use Rattle.mt_chain.specs.declared.walk.Next.{Next}
use Rattle.mt_chain.specs.declared.walk.Next.TheVariants.{Goes, Ends}
use Rattle.mt_chain.specs.Rewriting.{passed}
use Rattle.mt_chain.specs.Step.{stateless_step, unwired_cause}

-- a packet on its way, with what the chain remembers and how many of the picks its run has taken
pub record State : Type 0 where
  pub packet : PacketState
  pub tables : TablesState
  pub used : ℕ

-- the fate of a packet, and what its run leaves
pub record Run : Type 0 where
  pub fate : Fate
  pub tables : TablesState
  pub picks : List ℕ

-- What comes of a run: a value, or the place of the pick that is missing or is no free port of its pool. There is none
-- where the chain has no way for the packet.
abbrev pub Answer : Type 0 → Type 0
Answer A = Option (Result A ℕ)

-- ---- one element

abbrev pub with_packet : State → PacketState × Exit → Result (State × Exit) ℕ
with_packet state after = Ok (record state { packet = after.0 }, after.1)

-- behind a passage at a rewriter
abbrev pub with_passage : State → Decision → PacketState × Exit → State × Exit
with_passage state decision after = (record { packet = after.0; tables = remembered decision state.tables; used = decision.used }, after.1)

abbrev pub by_decision : State → Result Decision ℕ → Answer (State × Exit)
by_decision state (Ok decision) = Some (Ok (with_passage state decision (passed decision.passage state.packet)))
by_decision state (Err place) = Some (Err place)

module _ (mappers : List (List Template)) (pools : List Pool) (picks : List ℕ) where
  -- at an input with that specification
  abbrev pub at_input : ℕ × ℕ → State → Option Spec → Answer (State × Exit)
  at_input port state None = None
  at_input port state (Some spec) =
      by_decision state (decide_for mappers pools picks state.tables port.0 port.1 state.used spec (packet_flow state.packet))

  -- the step of a rewriter on what comes to one of its inputs
  unfoldable pub rewriter_step : ℕ × ℕ → List Spec → State → Answer (State × Exit)
  rewriter_step port specs state = if is_ip state.packet.layer then at_input port state (slice_get specs port.1) else None

  -- the step of an element
  abbrev pub element_step : ℕ × ℕ → Kind → State → Answer (State × Exit)
  element_step port (IPRewriter specs) state = rewriter_step port specs state
  element_step port kind state = option_map (with_packet state) (stateless_step kind state.packet)

-- a packet at an output that leads there, or is dropped for that cause where it leads nowhere
abbrev pub by_wire : Option (ℕ × ℕ) → Option Cause → Option Next
by_wire (Some wire) why = Some (Goes wire.0 wire.1)
by_wire None (Some why) = Some (Ends (Dropped why))
by_wire None None = None

-- where a packet goes from an element: to an input of another, or to its end
abbrev pub next_after : ChainState → ℕ → Kind → Exit → Option Next
next_after chain element kind (Leaves out) = by_wire (next_of chain element out) (unwired_cause kind out)
next_after chain element kind (Stops ending) = Some (Ends ending)

-- ---- all of them

-- the present bytes as a frame, with what came with it
abbrev pub stamped_of : PacketState → Stamped
stamped_of packet = record { stamp = packet.stamp; device = packet.device; number = packet.number; frame = packet.bytes }

abbrev pub fate_of : PacketState → Ending → Fate
fate_of packet (Sent device) = fate.Sent device (stamped_of packet)
fate_of packet (Dropped why) = fate.Dropped why

-- the run goes on where the packet goes, or is over
abbrev pub follow : List ℕ → (ℕ × ℕ → State → Answer Run) → State → Next → Answer Run
follow picks along state (Goes element input) = along (element, input) state
follow picks along state (Ends ending) = Some (Ok (record { fate = fate_of state.packet ending; tables = state.tables; picks = drop state.used picks }))

-- the run goes on behind a step of an element
abbrev pub goes_on : ChainState → List ℕ → ℕ → Kind → (ℕ × ℕ → State → Answer Run) → Result (State × Exit) ℕ → Answer Run
goes_on chain picks element kind along (Ok after) = option_and_then (follow picks along after.0) (next_after chain element kind after.1)
goes_on chain picks element kind along (Err place) = Some (Err place)

-- the run goes on at an element
abbrev pub at_element : ChainState → List ℕ → ℕ × ℕ → State → (ℕ × ℕ → State → Answer Run) → Kind → Answer Run
at_element chain picks port state along kind =
    option_and_then (goes_on chain picks port.0 kind along) (element_step (mappers_of chain.kinds) chain.pools picks port kind state)

-- The run from an element and its input on, over at most so many elements.
unfoldable pub run_from : ℕ → ChainState → List ℕ → ℕ × ℕ → State → Answer Run
run_from zero chain picks port state = None
run_from (suc most) chain picks port state = option_and_then (at_element chain picks port state (run_from most chain picks)) (slice_get chain.kinds port.0)

-- what comes of the run of a packet that arrives; it follows each wire at most once
unfoldable pub run_answer : ChainState → TablesState → PacketState → List ℕ → Answer Run
run_answer chain tables packet picks =
    option_and_then (λ entry. run_from (suc (length chain.wires)) chain picks (entry, 0) (record { packet = packet; tables = tables; used = 0 })) (entry_of chain packet.device)

-- The run of a packet that arrives, from what the chain remembers and the ports to be picked to its fate,
-- what the chain then remembers and the ports that are left. It has no value where a port that it needs
-- is missing or is not free, or where the chain has no way for it.
unfoldable pub run_packet : ChainState → TablesState → PacketState → List ℕ → Option Run
run_packet chain tables packet picks = option_and_then result_ok (run_answer chain tables packet picks)

-- no element is a rewriter
abbrev pub IsStateless : ChainState → Type 0
IsStateless chain = (element : ℕ) (kind : Kind) → IsKind chain element kind → is_rewriter kind ≡ false

-- ---- what a call tells of it

-- a run with that fate that took so many of the picks
abbrev pub run_told : TablesState → List ℕ → Ran → Run
run_told tables picks ran = record { fate = ran.fate; tables = tables; picks = drop ran.used picks }

-- there is a value
abbrev pub IsThere : {A : Type 0} → Option A → Type 0
IsThere {A} found = (value : A) × (found ≡ Some value)

-- why there was no run to its end
abbrev pub RunCause : Answer Run → RunFault → Type 0
RunCause answer (BadPick place) = answer ≡ Some (Err place)
RunCause answer NoMemory = ⊤
