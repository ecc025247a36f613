-- What a tree means: what becomes of a frame whose header it is the tree of. It has the shape of the run of a packet. And
-- what serving a packet by a tree asks for.
use Rattle.std.specs.Prelude.{◌≡◌, drop as left, ℕ, ◌≤◌, ◌==◌, Bool, true, false, if◌then◌else◌, List, [], ◌∷◌, ◌++◌, map, length, Option, Some, None, Result, Ok, Err, slice_get, option_and_then}
use Rattle.mt_packet.specs.Header.{field_of}
use Rattle.mt_packet.specs.Packet.{PacketState, with_field, checked, CanWrite, IsChecked}
use Rattle.mt_packet.specs.declared.field.Field.TheVariants as of
use Rattle.mt_packet.specs.declared.flow.Flow.{Flow}
use Rattle.mt_pattern.specs.Meaning.{contains_number}
use Rattle.mt_kinds.specs.declared.rewriter.Pool.{Pool}
use Rattle.mt_kinds.specs.declared.rewriter.Spec.{Spec}
use Rattle.mt_kinds.specs.declared.rewriter.Template.{Template}
use Rattle.mt_elements.specs.ChainState.{ChainState, specs_in, mappers_of}
use Rattle.mt_rewriter.specs.Mappings.{TablesState}
use Rattle.mt_rewriter.specs.Passages.{decide_for, remembered}
use Rattle.mt_rewriter.specs.declared.passage.Decision.{Decision}
use Rattle.mt_rewriter.specs.declared.passage.Passage.{Passage}
use Rattle.mt_rewriter.specs.declared.passage.Passage.TheVariants as passage
use Rattle.mt_chain.specs.Run.{Run, Answer, stamped_of}
use Rattle.mt_chain.specs.declared.run.Fate.{Fate}
use Rattle.mt_chain.specs.declared.run.Fate.TheVariants as fate
use Rattle.mt_terms.specs.Terms.{value_of, passages_of}
use Rattle.mt_terms.specs.Trees.{TreeForm, BranchForms, OpForm, RewriteForm, leaf, drop, test, none, branch}
use Rattle.mt_terms.specs.Trees.{passage as op}
use Rattle.mt_terms.specs.Writes.{WriteForm}
use Rattle.mt_trees.specs.Ranges.{FlowFits}

-- what a tree needs of a chain: the specifications of its elements, the patterns of its mappers, and its pools
pub record RewritersState : Type 0 where
  pub specs : List (List Spec)
  pub mappers : List (List Template)
  pub pools : List Pool

-- those of a chain
abbrev pub rewriters_of : ChainState → RewritersState
rewriters_of chain = record { specs = map specs_in chain.kinds; mappers = mappers_of chain.kinds; pools = chain.pools }

-- what changes on the way: the flows behind the passages so far, the tables, and how many picks were taken
pub record Under : Type 0 where
  pub passed : List Flow
  pub tables : TablesState
  pub used : ℕ

-- before the first passage
abbrev pub first_under : TablesState → Under
first_under tables = record { passed = []; tables = tables; used = 0 }

-- ---- a leaf

abbrev pub trimmed : Bool → PacketState → PacketState
trimmed true packet = checked packet
trimmed false packet = packet

abbrev pub write_on : List ℕ → List Flow → PacketState → WriteForm → PacketState
write_on header passed packet write = with_field packet write.field (value_of write.term header passed)

-- with one write for each term, in their order
abbrev pub written_all : List ℕ → List Flow → List WriteForm → PacketState → PacketState
written_all header passed [] packet = packet
written_all header passed (write ∷ writes) packet = written_all header passed writes (write_on header passed packet write)

-- the frame as it arrived, first checked where it is trimmed, then with its writes, by ascending field
abbrev pub rewritten : List ℕ → List Flow → RewriteForm → PacketState → PacketState
rewritten header passed rewrite packet = written_all header passed rewrite.writes (trimmed rewrite.trim packet)

-- each field may be written with the value of its term
abbrev pub CanWriteAll : List ℕ → List Flow → List WriteForm → PacketState → Type 0
CanWriteAll header passed [] packet = Unit {0}
CanWriteAll header passed (write ∷ writes) packet =
    (passages_of write.term ≤ length passed) × CanWrite packet write.field (value_of write.term header passed) × CanWriteAll header passed writes packet

-- such a rewrite can be made: only a valid packet is trimmed
pub record CanRewrite (header : List ℕ) (passed : List Flow) (rewrite : RewriteForm) (packet : PacketState) : Type 0 where
  pub valid : rewrite.trim ≡ true → IsChecked packet
  pub allowed : CanWriteAll header passed rewrite.writes (trimmed rewrite.trim packet)

-- one of two sides, by a test
abbrev pub OfSide : Bool → Type 0 → Type 0 → Type 0
OfSide true inside outside = inside
OfSide false inside outside = outside

module _ (rewriters : RewritersState) (picks : List ℕ) (packet : PacketState) (header : List ℕ) where
  abbrev pub ends_as : Fate → Under → Answer Run
  ends_as fate under = Some (Ok (record { fate = fate; tables = under.tables; picks = left under.used picks }))

  -- ---- a passage

  -- the flow that arrives at it
  abbrev pub flow_at : OpForm → Under → Flow
  flow_at code under = record {
    proto = field_of header of.Proto;
    sa = value_of code.sa header under.passed;
    sp = value_of code.sp header under.passed;
    da = value_of code.da header under.passed;
    dp = value_of code.dp header under.passed;
  }

  -- what is known behind it
  abbrev pub behind : Under → Decision → Flow → Under
  behind under decision flow = record { passed = under.passed ++ flow ∷ []; tables = remembered decision under.tables; used = decision.used }

  -- the branch of the output by which the packet leaves
  abbrev pub by_passage : (ℕ → Under → Answer Run) → Under → Flow → Decision → Passage → Answer Run
  by_passage along under flow decision (passage.Rewritten meeting) = along meeting.output (behind under decision meeting.after)
  by_passage along under flow decision (passage.Passed out) = along out (behind under decision flow)
  by_passage along under flow decision (passage.Dropped why) = ends_as (fate.Dropped why) (behind under decision flow)

  abbrev pub by_decision : (ℕ → Under → Answer Run) → Under → Flow → Result Decision ℕ → Answer Run
  by_decision along under flow (Ok decision) = by_passage along under flow decision decision.passage
  by_decision along under flow (Err place) = Some (Err place)

  abbrev pub at_input : (ℕ → Under → Answer Run) → OpForm → Under → Option Spec → Answer Run
  at_input along code under None = None
  at_input along code under (Some spec) =
      by_decision along under (flow_at code under)
      (decide_for rewriters.mappers rewriters.pools picks under.tables code.element code.input under.used spec (Some (flow_at code under)))

  -- ---- a tree

  unfoldable mutual
    pub meaning_of : TreeForm → Under → Answer Run
    meaning_of (leaf rewrite device) under = ends_as (fate.Sent device (stamped_of (rewritten header under.passed rewrite packet))) under
    meaning_of (drop why) under = ends_as (fate.Dropped why) under
    meaning_of (test term span inside outside) under = if contains_number span (value_of term header under.passed) then meaning_of inside under else meaning_of outside under
    meaning_of (op code branches) under =
        option_and_then (λ specs. at_input (meaning_among branches) code under (slice_get specs code.input)) (slice_get rewriters.specs code.element)

    pub meaning_among : BranchForms → ℕ → Under → Answer Run
    meaning_among none out under = None
    meaning_among (branch own tree rest) out under = if own == out then meaning_of tree under else meaning_among rest out under

  -- ---- what serving asks for, along the way that the meaning takes

  -- at a passage: the flows of its terms are known, and the flow that arrives fits its types
  pub record CanArrive (code : OpForm) (under : Under) : Type 0 where
    pub sa : passages_of code.sa ≤ length under.passed
    pub sp : passages_of code.sp ≤ length under.passed
    pub da : passages_of code.da ≤ length under.passed
    pub dp : passages_of code.dp ≤ length under.passed
    pub protocol : field_of header of.Proto ≤ 255
    pub fits : FlowFits (flow_at code under)

  -- behind it, on the branch of the output by which the packet leaves
  abbrev pub ServesPassage : (ℕ → Under → Type 0) → Under → Flow → Decision → Passage → Type 0
  ServesPassage Along under flow decision (passage.Rewritten meeting) = Along meeting.output (behind under decision meeting.after)
  ServesPassage Along under flow decision (passage.Passed out) = Along out (behind under decision flow)
  ServesPassage Along under flow decision (passage.Dropped why) = Unit {0}

  abbrev pub ServesDecision : (ℕ → Under → Type 0) → Under → Flow → Result Decision ℕ → Type 0
  ServesDecision Along under flow (Ok decision) = ServesPassage Along under flow decision decision.passage
  ServesDecision Along under flow (Err place) = Unit {0}

  abbrev pub ServesInput : (ℕ → Under → Type 0) → OpForm → Under → Option Spec → Type 0
  ServesInput Along code under None = Unit {0}
  ServesInput Along code under (Some spec) =
      ServesDecision Along under (flow_at code under)
      (decide_for rewriters.mappers rewriters.pools picks under.tables code.element code.input under.used spec (Some (flow_at code under)))

  abbrev pub ServesElement : (ℕ → Under → Type 0) → OpForm → Under → Option (List Spec) → Type 0
  ServesElement Along code under None = Unit {0}
  ServesElement Along code under (Some specs) = ServesInput Along code under (slice_get specs code.input)

  -- at a leaf: no VLAN tag is taken off or put on, and the rewrite can be made; at a test: the flows of its term are known
  unfoldable mutual
    pub CanServe : TreeForm → Under → Type 0
    CanServe (leaf rewrite device) under = (rewrite.untag ≡ false) × (rewrite.tag ≡ None) × CanRewrite header under.passed rewrite packet
    CanServe (drop why) under = Unit {0}
    CanServe (test term span inside outside) under =
        (passages_of term ≤ length under.passed) × OfSide (contains_number span (value_of term header under.passed)) (CanServe inside under) (CanServe outside under)
    CanServe (op code branches) under = CanArrive code under × ServesElement (CanServeAmong branches) code under (slice_get rewriters.specs code.element)

    pub CanServeAmong : BranchForms → ℕ → Under → Type 0
    CanServeAmong none out under = Unit {0}
    CanServeAmong (branch own tree rest) out under = OfSide (own == out) (CanServe tree under) (CanServeAmong rest out under)
