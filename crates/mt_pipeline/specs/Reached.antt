-- Where the meaning of a tree ends: the leaf or the drop, and what is known there; or the place of the pick that is wrong.
-- It has the shape of the meaning.
use Rattle.std.specs.Prelude.{ℕ, ◌==◌, if◌then◌else◌, List, length, Option, Some, None, Result, Ok, Err, slice_get, option_and_then}
use Rattle.mt_packet.specs.Packet.{PacketState}
use Rattle.mt_packet.specs.declared.flow.Flow.{Flow}
use Rattle.mt_pattern.specs.Meaning.{contains_number}
use Rattle.mt_kinds.specs.declared.rewriter.Spec.{Spec}
use Rattle.mt_rewriter.specs.Passages.{decide_for, remembered}
use Rattle.mt_rewriter.specs.declared.passage.Decision.{Decision}
use Rattle.mt_rewriter.specs.declared.passage.Passage.{Passage}
use Rattle.mt_rewriter.specs.declared.passage.Passage.TheVariants as passage
use Rattle.mt_chain.specs.Run.{Answer, Run}
use Rattle.mt_terms.specs.Terms.{value_of}
use Rattle.mt_terms.specs.Trees.{TreeForm, BranchForms, OpForm, leaf, drop, test, none, branch}
use Rattle.mt_terms.specs.Trees.{passage as op}
use Rattle.mt_trees.specs.Meaning.{RewritersState, Under, behind, flow_at, meaning_of}

-- the leaf or the drop, and what is known there
abbrev pub Place : Type 0
Place = TreeForm × Under

-- behind a passage at which the packet is dropped
abbrev pub dropped_at : Under → Decision → Under
dropped_at under decision = record { passed = under.passed; tables = remembered decision under.tables; used = decision.used }

-- how many fields are written there
abbrev pub writes_of : TreeForm → ℕ
writes_of (leaf rewrite device) = length rewrite.writes
writes_of (drop why) = 0
writes_of (test term span inside outside) = 0
writes_of (op code branches) = 0

module _ (rewriters : RewritersState) (picks : List ℕ) (packet : PacketState) (header : List ℕ) where
  -- ---- a passage

  abbrev pub reach_by_passage : (ℕ → Under → Answer Place) → Under → Flow → Decision → Passage → Answer Place
  reach_by_passage along under flow decision (passage.Rewritten meeting) = along meeting.output (behind rewriters picks packet header under decision meeting.after)
  reach_by_passage along under flow decision (passage.Passed out) = along out (behind rewriters picks packet header under decision flow)
  reach_by_passage along under flow decision (passage.Dropped why) = Some (Ok (drop why, dropped_at under decision))

  abbrev pub reach_by_decision : (ℕ → Under → Answer Place) → Under → Flow → Result Decision ℕ → Answer Place
  reach_by_decision along under flow (Ok decision) = reach_by_passage along under flow decision decision.passage
  reach_by_decision along under flow (Err place) = Some (Err place)

  abbrev pub reach_at_input : (ℕ → Under → Answer Place) → OpForm → Under → Option Spec → Answer Place
  reach_at_input along code under None = None
  reach_at_input along code under (Some spec) =
      reach_by_decision along under (flow_at rewriters picks packet header code under)
      (decide_for rewriters.mappers rewriters.pools picks under.tables code.element code.input under.used spec (Some (flow_at rewriters picks packet header code under)))

  -- ---- a tree

  unfoldable mutual
    pub reached : TreeForm → Under → Answer Place
    reached (leaf rewrite device) under = Some (Ok (leaf rewrite device, under))
    reached (drop why) under = Some (Ok (drop why, under))
    reached (test term span inside outside) under = if contains_number span (value_of term header under.passed) then reached inside under else reached outside under
    reached (op code branches) under =
        option_and_then (λ specs. reach_at_input (reached_among branches) code under (slice_get specs code.input)) (slice_get rewriters.specs code.element)

    pub reached_among : BranchForms → ℕ → Under → Answer Place
    reached_among none out under = None
    reached_among (branch own tree rest) out under = if own == out then reached tree under else reached_among rest out under

  -- what the place that is reached means
  abbrev pub meant_at : Answer Place → Answer Run
  meant_at None = None
  meant_at (Some (Ok place)) = meaning_of rewriters picks packet header place.0 place.1
  meant_at (Some (Err pick)) = Some (Err pick)
