-- A walk down a tree: where it stands between two steps, and how it ends.
use Rattle.std.specs.Prelude.{◌≡◌, ◌<◌, ◌≤◌, ⊤, ℕ, suc, ◌+◌, ◌==◌, if◌then◌else◌, List, [], ◌∷◌, ◌++◌, map, length, Option, Some, None, Ok, slice_get, option_and_then}
use Rattle.mt_packet.specs.Header.{field_of}
use Rattle.mt_packet.specs.Packet.{PacketState}
use Rattle.mt_packet.specs.declared.field.Field.TheVariants as of
use Rattle.mt_packet.specs.declared.flow.Flow.{Flow}
use Rattle.mt_kinds.specs.declared.rewriter.Spec.{Spec}
use Rattle.mt_elements.specs.declared.chain.Rewriters.{Rewriters}
use Rattle.mt_ledger.specs.Ledger.{LedgerState}
use Rattle.mt_flow.specs.declared.mapping.Mapping.{Mapping}
use Rattle.mt_rewriter.specs.declared.passage.Passage.{Passage}
use Rattle.mt_rewriter.specs.declared.passage.Passage.TheVariants as passage
use Rattle.mt_chain.specs.Run.{IsThere}
use Rattle.mt_terms.specs.Terms.{value_of, passages_of}
use Rattle.mt_terms.specs.Trees.{TreeForm, BranchForms, OpForm, leaf, drop, test, none, branch, rewrite_form, tree_form}
use Rattle.mt_terms.specs.Trees.{passage as op}
use Rattle.mt_trees.specs.Meaning.{RewritersState, Under, CanServe, meaning_of}
use Rattle.mt_trees.specs.Ranges.{FlowFits}
use Rattle.mt_pipeline.specs.Passing.{IsStarved}
use Rattle.mt_pipeline.specs.Reached.{reached}
use Rattle.mt_pipeline.specs.Standing.{tables_of}
use Rattle.mt_pipeline.specs.declared.resources.Resources.{Resources}
use Rattle.mt_pipeline.specs.declared.steps.End.{End}
use Rattle.mt_pipeline.specs.declared.steps.End.TheVariants.{Leaf, Drop, Starved}
use Rattle.mt_pipeline.specs.declared.steps.Next.{Next}
use Rattle.mt_pipeline.specs.declared.steps.Next.TheVariants.{On, Over}

-- what a tree needs of rewriters
abbrev pub state_of : Rewriters → RewritersState
state_of rewriters = record { specs = map (λ specs. specs.items) rewriters.specs.items; mappers = rewriters.mappers.items; pools = rewriters.pools.items }

-- the specification of an input of an element
abbrev pub spec_of : RewritersState → ℕ → ℕ → Option Spec
spec_of rewriters element input = option_and_then (λ specs. slice_get specs input) (slice_get rewriters.specs element)

-- the tree of an output
abbrev pub branch_at : BranchForms → ℕ → Option TreeForm
branch_at none out = None
branch_at (branch own tree rest) out = if own == out then Some tree else branch_at rest out

-- how large a tree is
unfoldable mutual
  pub size_of : TreeForm → ℕ
  size_of (leaf rewrite device) = 0
  size_of (drop why) = 0
  size_of (test term span inside outside) = suc (size_of inside + size_of outside)
  size_of (op code branches) = suc (sizes_of branches)

  pub sizes_of : BranchForms → ℕ
  sizes_of none = 0
  sizes_of (branch own tree rest) = size_of tree + sizes_of rest

-- what is known where these flows passed, by the mappings and the turns so far, behind so many picks
abbrev pub known : List Flow → List Mapping → LedgerState → List ℕ → Under
known passed mappings ledger picks = record { passed = passed; tables = tables_of mappings ledger; used = length picks }

-- ---- a passage

-- the flow that arrives at it
abbrev pub arriving : List ℕ → List Flow → OpForm → Flow
arriving header passed code = record {
  proto = field_of header of.Proto;
  sa = value_of code.sa header passed;
  sp = value_of code.sp header passed;
  da = value_of code.da header passed;
  dp = value_of code.dp header passed;
}

-- its terms can be worked out, and fit its types
pub record Arrives (header : List ℕ) (passed : List Flow) (code : OpForm) : Type 0 where
  pub sa : passages_of code.sa ≤ length passed
  pub sp : passages_of code.sp ≤ length passed
  pub da : passages_of code.da ≤ length passed
  pub dp : passages_of code.dp ≤ length passed
  pub protocol : field_of header of.Proto ≤ 255
  pub fits : FlowFits (arriving header passed code)

-- the walk goes on by that tree
abbrev pub GoesBy : Option TreeForm → Next → Type 0
GoesBy found (On tree) = found ≡ Some (tree_form tree.now)
GoesBy found (Over end) = ⊥

-- the packet is dropped, or there is a tree behind the output by which it leaves
abbrev pub HasBranch : BranchForms → Passage → Type 0
HasBranch branches (passage.Rewritten meeting) = IsThere (branch_at branches meeting.output)
HasBranch branches (passage.Passed out) = IsThere (branch_at branches out)
HasBranch branches (passage.Dropped why) = ⊤

-- the walk goes on by the tree of the output by which the packet leaves, and its flow is put behind those that passed
abbrev pub GoesBehind : BranchForms → Flow → List Flow → List Flow → Passage → Next → Type 0
GoesBehind branches flow passed passed' (passage.Rewritten meeting) next = (passed' ≡ passed ++ meeting.after ∷ []) × GoesBy (branch_at branches meeting.output) next
GoesBehind branches flow passed passed' (passage.Passed out) next = (passed' ≡ passed ++ flow ∷ []) × GoesBy (branch_at branches out) next
GoesBehind branches flow passed passed' (passage.Dropped why) next = (passed' ≡ passed) × (next ≡ Over (Drop why))

-- ---- a tree

-- a packet can be served by the tree, and has a meaning, with the picks so far and whatever picks follow
pub record CanWalk (rewriters : RewritersState) (picks header : List ℕ) (tree : TreeForm) (under : Under) : Type 0 where
  pub packet : PacketState
  pub serves : (more : List ℕ) → CanServe rewriters (picks ++ more) packet header tree under
  pub there : (more : List ℕ) → IsThere (meaning_of rewriters (picks ++ more) packet header tree under)

-- the walk goes on by another tree: with the picks so far and whatever picks follow, both end in one place, and what can
-- be served by the one can be served by the other
pub record LeadsTo (rewriters : RewritersState) (picks header : List ℕ) (tree : TreeForm) (under : Under) (tree' : TreeForm) (under' : Under) : Type 0 where
  pub ends : (packet : PacketState) (more : List ℕ) → reached rewriters (picks ++ more) packet header tree under ≡ reached rewriters (picks ++ more) packet header tree' under'
  pub serves : (packet : PacketState) (more : List ℕ) → CanServe rewriters (picks ++ more) packet header tree under → CanServe rewriters (picks ++ more) packet header tree' under'

-- the walk is over in a place
pub record EndsIn (rewriters : RewritersState) (picks header : List ℕ) (tree : TreeForm) (under : Under) (place : TreeForm) (under' : Under) : Type 0 where
  pub ends : (packet : PacketState) (more : List ℕ) → reached rewriters (picks ++ more) packet header tree under ≡ Some (Ok (place, under'))
  pub serves : (packet : PacketState) (more : List ℕ) → CanServe rewriters (picks ++ more) packet header tree under → CanServe rewriters (picks ++ more) packet header place under'

-- how a walk ends
abbrev pub EndsWalk : Rewriters → List ℕ → List ℕ → List ℕ → TreeForm → Under → Resources → LedgerState → Under → End → Type 0
EndsWalk rewriters gone picks header tree under resources ledger under' (Leaf rewrite device) = EndsIn (state_of rewriters) picks header tree under (leaf (rewrite_form rewrite.now) device) under'
EndsWalk rewriters gone picks header tree under resources ledger under' (Drop why) = EndsIn (state_of rewriters) picks header tree under (drop why) under'
EndsWalk rewriters gone picks header tree under resources ledger under' (Starved pool) = IsStarved rewriters gone resources ledger pool

-- how a step ends
abbrev pub EndsStep : Rewriters → List ℕ → List ℕ → List ℕ → TreeForm → Under → Resources → LedgerState → Under → Next → Type 0
EndsStep rewriters gone picks header tree under resources ledger under' (On next) =
    LeadsTo (state_of rewriters) picks header tree under (tree_form next.now) under' × (size_of (tree_form next.now) < size_of tree)
EndsStep rewriters gone picks header tree under resources ledger under' (Over end) = EndsWalk rewriters gone picks header tree under resources ledger under' end
