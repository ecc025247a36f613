-- The branch of an output, and a passage that is decided.
use Rattle.std.proofs.Common.{◌≡◌, ◌∙◌, ap, subst, refl, ℕ, ◌+◌, ◌≤◌, Bool, true, false, List, arith}
use Rattle.std.specs.Prelude.{◌==◌, if◌then◌else◌, Option, Some, None, Ok, slice_get, option_and_then}
use Rattle.std.proofs.lemmas.Option.{none-some, same_Some}
use Rattle.mt_packet.specs.Packet.{PacketState}
use Rattle.mt_kinds.specs.declared.rewriter.Spec.{Spec}
use Rattle.mt_rewriter.specs.Passages.{decide_for}
use Rattle.mt_rewriter.specs.declared.passage.Decision.{Decision}
use Rattle.mt_rewriter.specs.declared.passage.Passage.{Passage}
use Rattle.mt_rewriter.specs.declared.passage.Passage.TheVariants as passage
use Rattle.mt_chain.specs.Run.{IsThere}
use Rattle.mt_terms.specs.Trees.{TreeForm, BranchForms, OpForm, none, branch}
use Rattle.mt_terms.specs.Trees.{passage as op}
use Rattle.mt_trees.specs.Meaning.{RewritersState, Under, CanServe, CanServeAmong, OfSide, ServesDecision, ServesElement, ServesInput, ServesPassage, at_input, by_decision, by_passage, flow_at, meaning_of, meaning_among}
use Rattle.mt_pipeline.specs.Reached.{reach_at_input, reach_by_decision, reach_by_passage, reached, reached_among}
use Rattle.mt_pipeline.specs.Walking.{HasBranch, branch_at, size_of, sizes_of, spec_of}

-- ---- how large a branch is

smaller_of : (b : Bool) (first tree : TreeForm) (rest : BranchForms) (found : Option TreeForm) → (if b then Some first else found) ≡ Some tree → (found ≡ Some tree → size_of tree ≤ sizes_of rest) → size_of tree ≤ size_of first + sizes_of rest
smaller_of true first tree rest found is again = let e = ap size_of (same_Some first tree is) in omega arith
smaller_of false first tree rest found is again = let h = again is in omega arith

pub branch_smaller : (branches : BranchForms) (out : ℕ) (tree : TreeForm) → branch_at branches out ≡ Some tree → size_of tree ≤ sizes_of branches
unfolding size_of
branch_smaller none out tree is = absurd (none-some tree is)
branch_smaller (branch own first rest) out tree is = smaller_of (own == out) first tree rest (branch_at rest out) is (branch_smaller rest out tree)

module _ (rewriters : RewritersState) (picks : List ℕ) (packet : PacketState) (header : List ℕ) where
  -- ---- among branches

  reached_of : {A : Type 0} (b : Bool) (first tree : TreeForm) (found : Option TreeForm) (at : TreeForm → A) (other : A) → (if b then Some first else found) ≡ Some tree → (found ≡ Some tree → other ≡ at tree) → (if b then at first else other) ≡ at tree
  reached_of true first tree found at other is again = ap at (same_Some first tree is)
  reached_of false first tree found at other is again = again is

  pub branch_reached : (branches : BranchForms) (out : ℕ) (tree : TreeForm) (under : Under) → branch_at branches out ≡ Some tree
      → reached_among rewriters picks packet header branches out under ≡ reached rewriters picks packet header tree under
  unfolding reached
  branch_reached none out tree under is = absurd (none-some tree is)
  branch_reached (branch own first rest) out tree under is =
      reached_of (own == out) first tree (branch_at rest out) (λ t. reached rewriters picks packet header t under) (reached_among rewriters picks packet header rest out under) is
      (branch_reached rest out tree under)

  serves_of : (b : Bool) (first tree : TreeForm) (found : Option TreeForm) (At : TreeForm → Type 0) (Other : Type 0) → (if b then Some first else found) ≡ Some tree → (found ≡ Some tree → Other → At tree) → OfSide b (At first) Other → At tree
  serves_of true first tree found At Other is again h = subst At (same_Some first tree is) h
  serves_of false first tree found At Other is again h = again is h

  pub branch_serves : (branches : BranchForms) (out : ℕ) (tree : TreeForm) (under : Under) → branch_at branches out ≡ Some tree
      → CanServeAmong rewriters picks packet header branches out under → CanServe rewriters picks packet header tree under
  unfolding CanServe
  branch_serves none out tree under is h = absurd (none-some tree is)
  branch_serves (branch own first rest) out tree under is h =
      serves_of (own == out) first tree (branch_at rest out) (λ t. CanServe rewriters picks packet header t under) (CanServeAmong rewriters picks packet header rest out under) is
      (branch_serves rest out tree under) h

  there_of : {A : Type 0} (b : Bool) (first : TreeForm) (found : Option TreeForm) (here other : Option A) → (IsThere other → IsThere found) → IsThere (if b then here else other) → IsThere (if b then Some first else found)
  there_of true first found here other again h = (first, refl)
  there_of false first found here other again h = again h

  branch_there : (branches : BranchForms) (out : ℕ) (under : Under) → IsThere (meaning_among rewriters picks packet header branches out under) → IsThere (branch_at branches out)
  unfolding meaning_of
  branch_there none out under h = absurd (none-some h.0 h.1)
  branch_there (branch own first rest) out under h =
      there_of (own == out) first (branch_at rest out) (meaning_of rewriters picks packet header first under) (meaning_among rewriters picks packet header rest out under) (branch_there rest out under) h

  -- ---- a passage

  module _ (code : OpForm) (branches : BranchForms) (under : Under) where
    input_there : (found : Option Spec) → IsThere (at_input rewriters picks packet header (meaning_among rewriters picks packet header branches) code under found) → IsThere found
    input_there None h = absurd (none-some h.0 h.1)
    input_there (Some spec) h = (spec, refl)

    element_there : (found : Option (List Spec)) → IsThere (option_and_then (λ specs. at_input rewriters picks packet header (meaning_among rewriters picks packet header branches) code under (slice_get specs code.input)) found)
        → IsThere (option_and_then (λ specs. slice_get specs code.input) found)
    element_there None h = absurd (none-some h.0 h.1)
    element_there (Some specs) h = input_there (slice_get specs code.input) h

    pub spec_there : IsThere (meaning_of rewriters picks packet header (op code branches) under) → IsThere (spec_of rewriters code.element code.input)
    unfolding meaning_of
    spec_there h = element_there (slice_get rewriters.specs code.element) h

    module _ (spec : Spec) (spec_is : spec_of rewriters code.element code.input ≡ Some spec) (decision : Decision)
        (decided : decide_for rewriters.mappers rewriters.pools picks under.tables code.element code.input under.used spec (Some (flow_at rewriters picks packet header code under)) ≡ Ok decision) where
      element_reached : (found : Option (List Spec)) → option_and_then (λ specs. slice_get specs code.input) found ≡ Some spec
          → option_and_then (λ specs. reach_at_input rewriters picks packet header (reached_among rewriters picks packet header branches) code under (slice_get specs code.input)) found
          ≡ reach_by_passage rewriters picks packet header (reached_among rewriters picks packet header branches) under (flow_at rewriters picks packet header code under) decision decision.passage
      element_reached None is = absurd (none-some spec is)
      element_reached (Some specs) is =
          ap (reach_at_input rewriters picks packet header (reached_among rewriters picks packet header branches) code under) is
          ∙ ap (reach_by_decision rewriters picks packet header (reached_among rewriters picks packet header branches) under (flow_at rewriters picks packet header code under)) decided

      pub op_reached : reached rewriters picks packet header (op code branches) under
          ≡ reach_by_passage rewriters picks packet header (reached_among rewriters picks packet header branches) under (flow_at rewriters picks packet header code under) decision decision.passage
      unfolding reached
      op_reached = element_reached (slice_get rewriters.specs code.element) spec_is

      element_means : (found : Option (List Spec)) → option_and_then (λ specs. slice_get specs code.input) found ≡ Some spec
          → option_and_then (λ specs. at_input rewriters picks packet header (meaning_among rewriters picks packet header branches) code under (slice_get specs code.input)) found
          ≡ by_passage rewriters picks packet header (meaning_among rewriters picks packet header branches) under (flow_at rewriters picks packet header code under) decision decision.passage
      element_means None is = absurd (none-some spec is)
      element_means (Some specs) is =
          ap (at_input rewriters picks packet header (meaning_among rewriters picks packet header branches) code under) is
          ∙ ap (by_decision rewriters picks packet header (meaning_among rewriters picks packet header branches) under (flow_at rewriters picks packet header code under)) decided

      passage_there : (made : Passage) → IsThere (by_passage rewriters picks packet header (meaning_among rewriters picks packet header branches) under (flow_at rewriters picks packet header code under) decision made) → HasBranch branches made
      passage_there (passage.Rewritten meeting) h = branch_there branches meeting.output _ h
      passage_there (passage.Passed out) h = branch_there branches out _ h
      passage_there (passage.Dropped why) h = tt

      pub has_branch : IsThere (meaning_of rewriters picks packet header (op code branches) under) → HasBranch branches decision.passage
      unfolding meaning_of
      has_branch h = passage_there decision.passage (subst IsThere (element_means (slice_get rewriters.specs code.element) spec_is) h)

      element_serves : (found : Option (List Spec)) → option_and_then (λ specs. slice_get specs code.input) found ≡ Some spec
          → ServesElement rewriters picks packet header (CanServeAmong rewriters picks packet header branches) code under found
          → ServesPassage rewriters picks packet header (CanServeAmong rewriters picks packet header branches) under (flow_at rewriters picks packet header code under) decision decision.passage
      element_serves None is h = absurd (none-some spec is)
      element_serves (Some specs) is h =
          subst (ServesDecision rewriters picks packet header (CanServeAmong rewriters picks packet header branches) under (flow_at rewriters picks packet header code under)) decided
          (subst (ServesInput rewriters picks packet header (CanServeAmong rewriters picks packet header branches) code under) is h)

      pub op_serves : CanServe rewriters picks packet header (op code branches) under
          → ServesPassage rewriters picks packet header (CanServeAmong rewriters picks packet header branches) under (flow_at rewriters picks packet header code under) decision decision.passage
      unfolding CanServe
      op_serves h = element_serves (slice_get rewriters.specs code.element) spec_is h.1
