-- What a tree means is what the place means that it leads to.
use Rattle.std.proofs.Common.{◌≡◌, ◌∙◌, sym, refl, ℕ, Bool, true, false, List}
use Rattle.std.specs.Prelude.{◌==◌, if◌then◌else◌, Option, Some, None, Result, Ok, Err, slice_get, option_and_then}
use Rattle.std.proofs.lemmas.Option.{none-some}
use Rattle.mt_packet.specs.Packet.{PacketState}
use Rattle.mt_packet.specs.declared.flow.Flow.{Flow}
use Rattle.mt_pattern.specs.Meaning.{contains_number}
use Rattle.mt_kinds.specs.declared.rewriter.Spec.{Spec}
use Rattle.mt_rewriter.specs.declared.passage.Decision.{Decision}
use Rattle.mt_rewriter.specs.declared.passage.Passage.{Passage}
use Rattle.mt_rewriter.specs.declared.passage.Passage.TheVariants as passage
use Rattle.mt_chain.specs.Run.{Answer, Run, IsThere}
use Rattle.mt_terms.specs.Terms.{value_of}
use Rattle.mt_terms.specs.Trees.{TreeForm, BranchForms, OpForm, leaf, drop, test, none, branch}
use Rattle.mt_terms.specs.Trees.{passage as op}
use Rattle.mt_trees.specs.Meaning.{RewritersState, Under, at_input, by_decision, by_passage, flow_at, meaning_of, meaning_among}
use Rattle.mt_pipeline.specs.Reached.{Place, meant_at, reach_at_input, reach_by_decision, reach_by_passage, reached, reached_among}

module _ (rewriters : RewritersState) (picks : List ℕ) (packet : PacketState) (header : List ℕ) where
  abbrev Meant : Answer Place → Answer Run
  Meant place = meant_at rewriters picks packet header place

  side_ends : (b : Bool) (inside outside : Answer Run) (in_place out_place : Answer Place) → inside ≡ Meant in_place → outside ≡ Meant out_place → (if b then inside else outside) ≡ Meant (if b then in_place else out_place)
  side_ends true inside outside in_place out_place h k = h
  side_ends false inside outside in_place out_place h k = k

  module _ (along : ℕ → Under → Answer Run) (reach : ℕ → Under → Answer Place) (same : (out : ℕ) (under : Under) → along out under ≡ Meant (reach out under)) (under : Under) where
    passage_ends : (flow : Flow) (decision : Decision) (made : Passage)
        → by_passage rewriters picks packet header along under flow decision made ≡ Meant (reach_by_passage rewriters picks packet header reach under flow decision made)
    unfolding meaning_of
    passage_ends flow decision (passage.Rewritten meeting) = same _ _
    passage_ends flow decision (passage.Passed out) = same _ _
    passage_ends flow decision (passage.Dropped why) = refl

    decision_ends : (flow : Flow) (result : Result Decision ℕ)
        → by_decision rewriters picks packet header along under flow result ≡ Meant (reach_by_decision rewriters picks packet header reach under flow result)
    decision_ends flow (Ok decision) = passage_ends flow decision decision.passage
    decision_ends flow (Err pick) = refl

    input_ends : (code : OpForm) (found : Option Spec)
        → at_input rewriters picks packet header along code under found ≡ Meant (reach_at_input rewriters picks packet header reach code under found)
    input_ends code None = refl
    input_ends code (Some spec) = decision_ends (flow_at rewriters picks packet header code under) _

    element_ends : (code : OpForm) (found : Option (List Spec))
        → option_and_then (λ specs. at_input rewriters picks packet header along code under (slice_get specs code.input)) found
        ≡ Meant (option_and_then (λ specs. reach_at_input rewriters picks packet header reach code under (slice_get specs code.input)) found)
    element_ends code None = refl
    element_ends code (Some specs) = input_ends code (slice_get specs code.input)

  mutual
    unfolding meaning_of reached

    pub tree_ends : (tree : TreeForm) (under : Under) → meaning_of rewriters picks packet header tree under ≡ meant_at rewriters picks packet header (reached rewriters picks packet header tree under)
    tree_ends (leaf rewrite device) under = refl
    tree_ends (drop why) under = refl
    tree_ends (test term span inside outside) under =
        side_ends (contains_number span (value_of term header under.passed)) (meaning_of rewriters picks packet header inside under) (meaning_of rewriters picks packet header outside under)
        (reached rewriters picks packet header inside under) (reached rewriters picks packet header outside under) (tree_ends inside under) (tree_ends outside under)
    tree_ends (op code branches) under =
        element_ends (meaning_among rewriters picks packet header branches) (reached_among rewriters picks packet header branches) (branches_end branches) under code (slice_get rewriters.specs code.element)

    branches_end : (branches : BranchForms) (out : ℕ) (under : Under)
        → meaning_among rewriters picks packet header branches out under ≡ meant_at rewriters picks packet header (reached_among rewriters picks packet header branches out under)
    branches_end none out under = refl
    branches_end (branch own tree rest) out under =
        side_ends (own == out) (meaning_of rewriters picks packet header tree under) (meaning_among rewriters picks packet header rest out under)
        (reached rewriters picks packet header tree under) (reached_among rewriters picks packet header rest out under) (tree_ends tree under) (branches_end rest out under)

  -- where there is a meaning there is a place
  pub there_reached : (found : Answer Place) (answer : Answer Run) → answer ≡ meant_at rewriters picks packet header found → IsThere answer → IsThere found
  there_reached None answer is h = absurd (none-some h.0 (sym is ∙ h.1))
  there_reached (Some place) answer is h = (place, refl)
