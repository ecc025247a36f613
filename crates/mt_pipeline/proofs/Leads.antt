-- Where one step of a walk leads.
use Rattle.std.proofs.Common.{◌≡◌, ◌∙◌, sym, ap, subst, refl, ℕ, ◌+◌, ◌<◌, ◌≤◌, Bool, true, false, List, [], ◌∷◌, ◌++◌, length, map, arith, append_assoc}
use Rattle.std.specs.Prelude.{if◌then◌else◌, Some, Ok}
use Rattle.std.specs.Global.{Vec, Box}
use Rattle.mt_packet.specs.Packet.{PacketState}
use Rattle.mt_packet.specs.declared.cause.Cause.{Cause}
use Rattle.mt_packet.specs.declared.flow.Flow.{Flow}
use Rattle.mt_packet.specs.declared.span.Span.{Span}
use Rattle.mt_pattern.specs.Meaning.{contains_number}
use Rattle.mt_kinds.specs.declared.rewriter.Spec.{Spec}
use Rattle.mt_elements.specs.declared.chain.Rewriters.{Rewriters}
use Rattle.mt_ledger.specs.Ledger.{LedgerState}
use Rattle.mt_rewriter.specs.declared.passage.Passage.{Passage}
use Rattle.mt_rewriter.specs.declared.passage.Passage.TheVariants as passage
use Rattle.mt_terms.specs.Terms.{TermForm, value_of, passages_of, term_form}
use Rattle.mt_terms.specs.Trees.{TreeForm, BranchForms, OpForm, RewriteForm, leaf, drop, test, branch_form, branches_of, layer_form, op_form, rewrite_form, tree_form}
use Rattle.mt_terms.specs.Trees.{passage as op}
use Rattle.mt_terms.specs.declared.term.Term.{Term}
use Rattle.mt_terms.specs.declared.tree.OpCode.{OpCode}
use Rattle.mt_terms.specs.declared.tree.Rewrite.{Rewrite}
use Rattle.mt_terms.specs.declared.tree.Tree.{Tree, fold-roll-Tree}
use Rattle.mt_terms.specs.declared.tree.Tree.TheVariants.{Leaf, Drop, Test, Op}
use Rattle.mt_terms.specs.declared.tree.Tree.TheOpen.{Tree-F}
use Rattle.mt_trees.specs.Meaning.{RewritersState, Under, CanServe, CanServeAmong, OfSide, ServesPassage, meaning_of}
use Rattle.mt_pipeline.proofs.Branches.{branch_reached, branch_serves, branch_smaller, has_branch, op_reached, op_serves, spec_there}
use Rattle.mt_pipeline.specs.Passing.{EndsPassage, HasPassed, IsDecided}
use Rattle.mt_pipeline.specs.Reached.{Place, reach_by_passage, reached, reached_among}
use Rattle.mt_pipeline.specs.Standing.{tables_of}
use Rattle.mt_pipeline.specs.Walking.{Arrives, CanWalk, EndsIn, EndsStep, GoesBehind, GoesBy, HasBranch, LeadsTo, arriving, branch_at, known, size_of, spec_of, state_of}
use Rattle.mt_pipeline.specs.declared.passage.Passed.{Passed}
use Rattle.mt_pipeline.specs.declared.passage.Passed.TheVariants.{Through}
use Rattle.mt_pipeline.specs.declared.resources.Resources.{Resources}
use Rattle.mt_pipeline.specs.declared.steps.End.TheVariants as end
use Rattle.mt_pipeline.specs.declared.steps.Next.{Next}
use Rattle.mt_pipeline.specs.declared.steps.Next.TheVariants.{On, Over}
use Rattle.mt_chain.specs.Run.{Answer, IsThere}
use Rattle.mt_rewriter.specs.Passages.{remembered}

-- ---- plain forms of trees

pub form-leaf : (rewrite : Rewrite) (device : ℕ) → tree_form (Leaf rewrite device) ≡ leaf (rewrite_form rewrite) device
unfolding Rattle.mt_terms.specs.declared.tree.Tree.TheViews.roll-Tree denote.Hole.Carrier.roll
form-leaf rewrite device = fold-roll-Tree TreeForm layer_form (Tree-F.Leaf rewrite device)

pub form-drop : (why : Cause) → tree_form (Drop why) ≡ drop why
unfolding Rattle.mt_terms.specs.declared.tree.Tree.TheViews.roll-Tree denote.Hole.Carrier.roll
form-drop why = fold-roll-Tree TreeForm layer_form (Tree-F.Drop why)

pub form-test : (term : Term) (span : Span) (inside outside : Box Tree) → tree_form (Test term span inside outside) ≡ test (term_form term) span (tree_form inside.value) (tree_form outside.value)
unfolding Rattle.mt_terms.specs.declared.tree.Tree.TheViews.roll-Tree denote.Hole.Carrier.roll
form-test term span inside outside = fold-roll-Tree TreeForm layer_form (Tree-F.Test term span inside outside)

pub form-op : (code : OpCode) (branches : Vec (ℕ × Tree)) → tree_form (Op code branches) ≡ op (op_form code) (branches_of (map branch_form branches.items))
unfolding Rattle.mt_terms.specs.declared.tree.Tree.TheViews.roll-Tree denote.Hole.Carrier.roll
form-op code branches = fold-roll-Tree TreeForm layer_form (Tree-F.Op code branches)

module _ (rewriters : RewritersState) (picks header : List ℕ) (form : TreeForm) (under : Under) where
  -- ---- an end

  pub at_leaf : (rewrite : RewriteForm) (device : ℕ) → form ≡ leaf rewrite device → EndsIn rewriters picks header form under (leaf rewrite device) under
  unfolding reached
  at_leaf rewrite device is = record {
    ends = λ packet more. ap (λ t. reached rewriters (picks ++ more) packet header t under) is;
    serves = λ packet more h. subst (λ t. CanServe rewriters (picks ++ more) packet header t under) is h;
  }

  pub at_drop : (why : Cause) → form ≡ drop why → EndsIn rewriters picks header form under (drop why) under
  unfolding reached
  at_drop why is = record {
    ends = λ packet more. ap (λ t. reached rewriters (picks ++ more) packet header t under) is;
    serves = λ packet more h. subst (λ t. CanServe rewriters (picks ++ more) packet header t under) is h;
  }

  -- ---- a test

  served_test : (term : TermForm) (span : Span) (inside outside : TreeForm) (packet : PacketState) (more : List ℕ) → CanServe rewriters (picks ++ more) packet header (test term span inside outside) under
      → (passages_of term ≤ length under.passed) × OfSide (contains_number span (value_of term header under.passed)) (CanServe rewriters (picks ++ more) packet header inside under) (CanServe rewriters (picks ++ more) packet header outside under)
  unfolding CanServe
  served_test term span inside outside packet more h = h

  pub test_known : (term : TermForm) (span : Span) (inside outside : TreeForm) → form ≡ test term span inside outside → CanWalk rewriters picks header form under → passages_of term ≤ length under.passed
  test_known term span inside outside is can =
      (served_test term span inside outside can.packet [] (subst (λ t. CanServe rewriters (picks ++ []) can.packet header t under) is (can.serves []))).0

  module _ (term : TermForm) (span : Span) (inside outside : TreeForm) (is : form ≡ test term span inside outside) where
    on_side : (holds : Bool) → contains_number span (value_of term header under.passed) ≡ holds → (chosen : TreeForm) → chosen ≡ (if holds then inside else outside)
        → LeadsTo rewriters picks header form under chosen under × (size_of chosen < size_of form)
    unfolding reached size_of
    on_side true e chosen c =
        let s = ap size_of c in
        let f = ap size_of is in (
          record {
            ends = λ packet more. ap (λ t. reached rewriters (picks ++ more) packet header t under) is
                ∙ ap (λ b. if b then reached rewriters (picks ++ more) packet header inside under else reached rewriters (picks ++ more) packet header outside under) e
                ∙ ap (λ t. reached rewriters (picks ++ more) packet header t under) (sym c);
            serves = λ packet more h.
                subst (λ t. CanServe rewriters (picks ++ more) packet header t under) (sym c)
                (subst (λ b. OfSide b (CanServe rewriters (picks ++ more) packet header inside under) (CanServe rewriters (picks ++ more) packet header outside under)) e
                (served_test term span inside outside packet more (subst (λ t. CanServe rewriters (picks ++ more) packet header t under) is h)).1);
          },
          omega arith,
        )
    on_side false e chosen c =
        let s = ap size_of c in
        let f = ap size_of is in (
          record {
            ends = λ packet more. ap (λ t. reached rewriters (picks ++ more) packet header t under) is
                ∙ ap (λ b. if b then reached rewriters (picks ++ more) packet header inside under else reached rewriters (picks ++ more) packet header outside under) e
                ∙ ap (λ t. reached rewriters (picks ++ more) packet header t under) (sym c);
            serves = λ packet more h.
                subst (λ t. CanServe rewriters (picks ++ more) packet header t under) (sym c)
                (subst (λ b. OfSide b (CanServe rewriters (picks ++ more) packet header inside under) (CanServe rewriters (picks ++ more) packet header outside under)) e
                (served_test term span inside outside packet more (subst (λ t. CanServe rewriters (picks ++ more) packet header t under) is h)).1);
          },
          omega arith,
        )

    pub at_test : (chosen : TreeForm) → chosen ≡ (if contains_number span (value_of term header under.passed) then inside else outside) → LeadsTo rewriters picks header form under chosen under × (size_of chosen < size_of form)
    at_test chosen c = on_side (contains_number span (value_of term header under.passed)) refl chosen c

-- ---- a passage

module _ (rewriters : RewritersState) (picks header : List ℕ) (code : OpForm) (branches : BranchForms) (under : Under) (can : CanWalk rewriters picks header (op code branches) under) where
  pub op_spec : IsThere (spec_of rewriters code.element code.input)
  op_spec = spec_there rewriters (picks ++ []) can.packet header code branches under (can.there [])

  pub op_arrives : Arrives header under.passed code
  unfolding CanServe
  op_arrives =
      let arrive = (can.serves []).0 in
      record { sa = arrive.sa; sp = arrive.sp; da = arrive.da; dp = arrive.dp; protocol = arrive.protocol; fits = arrive.fits }

module _ (rewriters : Rewriters) (gone header : List ℕ) (code : OpForm) (branches : BranchForms) (passed : List Flow) (spec : Spec) (flow : Flow) (resources resources' : Resources) (ledger ledger' : LedgerState) (before after : List ℕ)
    (spec_is : spec_of (state_of rewriters) code.element code.input ≡ Some spec) (flow_is : flow ≡ arriving header passed code) where
  abbrev R : RewritersState
  R = state_of rewriters

  abbrev under : Under
  under = known passed resources.store ledger before

  -- the passage that a call tells
  pub told_passage : (ended : Passed) (made : Passage) → ended ≡ Through made → EndsPassage rewriters gone code.element code.input spec flow resources resources' ledger ledger' before after ended
      → HasPassed rewriters code.element code.input spec flow resources resources' ledger ledger' before after made
  told_passage ended made is h = subst (EndsPassage rewriters gone code.element code.input spec flow resources resources' ledger ledger' before after) is h

  -- whatever picks follow
  told : (made : Passage) (has : HasPassed rewriters code.element code.input spec flow resources resources' ledger ledger' before after made) → IsDecided rewriters under.tables code.element code.input spec (arriving header passed code) before after has.decision
  told made has = subst (λ f. IsDecided rewriters under.tables code.element code.input spec f before after has.decision) flow_is has.decided

  pub op_branch : (made : Passage) → HasPassed rewriters code.element code.input spec flow resources resources' ledger ledger' before after made → CanWalk R before header (op code branches) under → (more : List ℕ) → after ≡ before ++ more → HasBranch branches made
  op_branch made has can more after_is =
      let there : IsThere (meaning_of R (after ++ []) can.packet header (op code branches) under) =
      subst (λ l. IsThere (meaning_of R l can.packet header (op code branches) under)) (sym (append_assoc before more []) ∙ ap (λ l. l ++ []) (sym after_is)) (can.there (more ++ [])) in
      subst (HasBranch branches) has.passage_is (has_branch R (after ++ []) can.packet header code branches under spec spec_is has.decision ((told made has).1 []) there)

  module _ (passed' : List Flow) where
    abbrev under' : Under
    under' = known passed' resources'.store ledger' after

    abbrev place : List Flow → Under
    place flows = record { passed = flows; tables = tables_of resources'.store ledger'; used = length after }

    goes_on : (out : ℕ) (flow' : Flow)
        → ((packet : PacketState) (more : List ℕ) → reached R (after ++ more) packet header (op code branches) under ≡ reached_among R (after ++ more) packet header branches out (place (passed ++ flow' ∷ [])))
        → ((packet : PacketState) (more : List ℕ) → CanServe R (after ++ more) packet header (op code branches) under → CanServeAmong R (after ++ more) packet header branches out (place (passed ++ flow' ∷ [])))
        → passed' ≡ passed ++ flow' ∷ [] → (next : Next) → GoesBy (branch_at branches out) next → EndsStep rewriters gone after header (op code branches) under resources' ledger' under' next
    unfolding size_of
    goes_on out flow' ends serves pushed (On tree) found =
        let small = branch_smaller branches out (tree_form tree.now) found in (
          record {
            ends = λ packet more. ends packet more
                ∙ ap (λ l. reached_among R (after ++ more) packet header branches out (place l)) (sym pushed)
                ∙ branch_reached R (after ++ more) packet header branches out (tree_form tree.now) under' found;
            serves = λ packet more h.
                branch_serves R (after ++ more) packet header branches out (tree_form tree.now) under' found
                (subst (λ l. CanServeAmong R (after ++ more) packet header branches out (place l)) (sym pushed) (serves packet more h));
          },
          omega arith,
        )
    goes_on out flow' ends serves pushed (Over e) found = absurd found

    module _ (made : Passage) (has : HasPassed rewriters code.element code.input spec flow resources resources' ledger ledger' before after made) where
      -- what is known behind it
      abbrev made_place : List Flow → Under
      made_place flows = record { passed = flows; tables = remembered has.decision under.tables; used = has.decision.used }

      same_place : (flows : List Flow) → made_place flows ≡ place flows
      same_place flows =
          let t : remembered has.decision under.tables ≡ tables_of resources'.store ledger' = sym has.tables_are in
          let u : has.decision.used ≡ length after = has.decided.0 in
          λ i. record { passed = flows; tables = t i; used = u i }

      abbrev by : (PacketState) → List ℕ → Passage → Answer Place
      by packet more p = reach_by_passage R (after ++ more) packet header (reached_among R (after ++ more) packet header branches) under (arriving header passed code) has.decision p

      abbrev By : (PacketState) → List ℕ → Passage → Type 0
      By packet more p = ServesPassage R (after ++ more) packet header (CanServeAmong R (after ++ more) packet header branches) under (arriving header passed code) has.decision p

      made_reached : (packet : PacketState) (more : List ℕ) → reached R (after ++ more) packet header (op code branches) under ≡ by packet more made
      made_reached packet more = op_reached R (after ++ more) packet header code branches under spec spec_is has.decision ((told made has).1 more) ∙ ap (by packet more) has.passage_is

      made_serves : (packet : PacketState) (more : List ℕ) → CanServe R (after ++ more) packet header (op code branches) under → By packet more made
      made_serves packet more h = subst (By packet more) has.passage_is (op_serves R (after ++ more) packet header code branches under spec spec_is has.decision ((told made has).1 more) h)

    pub op_step : (made : Passage) → HasPassed rewriters code.element code.input spec flow resources resources' ledger ledger' before after made → (next : Next) → GoesBehind branches flow passed passed' made next
        → EndsStep rewriters gone after header (op code branches) under resources' ledger' under' next
    unfolding CanServe
    op_step (passage.Rewritten meeting) has next goes =
        goes_on meeting.output meeting.after
        (λ packet more. made_reached (passage.Rewritten meeting) has packet more ∙ ap (reached_among R (after ++ more) packet header branches meeting.output) (same_place (passage.Rewritten meeting) has (passed ++ meeting.after ∷ [])))
        (λ packet more h. subst (CanServeAmong R (after ++ more) packet header branches meeting.output) (same_place (passage.Rewritten meeting) has (passed ++ meeting.after ∷ [])) (made_serves (passage.Rewritten meeting) has packet more h))
        goes.0 next goes.1
    op_step (passage.Passed out) has next goes =
        goes_on out (arriving header passed code)
        (λ packet more. made_reached (passage.Passed out) has packet more ∙ ap (reached_among R (after ++ more) packet header branches out) (same_place (passage.Passed out) has (passed ++ arriving header passed code ∷ [])))
        (λ packet more h. subst (CanServeAmong R (after ++ more) packet header branches out) (same_place (passage.Passed out) has (passed ++ arriving header passed code ∷ [])) (made_serves (passage.Passed out) has packet more h))
        (goes.0 ∙ ap (λ f. passed ++ f ∷ []) flow_is) next goes.1
    op_step (passage.Dropped why) has next goes =
        let end : EndsIn R after header (op code branches) under (drop why) under' = record {
          ends = λ packet more. made_reached (passage.Dropped why) has packet more
              ∙ ap (λ u. Some (Ok (drop why, u))) (same_place (passage.Dropped why) has passed ∙ ap place (sym goes.0));
          serves = λ packet more h. tt;
        } in
        subst (EndsStep rewriters gone after header (op code branches) under resources' ledger' under') (sym goes.1) end

-- which side of a test is taken
pub chosen_is : (chosen : TreeForm) (holds : Bool) (span : Span) (value : ℕ) (term : TermForm) (header : List ℕ) (seen passed : List Flow) (a b inside outside : Tree)
    → chosen ≡ (if holds then tree_form a else tree_form b) → holds ≡ contains_number span value → value ≡ value_of term header seen → seen ≡ passed → a ≡ inside → b ≡ outside
    → chosen ≡ (if contains_number span (value_of term header passed) then tree_form inside else tree_form outside)
chosen_is chosen holds span value term header seen passed a b inside outside p q r s e f =
    p
    ∙ ap (λ h. if h then tree_form a else tree_form b) (q ∙ ap (contains_number span) (r ∙ ap (value_of term header) s))
    ∙ ap (λ t. if contains_number span (value_of term header passed) then tree_form t else tree_form b) e
    ∙ ap (λ t. if contains_number span (value_of term header passed) then tree_form inside else tree_form t) f
