-- What is decided for a passage, from what its parts come to.
use Rattle.std.proofs.Common.{◌≡◌, ◌∙◌, sym, ap, refl, ℕ, List, ◌++◌, length}
use Rattle.std.specs.Prelude.{IfOk, Some, None, Result, Ok, Err, slice_get, slice_index}
use Rattle.mt_packet.specs.declared.cause.Cause.TheVariants as cause
use Rattle.mt_packet.specs.declared.flow.Flow.{Flow}
use Rattle.mt_kinds.specs.Ports.{templates_at}
use Rattle.mt_kinds.specs.declared.rewriter.Spec.{Spec}
use Rattle.mt_kinds.specs.declared.rewriter.Template.{Template}
use Rattle.mt_elements.specs.declared.chain.Rewriters.{Rewriters}
use Rattle.mt_ledger.specs.Ledger.{LedgerState}
use Rattle.mt_flow.specs.declared.keys.ForwardKey.{ForwardKey}
use Rattle.mt_flow.specs.declared.mapping.Meeting.{Meeting}
use Rattle.mt_rewriter.specs.Mappings.{key_of}
use Rattle.mt_rewriter.specs.Passages.{by_mapper, by_spec, decide, is_reply, meets, met_or, settled}
use Rattle.mt_rewriter.specs.Tries.{ring}
use Rattle.mt_rewriter.specs.declared.passage.Decision.{Decision}
use Rattle.mt_rewriter.specs.declared.passage.Passage.{Passage}
use Rattle.mt_rewriter.specs.declared.passage.Passage.TheVariants as becomes
use Rattle.mt_pipeline.specs.Passing.{EndsPassage}
use Rattle.mt_pipeline.specs.Standing.{entries_of, tables_of}
use Rattle.mt_pipeline.specs.Trying.{EndsBy, mapper_decision, ring_decision, spec_decision}
use Rattle.mt_pipeline.specs.declared.passage.Passed.{Passed}
use Rattle.mt_pipeline.specs.declared.passage.Passed.TheVariants as passed
use Rattle.mt_pipeline.specs.declared.resources.Resources.{Resources}
use Rattle.mt_pipeline.proofs.Rounds.{decision_of, same_tables}
use Rattle.mt_pipeline.proofs.StepsTaken.{set_same}

module _ (rewriters : Rewriters) (gone : List ℕ) (a b : Resources) (x y : LedgerState) where
  pub ends_same : (decided other : List ℕ → Result Decision ℕ) (after : List ℕ) (ends : Passed) → ((picks : List ℕ) → other picks ≡ decided picks)
      → EndsBy decided rewriters gone a b x y after ends → EndsBy other rewriters gone a b x y after ends
  ends_same decided other after (passed.Through passage) same ends = record {
    decision = ends.decision;
    passage_is = ends.passage_is;
    used = ends.used;
    decided = λ more. same (after ++ more) ∙ ends.decided more;
    tables_are = ends.tables_are;
  }
  ends_same decided other after (passed.Starved pool) same ends = ends

  -- the mapper is there
  pub by_ring : (key : ForwardKey) (mapper : ℕ) (templates : List Template) (before after : List ℕ) (ends : Passed) → slice_get rewriters.mappers.items mapper ≡ Some templates
      → EndsBy (ring_decision rewriters.pools.items (entries_of a.store) key mapper templates x before) rewriters gone a b x y after ends
      → EndsBy (mapper_decision rewriters (tables_of a.store x) key mapper before) rewriters gone a b x y after ends
  by_ring key mapper templates before after ends at =
      ends_same (ring_decision rewriters.pools.items (entries_of a.store) key mapper templates x before) (mapper_decision rewriters (tables_of a.store x) key mapper before) after ends
      (λ picks. ap (λ o. by_mapper rewriters.mappers.items rewriters.pools.items picks (tables_of a.store x) key (length before) mapper (templates_at o)) at)

  -- no mapping is met
  pub unmet_ends : (element input : ℕ) (flow : Flow) (spec : Spec) (before after : List ℕ) (ends : Passed) → meets (entries_of a.store) (key_of element input flow) (is_reply spec) ≡ None
      → EndsBy (spec_decision rewriters (tables_of a.store x) (key_of element input flow) spec before) rewriters gone a b x y after ends
      → EndsPassage rewriters gone element input spec flow a b x y before after ends
  unfolding decide
  unmet_ends element input flow spec before after (passed.Through passage) none ends = record {
    decision = ends.decision;
    passage_is = ends.passage_is;
    decided = (
      ends.used,
      λ more. ap (met_or (length before) (by_spec rewriters.mappers.items rewriters.pools.items (after ++ more) (tables_of a.store x) (key_of element input flow) (length before) spec)) none
          ∙ ends.decided more,
    );
    tables_are = ends.tables_are;
  }
  unmet_ends element input flow spec before after (passed.Starved pool) none ends = ends

module _ (rewriters : Rewriters) (gone : List ℕ) (a : Resources) (x : LedgerState) where
  -- the mapper is not there
  pub no_mapper : (key : ForwardKey) (mapper : ℕ) (before : List ℕ) → slice_get rewriters.mappers.items mapper ≡ None
      → EndsBy (mapper_decision rewriters (tables_of a.store x) key mapper before) rewriters gone a a x x before (passed.Through (becomes.Dropped cause.Exhausted))
  unfolding ring
  no_mapper key mapper before none = record {
    decision = decision_of (becomes.Dropped cause.Exhausted) None (Some (mapper, slice_index x.turns mapper)) (length before);
    passage_is = refl;
    used = refl;
    decided = λ more. ap (λ o. by_mapper rewriters.mappers.items rewriters.pools.items (before ++ more) (tables_of a.store x) key (length before) mapper (templates_at o)) none;
    tables_are = same_tables (entries_of a.store) (entries_of a.store) x.turns _ refl (sym (set_same x.turns mapper));
  }

  -- nothing is tried
  pub settled_ends : (passage : Passage) (before : List ℕ) → EndsBy (λ picks. Ok (settled (length before) passage)) rewriters gone a a x x before (passed.Through passage)
  settled_ends passage before = record { decision = settled (length before) passage; passage_is = refl; used = refl; decided = λ more. refl; tables_are = refl }

  -- a mapping is met
  pub met_ends : (element input : ℕ) (flow : Flow) (spec : Spec) (before : List ℕ) (meeting : Meeting) → meets (entries_of a.store) (key_of element input flow) (is_reply spec) ≡ Some meeting
      → EndsPassage rewriters gone element input spec flow a a x x before before (passed.Through (becomes.Rewritten meeting))
  unfolding decide
  met_ends element input flow spec before meeting met = record {
    decision = settled (length before) (becomes.Rewritten meeting);
    passage_is = refl;
    decided = (
      refl,
      λ more. ap (met_or (length before) (by_spec rewriters.mappers.items rewriters.pools.items (before ++ more) (tables_of a.store x) (key_of element input flow) (length before) spec)) met,
    );
    tables_are = refl;
  }

pub ok_then : {A E : Type 0} (P Q : A → Type 0) (result : Result A E) → ((value : A) → P value → Q value) → IfOk result P → IfOk result Q
ok_then P Q (Ok value) h p = h value p
ok_then P Q (Err e) h p = tt
