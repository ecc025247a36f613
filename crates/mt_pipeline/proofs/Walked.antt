-- Several steps of a walk, one after the other.
use Rattle.std.proofs.Common.{◌≡◌, ◌∙◌, sym, ap, subst, refl, ℕ, List, [], ◌++◌, append_assoc}
use Rattle.mt_trees.specs.Meaning.{RewritersState, Under, CanServe, meaning_of}
use Rattle.mt_terms.specs.Trees.{TreeForm}
use Rattle.mt_chain.specs.Run.{IsThere}
use Rattle.mt_pipeline.proofs.Ends.{tree_ends}
use Rattle.mt_pipeline.specs.Reached.{meant_at, reached}
use Rattle.mt_pipeline.specs.Passing.{IsReady, IsStep}
use Rattle.mt_pipeline.specs.Walking.{CanWalk, EndsIn, EndsWalk, LeadsTo, known, state_of}
use Rattle.mt_pipeline.specs.declared.journal.Journal.{Journal}
use Rattle.mt_pipeline.specs.declared.resources.Resources.{Resources}
use Rattle.mt_pipeline.specs.declared.steps.End.{End}
use Rattle.mt_pipeline.specs.declared.steps.End.TheVariants.{Leaf, Drop, Starved}
use Rattle.mt_elements.specs.declared.chain.Rewriters.{Rewriters}
use Rattle.mt_ledger.specs.Ledger.{LedgerState}
use Rattle.mt_packet.specs.declared.flow.Flow.{Flow}
use Rattle.mt_terms.specs.Trees.{leaf, drop, rewrite_form}
use Rattle.std.proofs.lemmas.List.{append-nil}

module _ (rewriters : RewritersState) (picks picks' header more : List ℕ) (picks_are : picks' ≡ picks ++ more) where
  grown : (rest : List ℕ) → picks ++ (more ++ rest) ≡ picks' ++ rest
  grown rest = sym (append_assoc picks more rest) ∙ ap (λ l. l ++ rest) (sym picks_are)

  module _ (a b : TreeForm) (under under' : Under) where
    pub leads_later : LeadsTo rewriters picks header a under b under' → LeadsTo rewriters picks' header a under b under'
    leads_later leads = record {
      ends = λ packet rest. subst (λ l. reached rewriters l packet header a under ≡ reached rewriters l packet header b under') (grown rest) (leads.ends packet (more ++ rest));
      serves = λ packet rest. subst (λ l. CanServe rewriters l packet header a under → CanServe rewriters l packet header b under') (grown rest) (leads.serves packet (more ++ rest));
    }

    pub leads_on : (c : TreeForm) (end : Under) → LeadsTo rewriters picks header a under b under' → LeadsTo rewriters picks' header b under' c end → LeadsTo rewriters picks' header a under c end
    leads_on c end first second =
        let later = leads_later first in
        record {
          ends = λ packet rest. later.ends packet rest ∙ second.ends packet rest;
          serves = λ packet rest h. second.serves packet rest (later.serves packet rest h);
        }

    pub ends_on : (c : TreeForm) (end : Under) → LeadsTo rewriters picks header a under b under' → EndsIn rewriters picks' header b under' c end → EndsIn rewriters picks' header a under c end
    ends_on c end first second =
        let later = leads_later first in
        record {
          ends = λ packet rest. later.ends packet rest ∙ second.ends packet rest;
          serves = λ packet rest h. second.serves packet rest (later.serves packet rest h);
        }

    -- what can be served goes on so
    pub walks_on : CanWalk rewriters picks header a under → LeadsTo rewriters picks' header a under b under' → CanWalk rewriters picks' header b under'
    walks_on can leads = record {
      packet = can.packet;
      serves = λ rest. leads.serves can.packet rest (subst (λ l. CanServe rewriters l can.packet header a under) (grown rest) (can.serves (more ++ rest)));
      there = λ rest.
          subst IsThere
          (tree_ends rewriters (picks' ++ rest) can.packet header a under
          ∙ ap (meant_at rewriters (picks' ++ rest) can.packet header) (leads.ends can.packet rest)
          ∙ sym (tree_ends rewriters (picks' ++ rest) can.packet header b under'))
          (subst (λ l. IsThere (meaning_of rewriters l can.packet header a under)) (grown rest) (can.there (more ++ rest)));
    }

-- ---- all steps so far

module _ (rewriters : Rewriters) (gone header : List ℕ) where
  module _ (a b c : Resources) (la lb lc : LedgerState) (ja jb jc : Journal) where
    pub steps_on : IsStep rewriters gone a b la lb ja jb → IsStep rewriters gone b c lb lc jb jc → IsStep rewriters gone a c la lc ja jc
    steps_on first second = record {
      ready = second.ready;
      picks = first.picks ++ second.picks;
      picks_are = second.picks_are ∙ (ap (λ l. l ++ second.picks) first.picks_are ∙ append_assoc ja.picks.items first.picks second.picks);
      since = λ mappings turns h. second.since mappings turns (first.since mappings turns h);
    }

  pub no_step : (a : Resources) (l : LedgerState) (j : Journal) → IsReady rewriters gone a l → IsStep rewriters gone a a l l j j
  no_step a l j ready = record { ready = ready; picks = []; picks_are = sym (append-nil j.picks.items); since = λ mappings turns h. h }

  -- a walk has come so far
  pub record HasWalked (tree here : TreeForm) (passed passed' : List Flow) (resources resources' : Resources) (ledger ledger' : LedgerState) (journal journal' : Journal) : Type 0 where
    pub step : IsStep rewriters gone resources resources' ledger ledger' journal journal'
    pub leads : LeadsTo (state_of rewriters) journal'.picks.items header tree (known passed resources.store ledger journal.picks.items) here (known passed' resources'.store ledger' journal'.picks.items)
    pub can : CanWalk (state_of rewriters) journal'.picks.items header here (known passed' resources'.store ledger' journal'.picks.items)

  pub not_walked : (tree : TreeForm) (passed : List Flow) (a : Resources) (l : LedgerState) (j : Journal) → IsReady rewriters gone a l → CanWalk (state_of rewriters) j.picks.items header tree (known passed a.store l j.picks.items)
      → HasWalked tree tree passed passed a a l l j j
  not_walked tree passed a l j ready can = record { step = no_step a l j ready; leads = record { ends = λ packet more. refl; serves = λ packet more h. h }; can = can }

  module _ (tree here : TreeForm) (fa fb : List Flow) (a b c : Resources) (la lb lc : LedgerState) (ja jb jc : Journal) (so_far : HasWalked tree here fa fb a b la lb ja jb) (step : IsStep rewriters gone b c lb lc jb jc) where
    pub walked_on : (fc : List Flow) (next : TreeForm) → LeadsTo (state_of rewriters) jc.picks.items header here (known fb b.store lb jb.picks.items) next (known fc c.store lc jc.picks.items) → HasWalked tree next fa fc a c la lc ja jc
    walked_on fc next leads = record {
      step = steps_on a b c la lb lc ja jb jc so_far.step step;
      leads = leads_on (state_of rewriters) jb.picks.items jc.picks.items header step.picks step.picks_are tree here (known fa a.store la ja.picks.items) (known fb b.store lb jb.picks.items) next (known fc c.store lc jc.picks.items) so_far.leads leads;
      can = walks_on (state_of rewriters) jb.picks.items jc.picks.items header step.picks step.picks_are here next (known fb b.store lb jb.picks.items) (known fc c.store lc jc.picks.items) so_far.can leads;
    }

    pub walked_step : IsStep rewriters gone a c la lc ja jc
    walked_step = steps_on a b c la lb lc ja jb jc so_far.step step

    pub walked_end : (fc : List Flow) (end : End) → EndsWalk rewriters gone jc.picks.items header here (known fb b.store lb jb.picks.items) c lc (known fc c.store lc jc.picks.items) end
        → EndsWalk rewriters gone jc.picks.items header tree (known fa a.store la ja.picks.items) c lc (known fc c.store lc jc.picks.items) end
    walked_end fc (Leaf rewrite device) h =
        ends_on (state_of rewriters) jb.picks.items jc.picks.items header step.picks step.picks_are tree here (known fa a.store la ja.picks.items) (known fb b.store lb jb.picks.items) (leaf (rewrite_form rewrite.now) device) (known fc c.store lc jc.picks.items) so_far.leads h
    walked_end fc (Drop why) h =
        ends_on (state_of rewriters) jb.picks.items jc.picks.items header step.picks step.picks_are tree here (known fa a.store la ja.picks.items) (known fb b.store lb jb.picks.items) (drop why) (known fc c.store lc jc.picks.items) so_far.leads h
    walked_end fc (Starved pool) h = h
