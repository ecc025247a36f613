-- A try of a tree, and what is taken back.
use Rattle.std.proofs.Common.{◌≡◌, ◌∙◌, sym, ap, subst, refl, ℕ, List, []}
use Rattle.std.proofs.lemmas.List.{append-nil}
use Rattle.mt_elements.specs.declared.chain.Rewriters.{Rewriters}
use Rattle.mt_flow.specs.declared.mapping.Mapping.{Mapping}
use Rattle.mt_ledger.specs.Ledger.{LedgerState}
use Rattle.mt_ledger.specs.Pools.{ports_at}
use Rattle.mt_packet.specs.declared.flow.Flow.{Flow}
use Rattle.mt_terms.specs.Trees.{TreeForm}
use Rattle.mt_trees.specs.Meaning.{RewritersState, Under}
use Rattle.mt_pipeline.specs.Passing.{IsReady, IsStarved, IsStep}
use Rattle.mt_pipeline.specs.Serving.{HasMet, IsLeft}
use Rattle.mt_pipeline.specs.Standing.{IsSince}
use Rattle.mt_pipeline.specs.Walking.{CanWalk, EndsIn, known}
use Rattle.mt_pipeline.specs.declared.journal.Journal.{Journal}
use Rattle.mt_pipeline.specs.declared.resources.Resources.{Resources}

-- a walk that begins with nothing
pub walks_first : (r : RewritersState) (header : List ℕ) (tree : TreeForm) (store : List Mapping) (ledger : LedgerState) (passed : List Flow) (picks : List ℕ) → passed ≡ [] → picks ≡ []
    → CanWalk r [] header tree (known [] store ledger []) → CanWalk r picks header tree (known passed store ledger picks)
walks_first r header tree store ledger passed picks f e can =
    subst (λ (l : List ℕ). CanWalk r l header tree (known passed store ledger l)) (sym e) (subst (λ (l : List Flow). CanWalk r [] header tree (known l store ledger [])) (sym f) can)

pub ends_first : (r : RewritersState) (header : List ℕ) (tree : TreeForm) (store : List Mapping) (ledger : LedgerState) (passed : List Flow) (picks now : List ℕ) (place : TreeForm) (under : Under) → passed ≡ [] → picks ≡ []
    → EndsIn r now header tree (known passed store ledger picks) place under → EndsIn r now header tree (known [] store ledger []) place under
ends_first r header tree store ledger passed picks now place under f e ends =
    subst (λ (l : List ℕ). EndsIn r now header tree (known [] store ledger l) place under) e (subst (λ (l : List Flow). EndsIn r now header tree (known l store ledger picks) place under) f ends)

-- nothing is done yet
pub since_now : (store : List Mapping) (ledger : LedgerState) (opened : ℕ) (moved : List ℕ) → opened ≡ 0 → moved ≡ [] → IsSince store ledger.turns opened moved store ledger
since_now store ledger opened moved o m =
    let now : IsSince store ledger.turns 0 [] store ledger = record { more = []; mappings_are = sym (append-nil store); counted = refl; turns_are = refl } in
    subst (λ (n : ℕ). IsSince store ledger.turns n moved store ledger) (sym o) (subst (λ (l : List ℕ). IsSince store ledger.turns 0 l store ledger) (sym m) now)

module _ (rewriters : Rewriters) (gone : List ℕ) (a b c : Resources) (la lb lc : LedgerState) (ja jb : Journal) (opened : ja.opened ≡ 0) (moved : ja.moved.items ≡ []) (ready : IsReady rewriters gone a la) (step : IsStep rewriters gone a b la lb ja jb) where
  -- what is taken back then
  pub since_begin : IsSince a.store la.turns jb.opened jb.moved.items b.store lb
  since_begin = step.since a.store la.turns (since_now a.store la ja.opened ja.moved.items opened moved)

  pub left_again : ((mappings : List Mapping) (turns : List ℕ) → IsSince mappings turns jb.opened jb.moved.items b.store lb → c.store ≡ mappings)
      → ((mappings : List Mapping) (turns : List ℕ) → IsSince mappings turns jb.opened jb.moved.items b.store lb → lc.turns ≡ turns) → IsReady rewriters gone c lc → IsLeft a c la lc
  left_again mappings turns now = record {
    mappings = mappings a.store la.turns since_begin;
    turns = turns a.store la.turns since_begin;
    patterns = now.patterns ∙ sym ready.patterns;
  }

  pub has_met : (pool : ℕ) → IsStarved rewriters gone b lb pool → lc.stocks ≡ lb.stocks → HasMet rewriters gone a lc pool
  has_met pool starved stocks = record {
    moment = b;
    ledger_then = lb;
    ready = step.ready;
    starved = starved;
    more = since_begin.more;
    opened = since_begin.mappings_are;
    stock = ap (λ s. ports_at s pool) stocks ∙ starved.stock;
  }
