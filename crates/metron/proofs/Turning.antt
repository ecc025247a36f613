-- Turns of a server that has one frame queued.
use Rattle.std.proofs.Common.{◌≡◌, inl, inr, ◌<◌, ◌≤◌, ◌+◌, ℕ, zero, suc, Bool, true, false, if◌then◌else◌, List, [], ◌∷◌, ◌++◌, refl, sym, ◌∙◌, ap, subst, arith}
use Rattle.std.specs.Prelude.{◌==◌, ◌↔◌, Contains, Some, Result, Ok, Err, IfOk, drop, option_and_then, slice_index_or}
use Rattle.std.specs.Result.{result_ok}
use Rattle.std.proofs.lemmas.Bool.{cases_lt, true≢false}
use Rattle.std.proofs.lemmas.Bool.Decides.{nat_tests}
use Rattle.std.proofs.lemmas.List.Elements.{Contains-push_cases}
use Rattle.mt_packet.specs.declared.frame.Stamped.{Stamped}
use Rattle.mt_packet.specs.declared.span.Span.{Span}
use Rattle.mt_cuts.specs.declared.cut.Cut.{Cut}
use Rattle.mt_elements.specs.ChainState.{ChainState}
use Rattle.mt_elements.specs.declared.chain.Rewriters.{Rewriters}
use Rattle.mt_ledger.specs.Ledger.{LedgerState}
use Rattle.mt_ledger.specs.Pools.{ports_at}
use Rattle.mt_chain.specs.Fates.{packet_of}
use Rattle.mt_chain.specs.Run.{run_packet}
use Rattle.mt_terms.specs.declared.tree.Tree.{Tree}
use Rattle.mt_pipeline.specs.Reached.{writes_of}
use Rattle.mt_pipeline.specs.Serving.{CanTurn, EndsTurn}
use Rattle.mt_pipeline.specs.Standing.{AreGone, tables_of}
use Rattle.mt_pipeline.specs.Turns.{AreExpected, ServerState, ServiceState}
use Rattle.mt_pipeline.specs.declared.server.Queued.{Queued}
use Rattle.mt_pipeline.specs.declared.server.Turn.{Turn}
use Rattle.mt_pipeline.specs.declared.server.Turn.TheVariants as turn
use Rattle.metron.specs.Serving.{HasRunOne}
use Rattle.metron.specs.Standing.{HasMissed, HasServedFrame, HasTurned, IsAtRest, IsWaiting, tables_at}
use Rattle.metron.specs.Written.{writes_at, writes_by, writes_for}
use Rattle.metron.specs.declared.worker.Worker.{Worker}

-- ---- one turn

first_of : (x y : Queued) (xs ys : List Queued) → x ∷ xs ≡ y ∷ ys → x ≡ y
first_of x y xs ys e = ap (λ l. slice_index_or l 0 x) e

rest_of : (x y : Queued) (xs ys : List Queued) → x ∷ xs ≡ y ∷ ys → xs ≡ ys
rest_of x y xs ys e = ap (drop 1) e

module _ (rewriters : Rewriters) (classes : List (List (List Span) × Tree)) (index : ℕ × Cut) (old new : Worker) (gone : List ℕ) where
  served : (chain : ChainState) → CanTurn chain rewriters classes index old.server old.ledger → (service : ServiceState) → EndsTurn rewriters classes index old.server new.server old.ledger new.ledger gone old.writes new.writes (turn.Served service)
      → (frame : Stamped) → IsWaiting old frame → HasServedFrame chain old new frame service × (new.server.queue ≡ [])
  unfolding run_packet
  served chain can service ends frame waiting =
      let h = ends chain can in
      let one = h.0 in
      let two = h.1 in
      let queue_is : one.head ∷ new.server.queue ≡ waiting.0 ∷ [] = sym one.queue_was ∙ waiting.2 in
      let frame_is : one.head.stamped ≡ frame = ap (λ (q : Queued). q.stamped) (first_of one.head waiting.0 new.server.queue [] queue_is) ∙ waiting.1 in
      let counted_is : two.head.stamped ≡ frame = ap (λ (q : Queued). q.stamped) (first_of two.head waiting.0 two.rest [] (sym two.queue_was ∙ waiting.2)) ∙ waiting.1 in (
        record {
          number_is = one.number_is ∙ ap (λ (s : Stamped). s.number) frame_is;
          count = writes_of two.place.0;
          counted = two.counted;
          run = record {
            run = λ more. subst (λ (s : Stamped). run_packet chain (tables_at old) (packet_of s) (service.picks ++ more) ≡ Some (record { fate = service.fate; tables = tables_at new; picks = more })) frame_is
                (ap (option_and_then result_ok) (one.run more));
            counted = λ more. subst (λ (s : Stamped). writes_for chain (tables_at old) s (service.picks ++ more) ≡ Some (writes_of two.place.0)) counted_is
                (ap (option_and_then (writes_by chain (tables_at old) two.head.stamped (service.picks ++ more))) two.tree_is ∙ ap writes_at (two.leads more));
          };
        },
        rest_of one.head waiting.0 new.server.queue [] queue_is,
      )

  missed : (chain : ChainState) → CanTurn chain rewriters classes index old.server old.ledger → (pool : ℕ) → EndsTurn rewriters classes index old.server new.server old.ledger new.ledger gone old.writes new.writes (turn.Starved pool) → AreGone gone new.ledger → HasMissed chain old new gone pool
  missed chain can pool ends still =
      let starved = ends.0 chain can in
      record {
        known = starved.known;
        not_gone = starved.not_gone;
        gone_too = λ number among. elim (Contains-push_cases gone pool number among) [
          | inl there ↦ still number there
          | inr same ↦ subst (λ n. ports_at new.ledger.stocks n ≡ []) same starved.stock
        ];
        queue = ends.1.queue;
        tables = ap (λ m. tables_of m new.ledger) ends.1.mappings ∙ ap (λ (t : List ℕ). record (tables_at old) { turns = t }) ends.1.turns;
        writes = ends.2;
      }

  not_idle : {E : Type 0} (r : Result Turn E) → (r ≡ Ok turn.Idle) ↔ (old.server.queue ≡ []) → (frame : Stamped) → IsWaiting old frame → r ≡ Ok turn.Idle → ⊥
  not_idle r idle frame waiting is = absurd (let none = sym waiting.2 ∙ idle.0 is in cc)

  pub turned : {E : Type 0} (r : Result Turn E) → (r ≡ Ok turn.Idle) ↔ (old.server.queue ≡ []) → (frame : Stamped) → IsWaiting old frame → AreGone gone new.ledger
      → IfOk r (EndsTurn rewriters classes index old.server new.server old.ledger new.ledger gone old.writes new.writes)
      → IfOk r (λ ended. (chain : ChainState) → CanTurn chain rewriters classes index old.server old.ledger → HasTurned chain old new gone ended)
  turned (Err e) idle frame waiting still ends = tt
  turned (Ok turn.Idle) idle frame waiting still ends = λ chain can. not_idle (Ok turn.Idle) idle frame waiting refl
  turned (Ok (turn.Served service)) idle frame waiting still ends = λ chain can. served chain can service ends
  turned (Ok (turn.Starved pool)) idle frame waiting still ends = λ chain can. missed chain can pool ends still

-- ---- pools that are not gone

abbrev is_gone : List ℕ → ℕ → Bool
is_gone [] pool = false
is_gone (x ∷ gone) pool = if x == pool then true else is_gone gone pool

abbrev weight : Bool → ℕ
weight true = 0
weight false = 1

-- how many of the first pools are not gone
abbrev pub pools_left : List ℕ → ℕ → ℕ
pools_left gone zero = 0
pools_left gone (suc pool) = weight (is_gone gone pool) + pools_left gone pool

or_true : (b r : Bool) → r ≡ true → (if b then true else r) ≡ true
or_true true r h = refl
or_true false r h = h

both_true : (b r s : Bool) → (r ≡ true → s ≡ true) → (if b then true else r) ≡ true → (if b then true else s) ≡ true
both_true true r s f h = refl
both_true false r s f h = f h

pushed : (gone : List ℕ) (pool : ℕ) → is_gone (gone ++ pool ∷ []) pool ≡ true
pushed [] pool = let same : (pool == pool) ≡ true = grind (arith, nat_tests) in ap (λ b. if b then true else false) same
pushed (x ∷ gone) pool = or_true (x == pool) (is_gone (gone ++ pool ∷ []) pool) (pushed gone pool)

kept : (gone : List ℕ) (pool k : ℕ) → is_gone gone k ≡ true → is_gone (gone ++ pool ∷ []) k ≡ true
kept [] pool k h = absurd (true≢false (sym h))
kept (x ∷ gone) pool k h = both_true (x == k) (is_gone gone k) (is_gone (gone ++ pool ∷ []) k) (kept gone pool k) h

not_head : (x pool : ℕ) (gone : List ℕ) → (Contains (x ∷ gone) pool → ⊥) → (x == pool) ≡ false
not_head x pool gone none = by_test (x == pool) refl
  where
    by_test : (b : Bool) → (x == pool) ≡ b → b ≡ false
    by_test true is = absurd (none (0, omega arith, (let same : x ≡ pool = grind (arith, nat_tests, is) in same)))
    by_test false is = refl

neither : (b r : Bool) → b ≡ false → r ≡ false → (if b then true else r) ≡ false
neither true r is more = is
neither false r is more = more

not_among : (gone : List ℕ) (pool : ℕ) → (Contains gone pool → ⊥) → is_gone gone pool ≡ false
not_among [] pool none = refl
not_among (x ∷ gone) pool none = neither (x == pool) (is_gone gone pool) (not_head x pool gone none) (not_among gone pool (λ there. none (suc there.0, (let lt = there.1 in omega (arith, lt)), there.2)))

no_heavier : (a b : Bool) → (a ≡ true → b ≡ true) → weight b ≤ weight a
no_heavier true true f = omega arith
no_heavier true false f = absurd (true≢false (sym (f refl)))
no_heavier false true f = omega arith
no_heavier false false f = omega arith

no_more : (gone : List ℕ) (pool n : ℕ) → pools_left (gone ++ pool ∷ []) n ≤ pools_left gone n
no_more gone pool zero = omega arith
no_more gone pool (suc k) =
    let one = no_heavier (is_gone gone k) (is_gone (gone ++ pool ∷ []) k) (kept gone pool k) in
    let more = no_more gone pool k in
    omega (arith, one, more)

-- one pool more is gone
pub fewer : (gone : List ℕ) (pool n : ℕ) → pool < n → (Contains gone pool → ⊥) → pools_left (gone ++ pool ∷ []) n < pools_left gone n
fewer gone pool zero below none = absurd (omega (arith, below))
fewer gone pool (suc k) below none = elim (cases_lt pool k) [
  | inl under ↦ (
      let one = no_heavier (is_gone gone k) (is_gone (gone ++ pool ∷ []) k) (kept gone pool k) in
      let more = fewer gone pool k under none in
      omega (arith, one, more))
  | inr above ↦ (
      let same : pool ≡ k = omega (arith, below, above) in
      let gone_now : weight (is_gone (gone ++ pool ∷ []) k) ≡ 0 = ap weight (subst (λ j. is_gone (gone ++ pool ∷ []) j ≡ true) same (pushed gone pool)) in
      let there : weight (is_gone gone k) ≡ 1 = ap weight (subst (λ j. is_gone gone j ≡ false) same (not_among gone pool none)) in
      let more = no_more gone pool k in
      omega (arith, gone_now, there, more))
]

-- ---- the frame that is queued

module _ (rewriters : Rewriters) (classes : List (List (List Span) × Tree)) (index : ℕ × Cut) where
  -- the server can serve it
  pub queued_can : (chain : ChainState) (old new : ServerState) (ledger : LedgerState) (queued : Queued) → CanTurn chain rewriters classes index old ledger → old.queue ≡ [] → new ≡ record old { queue = old.queue ++ queued ∷ [] }
      → 0 < queued.stamped.device → queued.stamped.device ≤ chain.entries → CanTurn chain rewriters classes index new ledger
  queued_can chain old new ledger queued can none is arrived known = subst (λ (s : ServerState). CanTurn chain rewriters classes index s ledger) (sym is) (record {
    made = can.made;
    standing = record { whole = can.standing.whole; patterns = can.standing.patterns; turns = can.standing.turns; kept = can.standing.kept; range = can.standing.range };
    expected = subst (AreExpected chain) (sym (ap (λ q. q ++ queued ∷ []) none)) ((arrived, known), tt);
  })

  -- what was served from a state that stands for the same tables
  served_from : (chain : ChainState) (frame : Stamped) (start now new : Worker) (service : ServiceState) → tables_at now ≡ tables_at start → now.writes ≡ start.writes → HasServedFrame chain now new frame service → HasServedFrame chain start new frame service
  served_from chain frame start now new service same_tables same_writes h = record {
    number_is = h.number_is;
    count = h.count;
    counted = h.counted ∙ ap (λ n. n + h.count) same_writes;
    run = subst (λ t. HasRunOne chain t (tables_at new) frame service.fate service.picks h.count) same_tables h.run;
  }

  -- the turn that served it
  pub head_served : (chain : ChainState) (frame : Stamped) (start now new : Worker) (gone : List ℕ) (ended : Turn) (service : ServiceState) → ended ≡ turn.Served service → HasTurned chain now new gone ended → IsWaiting now frame
      → tables_at now ≡ tables_at start → now.writes ≡ start.writes → CanTurn chain rewriters classes index new.server new.ledger
      → HasServedFrame chain start new frame service × IsAtRest chain rewriters classes index new
  head_served chain frame start now new gone ended service is has waiting same_tables same_writes can =
      let h = subst (HasTurned chain now new gone) is has frame waiting in
      (served_from chain frame start now new service same_tables same_writes h.0, record { can = can; waits_none = h.1 })

  -- a frame that is queued is served
  pub all_served : {E : Type 0} (r : Result ServiceState E) (old middle new : Worker) (queued : Queued) (frame : Stamped) → tables_at middle ≡ tables_at old → middle.writes ≡ old.writes
      → ((chain : ChainState) → IsAtRest chain rewriters classes index old → frame.device ≤ chain.entries → CanTurn chain rewriters classes index middle.server middle.ledger) → IsWaiting middle frame
      → IfOk r (λ service. (chain : ChainState) (f : Stamped) → CanTurn chain rewriters classes index middle.server middle.ledger → IsWaiting middle f → HasServedFrame chain middle new f service × IsAtRest chain rewriters classes index new)
      → IfOk r (λ service. (chain : ChainState) → IsAtRest chain rewriters classes index old → frame.device ≤ chain.entries → HasServedFrame chain old new frame service × IsAtRest chain rewriters classes index new)
  all_served (Err e) old middle new queued frame same_tables same_writes can waiting h = tt
  all_served (Ok service) old middle new queued frame same_tables same_writes can waiting h = λ chain rest known.
      let done = h chain frame (can chain rest known) waiting in (served_from chain frame old middle new service same_tables same_writes done.0, done.1)

-- a pool that a turn met empty
pub missed_one : (chain : ChainState) (now new : Worker) (gone : List ℕ) (ended : Turn) (pool : ℕ) → ended ≡ turn.Starved pool → HasTurned chain now new gone ended → HasMissed chain now new gone pool
missed_one chain now new gone ended pool is has = subst (HasTurned chain now new gone) is has

pub waits_still : (chain : ChainState) (now new : Worker) (gone : List ℕ) (pool : ℕ) (frame : Stamped) → HasMissed chain now new gone pool → IsWaiting now frame → IsWaiting new frame
waits_still chain now new gone pool frame missed waiting = (waiting.0, waiting.1, missed.queue ∙ waiting.2)
