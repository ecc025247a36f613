-- The templates of a mapper, one after the other, and how a passage ends.
use Rattle.std.proofs.Common.{◌≡◌, ◌∙◌, sym, ap, subst, refl, ℕ, zero, suc, ◌+◌, ◌-◌, ◌<◌, ◌≤◌, Bool, true, false, List, [], ◌∷◌, ◌++◌, length, map, append-nil, append_assoc, arith}
use Rattle.std.specs.Prelude.{Option, Some, None, Result, Ok, Err, OnOk, slice_get, slice_index, slice_set, if◌then◌else◌, ◌==◌}
use Rattle.std.specs.BTreeMap.{insert_entry}
use Rattle.std.proofs.lemmas.Option.{slice_get_within}
use Rattle.mt_packet.specs.declared.cause.Cause.TheVariants as cause
use Rattle.mt_kinds.specs.declared.rewriter.Template.{Template}
use Rattle.mt_elements.specs.declared.chain.Rewriters.{Rewriters}
use Rattle.mt_ledger.specs.Ledger.{LedgerState, turn_after}
use Rattle.mt_flow.specs.Keys.{forward_cmp}
use Rattle.mt_flow.specs.declared.keys.ForwardKey.{ForwardKey}
use Rattle.mt_flow.specs.declared.mapping.Mapping.{Mapping}
use Rattle.mt_rewriter.specs.Mappings.{TablesState, forward_meeting}
use Rattle.mt_rewriter.specs.Mappings.{Mapping as Entry}
use Rattle.mt_rewriter.specs.Passages.{by_attempt, by_round, opens, settled}
use Rattle.mt_rewriter.specs.Tries.{after_try, ring, ring_on, try_template, turn_behind}
use Rattle.mt_rewriter.specs.declared.passage.Decision.{Decision}
use Rattle.mt_rewriter.specs.declared.passage.Passage.{Passage}
use Rattle.mt_rewriter.specs.declared.passage.Passage.TheVariants as becomes
use Rattle.mt_rewriter.proofs.Rings.{over, stepped}
use Rattle.mt_pipeline.specs.Passing.{IsReady, IsStep}
use Rattle.mt_pipeline.specs.Standing.{entries_of, held_ports, times_held, turns_back}
use Rattle.mt_pipeline.specs.Trying.{ComesTo, EndsBy, EndsTry, FindsNone, HasTurned, IsTry, led_by, none_made, once_decision, opened_in, ended_by, ring_decision}
use Rattle.mt_pipeline.specs.declared.journal.Journal.{Journal}
use Rattle.mt_pipeline.specs.declared.passage.Passed.{Passed}
use Rattle.mt_pipeline.specs.declared.passage.Passed.TheVariants as passed
use Rattle.mt_pipeline.specs.declared.resources.Resources.{Resources}
use Rattle.mt_pipeline.specs.declared.ring.Led.TheVariants as led
use Rattle.mt_pipeline.specs.declared.tries.Tried.{Tried}
use Rattle.mt_pipeline.specs.declared.tries.Tried.TheVariants as tried
use Rattle.mt_ledger.specs.Pools.{ports_at}
use Rattle.mt_ledger.specs.Ports.{ports_from, times}
use Rattle.mt_pipeline.proofs.StepsTaken.{moved_back, set_index, set_length, set_same, set_twice, step_then}

abbrev pub tables_from : List Entry → List ℕ → TablesState
tables_from mappings turns = record { mappings = mappings; turns = turns }

pub same_tables : (es es' : List Entry) (ts ts' : List ℕ) → es ≡ es' → ts ≡ ts' → tables_from es ts ≡ tables_from es' ts'
same_tables es es' ts ts' e t = ap (λ m. tables_from m ts) e ∙ ap (tables_from es') t

abbrev pub decision_of : Passage → Option Entry → Option (ℕ × ℕ) → ℕ → Decision
decision_of passage opened moved used = record { passage = passage; opened = opened; moved = moved; used = used }

-- ---- one template

module _ (rewriters : Rewriters) (gone : List ℕ) (key : ForwardKey) (template : Template) (a b : Resources) (x y : LedgerState) (before after : List ℕ) where
  abbrev entries : List Entry
  entries = entries_of a.store

  -- no mapping was opened, and none is there
  pub nothing_more : (more : List Mapping) → b.store ≡ a.store ++ more → length more ≡ 0 → b.store ≡ a.store
  nothing_more [] is none = is ∙ append-nil a.store
  nothing_more (first ∷ more) is none = absurd (omega (arith, none))

  -- a try alone ends the passage
  pub once_ends : (E : Type 0) (found : Tried) → IsTry rewriters gone a b x y before after (opened_in {E = E} (Ok found)) → EndsTry {E = E} rewriters gone key template a b y before after (Ok found)
      → EndsBy (once_decision rewriters.pools.items entries key template before) rewriters gone a b x y after (ended_by found)
  once_ends E (tried.Made meeting) kept ends = record {
    decision = opens key ends.translation (length after);
    passage_is = ap becomes.Rewritten (sym ends.meeting_is);
    used = refl;
    decided = λ more.
        let met = ends.comes.met in
        ap (by_attempt key (length before)) (ends.comes.tried_is more) ∙ rw met refl;
    tables_are = same_tables (entries_of b.store) (insert_entry forward_cmp entries key ends.translation) y.turns x.turns ends.entries kept.turns;
  }
  once_ends E tried.Clashed kept ends = record {
    decision = settled (length after) (becomes.Dropped cause.Clash);
    passage_is = refl;
    used = refl;
    decided = λ more.
        let met = ends.1.met in
        ap (by_attempt key (length before)) (ends.1.tried_is more) ∙ rw met refl;
    tables_are = same_tables (entries_of b.store) entries y.turns x.turns (ap entries_of (nothing_more kept.more kept.store_is kept.counted)) kept.turns;
  }
  once_ends E tried.Exhausted kept ends = record {
    decision = settled (length before) (becomes.Dropped cause.Exhausted);
    passage_is = refl;
    used = ap length (sym ends.0);
    decided = λ more. ap (λ picks. by_attempt key (length before) (try_template rewriters.pools.items (picks ++ more) entries key (length before) template)) ends.0 ∙ ap (by_attempt key (length before)) (ends.1 more);
    tables_are = same_tables (entries_of b.store) entries y.turns x.turns (ap entries_of (nothing_more kept.more kept.store_is kept.counted)) kept.turns;
  }
  once_ends E (tried.Starved pool) kept ends = ends

-- ---- the ring

index_map : (mappers : List (List Template)) (mapper : ℕ) (templates : List Template) → slice_get mappers mapper ≡ Some templates → slice_index (map length mappers) mapper ≡ length templates
index_map [] mapper templates at = absurd cc
index_map (first ∷ mappers) zero templates at = let is : first ≡ templates = cc in ap length is
index_map (first ∷ mappers) (suc mapper) templates at = index_map mappers mapper templates at

length_map : (mappers : List (List Template)) → length (map length mappers) ≡ length mappers
length_map [] = refl
length_map (first ∷ mappers) = ap suc (length_map mappers)

module _ (rewriters : Rewriters) (gone : List ℕ) (a : Resources) (x : LedgerState) (mapper : ℕ) (templates : List Template) (ready : IsReady rewriters gone a x) (at : slice_get rewriters.mappers.items mapper ≡ Some templates) where
  pub mapper_there : mapper < length x.turns
  mapper_there =
      let within = slice_get_within rewriters.mappers.items mapper templates at in
      let many = length_map rewriters.mappers.items in
      let same = ap length ready.patterns in
      let turns = ready.turns in
      omega (arith, within, many, same, turns)

  pub patterns_at : slice_index x.patterns mapper ≡ length templates
  patterns_at = ap (λ p. slice_index p mapper) ready.patterns ∙ index_map rewriters.mappers.items mapper templates at

  -- the turn of the mapper moves, which the journal has
  pub advanced : (y : LedgerState) (i j : Journal) → slice_index x.turns mapper < slice_index x.patterns mapper
      → y ≡ record x { turns = slice_set x.turns mapper (turn_after (slice_index x.patterns mapper) (slice_index x.turns mapper)) }
      → j.picks.items ≡ i.picks.items → j.opened ≡ i.opened → j.moved.items ≡ i.moved.items ++ mapper ∷ [] → IsStep rewriters gone a a x y i j
  advanced y i j below is picks opened moved =
      let patterns : y.patterns ≡ x.patterns = ap (λ (l : LedgerState). l.patterns) is in
      let stocks : y.stocks ≡ x.stocks = ap (λ (l : LedgerState). l.stocks) is in
      let turns : y.turns ≡ slice_set x.turns mapper (turn_after (slice_index x.patterns mapper) (slice_index x.turns mapper)) = ap (λ (l : LedgerState). l.turns) is in
      record {
        ready = record {
          whole = record {
            stocks_are = ap (λ s. map (λ p. (p.lo, p.hi)) s) stocks ∙ ready.whole.stocks_are;
            shares_are = ready.whole.shares_are;
            together = λ number pool at port. subst (λ s. times port (ports_at s number) + times port (ports_at a.shares number) + times_held number port (held_ports a.store) ≡ times port (ports_from pool.lo (pool.hi + 1 - pool.lo))) (sym stocks) (ready.whole.together number pool at port);
          };
          none_left = λ number among. ap (λ s. ports_at s number) stocks ∙ ready.none_left number among;
          patterns = patterns ∙ ready.patterns;
          turns = ap length turns ∙ set_length x.turns mapper (turn_after (slice_index x.patterns mapper) (slice_index x.turns mapper)) ∙ ready.turns ∙ ap length (sym patterns);
        };
        picks = [];
        picks_are = picks ∙ sym (append-nil i.picks.items);
        since = λ mappings back before. record {
          more = before.more;
          mappings_are = before.mappings_are;
          counted = before.counted ∙ sym opened;
          turns_are = ap (λ m. turns_back y.patterns m y.turns) moved ∙ ap (λ p. turns_back p (i.moved.items ++ mapper ∷ []) y.turns) patterns
              ∙ moved_back x.patterns i.moved.items x.turns y.turns mapper mapper_there below turns ∙ before.turns_are;
        };
      }

-- so many templates were tried, and none made a mapping
pub record IsAlong (rewriters : Rewriters) (gone : List ℕ) (key : ForwardKey) (mapper : ℕ) (templates : List Template) (a b : Resources) (x y : LedgerState) (i j : Journal) (clashed : Bool) (count : ℕ) : Type 0 where
  pub step : IsStep rewriters gone a b x y i j
  pub store : b.store ≡ a.store
  pub turns : y.turns ≡ slice_set x.turns mapper (slice_index y.turns mapper)
  pub left : (more : List ℕ) → ring (try_template rewriters.pools.items (j.picks.items ++ more) (entries_of a.store) key) templates (length templates) (slice_index x.turns mapper) false (length i.picks.items)
      ≡ ring (try_template rewriters.pools.items (j.picks.items ++ more) (entries_of a.store) key) templates (length templates - count) (slice_index y.turns mapper) clashed (length j.picks.items)

pub along_none : (rewriters : Rewriters) (gone : List ℕ) (key : ForwardKey) (mapper : ℕ) (templates : List Template) (a : Resources) (x : LedgerState) (i : Journal) → IsStep rewriters gone a a x x i i
    → IsAlong rewriters gone key mapper templates a a x x i i false 0
along_none rewriters gone key mapper templates a x i step = record { step = step; store = refl; turns = sym (set_same x.turns mapper); left = λ more. ap (λ n. ring (try_template rewriters.pools.items (i.picks.items ++ more) (entries_of a.store) key) templates n (slice_index x.turns mapper) false (length i.picks.items)) (less_none (length templates)) }
  where
    less_none : (n : ℕ) → n ≡ n - 0
    less_none n = omega arith

module _ (rewriters : Rewriters) (gone : List ℕ) (key : ForwardKey) (mapper : ℕ) (templates : List Template) (a b c : Resources) (x y z : LedgerState) (i j k : Journal) (clashed : Bool) (count : ℕ)
    (there : mapper < length x.turns) (along : IsAlong rewriters gone key mapper templates a b x y i j clashed count) (below : count < length templates) (step : IsStep rewriters gone b c y z j k) where
  abbrev turn : ℕ
  turn = slice_index y.turns mapper

  abbrev behind : ℕ
  behind = turn_behind (length templates) turn

  same_turn : turn_after (length templates) turn ≡ behind
  same_turn = ap (λ n. if n == length templates then 0 else n) (one_more turn)
    where
      one_more : (n : ℕ) → n + 1 ≡ suc n
      one_more n = omega arith

  -- what the ring comes to behind one more try
  goes : (template : Template) → slice_get templates turn ≡ Some template → (more : List ℕ)
      → ring (try_template rewriters.pools.items (k.picks.items ++ more) (entries_of a.store) key) templates (length templates) (slice_index x.turns mapper) false (length i.picks.items)
      ≡ ring_on (ring (try_template rewriters.pools.items (k.picks.items ++ more) (entries_of a.store) key) templates (length templates - (count + 1)) behind) (after_try behind clashed (length j.picks.items) (try_template rewriters.pools.items (k.picks.items ++ more) (entries_of a.store) key (length j.picks.items) template))
  goes template at more =
      stepped (try_template rewriters.pools.items (k.picks.items ++ more) (entries_of a.store) key) templates (ring (try_template rewriters.pools.items (k.picks.items ++ more) (entries_of a.store) key) templates (length templates) (slice_index x.turns mapper) false (length i.picks.items)) count turn clashed (length j.picks.items)
      (subst (λ picks. ring (try_template rewriters.pools.items picks (entries_of a.store) key) templates (length templates) (slice_index x.turns mapper) false (length i.picks.items)
      ≡ ring (try_template rewriters.pools.items picks (entries_of a.store) key) templates (length templates - count) turn clashed (length j.picks.items))
      (sym (append_assoc j.picks.items step.picks more) ∙ ap (λ p. p ++ more) (sym step.picks_are)) (along.left (step.picks ++ more)))
      below template (try_template rewriters.pools.items (k.picks.items ++ more) (entries_of a.store) key (length j.picks.items) template) behind (after_try behind clashed (length j.picks.items) (try_template rewriters.pools.items (k.picks.items ++ more) (entries_of a.store) key (length j.picks.items) template)) at refl refl refl
      (after_try behind clashed (length j.picks.items) (try_template rewriters.pools.items (k.picks.items ++ more) (entries_of a.store) key (length j.picks.items) template)) refl

  turned : z.turns ≡ slice_set y.turns mapper (turn_after (length templates) turn) → z.turns ≡ slice_set x.turns mapper behind
  turned is = is ∙ ap (λ t. slice_set t mapper (turn_after (length templates) turn)) along.turns ∙ set_twice x.turns mapper turn (turn_after (length templates) turn) ∙ ap (slice_set x.turns mapper) same_turn

  turn_then : z.turns ≡ slice_set y.turns mapper (turn_after (length templates) turn) → slice_index z.turns mapper ≡ behind
  turn_then is = ap (λ t. slice_index t mapper) (turned is) ∙ set_index x.turns mapper behind there

  abbrev same_entries : entries_of b.store ≡ entries_of a.store
  same_entries = ap entries_of along.store

  module _ {E : Type 0} (found : Tried) (t : HasTurned {E = E} rewriters gone key mapper templates b c y z j.picks.items k.picks.items (Ok found)) where
    -- the ring goes on
    along_by : (other : Tried) → found ≡ other → (whether : Bool) → led_by clashed other ≡ led.Along whether → opened_in {E = E} (Ok other) ≡ 0 → EndsTry {E = E} rewriters gone key t.template b c z j.picks.items k.picks.items (Ok other) → (more : List ℕ)
        → ring_on (ring (try_template rewriters.pools.items (k.picks.items ++ more) (entries_of a.store) key) templates (length templates - (count + 1)) behind) (after_try behind clashed (length j.picks.items) (try_template rewriters.pools.items (k.picks.items ++ more) (entries_of a.store) key (length j.picks.items) t.template))
        ≡ ring (try_template rewriters.pools.items (k.picks.items ++ more) (entries_of a.store) key) templates (length templates - (count + 1)) behind whether (length k.picks.items)
    along_by (tried.Made meeting) is whether led none ends more = absurd cc
    along_by tried.Clashed is whether led none ends more =
        let comes = subst (λ es. ComesTo rewriters.pools.items es key t.template j.picks.items k.picks.items true ends.0) same_entries ends.1 in
        let met = comes.met in
        let so : true ≡ whether = cc in
        ap (λ attempt. ring_on (ring (try_template rewriters.pools.items (k.picks.items ++ more) (entries_of a.store) key) templates (length templates - (count + 1)) behind) (after_try behind clashed (length j.picks.items) attempt)) (comes.tried_is more)
        ∙ rw met (ap (λ w. ring (try_template rewriters.pools.items (k.picks.items ++ more) (entries_of a.store) key) templates (length templates - (count + 1)) behind w (length k.picks.items)) so)
    along_by tried.Exhausted is whether led none ends more =
        let so : clashed ≡ whether = cc in
        let finds = subst (λ es. FindsNone rewriters.pools.items es key t.template j.picks.items) same_entries ends.1 in
        ap (λ attempt. ring_on (ring (try_template rewriters.pools.items (k.picks.items ++ more) (entries_of a.store) key) templates (length templates - (count + 1)) behind) (after_try behind clashed (length j.picks.items) attempt))
        (ap (λ p. try_template rewriters.pools.items (p ++ more) (entries_of a.store) key (length j.picks.items) t.template) ends.0 ∙ finds more)
        ∙ ap (λ w. ring (try_template rewriters.pools.items (k.picks.items ++ more) (entries_of a.store) key) templates (length templates - (count + 1)) behind w (length j.picks.items)) so
        ∙ ap (λ p. ring (try_template rewriters.pools.items (k.picks.items ++ more) (entries_of a.store) key) templates (length templates - (count + 1)) behind whether (length p)) (sym ends.0)
    along_by (tried.Starved pool) is whether led none ends more = absurd cc

    none_opened : (other : Tried) (whether : Bool) → led_by clashed other ≡ led.Along whether → opened_in {E = E} (Ok other) ≡ 0
    none_opened (tried.Made meeting) whether led = absurd cc
    none_opened tried.Clashed whether led = refl
    none_opened tried.Exhausted whether led = refl
    none_opened (tried.Starved pool) whether led = refl

    pub along_next : (whether : Bool) → led_by clashed found ≡ led.Along whether → IsAlong rewriters gone key mapper templates a c x z i k whether (count + 1)
    along_next whether led =
        let none = none_opened found whether led in
        record {
          step = step_then rewriters gone a b c x y z i j k along.step step;
          store = t.stays none ∙ along.store;
          turns = turned t.turns ∙ ap (slice_set x.turns mapper) (sym (turn_then t.turns));
          left = λ more. goes t.template t.at more ∙ along_by found refl whether led none t.ends more
              ∙ ap (λ n. ring (try_template rewriters.pools.items (k.picks.items ++ more) (entries_of a.store) key) templates (length templates - (count + 1)) n whether (length k.picks.items)) (sym (turn_then t.turns));
        }

    -- the ring ends
    ended : (other : Tried) (ends : Passed) → led_by clashed other ≡ led.Ends ends → EndsTry {E = E} rewriters gone key t.template b c z j.picks.items k.picks.items (Ok other)
        → EndsBy (ring_decision rewriters.pools.items (entries_of a.store) key mapper templates x i.picks.items) rewriters gone a c x z k.picks.items ends
    ended (tried.Made meeting) passage led ends =
        let so : passed.Through (becomes.Rewritten meeting) ≡ passage = cc in
        let comes = subst (λ es. ComesTo rewriters.pools.items es key t.template j.picks.items k.picks.items false ends.translation) same_entries ends.comes in
        let met = comes.met in
        subst (EndsBy (ring_decision rewriters.pools.items (entries_of a.store) key mapper templates x i.picks.items) rewriters gone a c x z k.picks.items) so
        (record {
          decision = decision_of (becomes.Rewritten (forward_meeting ends.translation)) (Some (key, ends.translation)) (Some (mapper, behind)) (length k.picks.items);
          passage_is = ap becomes.Rewritten (sym ends.meeting_is);
          used = refl;
          decided = λ more.
              ap (by_round key mapper) (goes t.template t.at more
              ∙ ap (λ attempt. ring_on (ring (try_template rewriters.pools.items (k.picks.items ++ more) (entries_of a.store) key) templates (length templates - (count + 1)) behind) (after_try behind clashed (length j.picks.items) attempt)) (comes.tried_is more))
              ∙ rw met refl;
          tables_are = same_tables (entries_of c.store) (insert_entry forward_cmp (entries_of a.store) key ends.translation) z.turns (slice_set x.turns mapper behind)
              (ends.entries ∙ ap (λ es. insert_entry forward_cmp es key ends.translation) same_entries) (turned t.turns);
        })
    ended tried.Clashed passage led ends = absurd cc
    ended tried.Exhausted passage led ends = absurd cc
    ended (tried.Starved pool) passage led ends =
        let so : passed.Starved pool ≡ passage = cc in
        subst (EndsBy (ring_decision rewriters.pools.items (entries_of a.store) key mapper templates x i.picks.items) rewriters gone a c x z k.picks.items) so ends

    pub ends_next : (ends : Passed) → led_by clashed found ≡ led.Ends ends
        → EndsBy (ring_decision rewriters.pools.items (entries_of a.store) key mapper templates x i.picks.items) rewriters gone a c x z k.picks.items ends
    ends_next ends led = ended found ends led t.ends

-- each was tried, and none made a mapping
pub none_ends : (rewriters : Rewriters) (gone : List ℕ) (key : ForwardKey) (mapper : ℕ) (templates : List Template) (a b : Resources) (x y : LedgerState) (i j : Journal) (clashed : Bool) (count : ℕ)
    → IsAlong rewriters gone key mapper templates a b x y i j clashed count → length templates ≤ count
    → EndsBy (ring_decision rewriters.pools.items (entries_of a.store) key mapper templates x i.picks.items) rewriters gone a b x y j.picks.items (none_made clashed)
none_ends rewriters gone key mapper templates a b x y i j clashed count along past = record {
  decision = decision_of (if clashed then becomes.Dropped cause.Clash else becomes.Dropped cause.Exhausted) None (Some (mapper, slice_index y.turns mapper)) (length j.picks.items);
  passage_is = refl;
  used = refl;
  decided = λ more. ap (by_round key mapper) (over (try_template rewriters.pools.items (j.picks.items ++ more) (entries_of a.store) key) templates
      (ring (try_template rewriters.pools.items (j.picks.items ++ more) (entries_of a.store) key) templates (length templates) (slice_index x.turns mapper) false (length i.picks.items))
      count (slice_index y.turns mapper) clashed (length j.picks.items) (along.left more) past);
  tables_are = same_tables (entries_of b.store) (entries_of a.store) y.turns (slice_set x.turns mapper (slice_index y.turns mapper)) (ap entries_of along.store) along.turns;
}

-- ---- one turn of the ring

pub on_ok : {A E : Type 0} {P : Type 0} (result : Result A E) → P → OnOk result P
on_ok (Ok value) p = p
on_ok (Err e) p = tt

pub turned_by : {E : Type 0} (rewriters : Rewriters) (gone : List ℕ) (key : ForwardKey) (mapper : ℕ) (templates : List Template) (a c : Resources) (x y z : LedgerState) (before after : List ℕ) (result : Result Tried E) (template : Template)
    → slice_index x.patterns mapper ≡ length templates → slice_get templates (slice_index x.turns mapper) ≡ Some template
    → y ≡ record x { turns = slice_set x.turns mapper (turn_after (slice_index x.patterns mapper) (slice_index x.turns mapper)) }
    → IsTry rewriters gone a c y z before after (opened_in result) → EndsTry rewriters gone key template a c z before after result
    → HasTurned rewriters gone key mapper templates a c x z before after result
turned_by rewriters gone key mapper templates a c x y z before after result template count at is kept ends = record {
  template = template;
  at = at;
  turns = kept.turns ∙ ap (λ (l : LedgerState). l.turns) is ∙ ap (λ n. slice_set x.turns mapper (turn_after n (slice_index x.turns mapper))) count;
  stays = λ none. nothing_more rewriters gone key template a c y z before after kept.more kept.store_is (kept.counted ∙ none);
  ends = ends;
}
