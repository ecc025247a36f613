-- A try of a template: what it keeps, and how it ends.
use Rattle.std.proofs.Common.{◌≡◌, ◌∙◌, sym, ap, subst, refl, ℕ, List, [], ◌∷◌, ◌++◌, length, append-nil}
use Rattle.std.specs.Prelude.{Option, None, Result, Ok, Err}
use Rattle.mt_kinds.specs.declared.rewriter.Pool.{Pool}
use Rattle.mt_kinds.specs.declared.rewriter.SourcePort.{SourcePort}
use Rattle.mt_kinds.specs.declared.rewriter.SourcePort.TheVariants as wanted
use Rattle.mt_kinds.specs.declared.rewriter.Template.{Template}
use Rattle.mt_elements.specs.declared.chain.Rewriters.{Rewriters}
use Rattle.mt_ledger.specs.Ledger.{LedgerState}
use Rattle.mt_ledger.specs.Pools.{PoolPorts, ports_at}
use Rattle.mt_ledger.specs.Ports.{HeldPort}
use Rattle.mt_flow.specs.Mappings.{StandsReply, refused_of, reply_key}
use Rattle.mt_flow.specs.declared.keys.ForwardKey.{ForwardKey}
use Rattle.mt_flow.specs.declared.mapping.Mapping.{Mapping}
use Rattle.mt_flow.specs.declared.mapping.OpenFault.{OpenFault}
use Rattle.mt_flow.specs.declared.mapping.OpenFault.TheVariants as fault
use Rattle.mt_pipeline.specs.Passing.{IsReady, IsStarved}
use Rattle.mt_pipeline.specs.Standing.{AreWhole, entries_of, held_ports, translation_of, with_held}
use Rattle.mt_pipeline.specs.Trying.{EndsOpening, EndsSource, EndsSourced, EndsTry, HasMoved, IsExhausted, IsGivable, IsGivenBack, IsRefusal, IsSource, IsTry, mapping_of, opened_in, token_of}
use Rattle.mt_pipeline.specs.declared.ports.Sourced.{Sourced}
use Rattle.mt_pipeline.specs.declared.ports.Sourced.TheVariants as sourced
use Rattle.mt_pipeline.specs.declared.resources.Resources.{Resources}
use Rattle.mt_pipeline.specs.declared.tries.Tried.{Tried}
use Rattle.mt_pipeline.specs.declared.tries.Tried.TheVariants as tried
use Rattle.mt_pipeline.proofs.Entries.{ForwardApart, ReplyApart, one_more}
use Rattle.mt_pipeline.proofs.Sources.{clashed_try, exhausted_is, exhausted_try, made_try, source_is}
use Rattle.mt_pipeline.proofs.Whole.{givable, not_moved, whole_opened}

-- what is picked for a source port
picks_of : (pools : List Pool) (own : ℕ) (asked : SourcePort) (port : ℕ) (held : Option HeldPort) (before after : List ℕ) → IsSource pools own asked port held before after → (picks : List ℕ) × (after ≡ before ++ picks)
picks_of pools own wanted.Same port held before after is = ([], is.2 ∙ sym (append-nil before))
picks_of pools own (wanted.One fixed) port held before after is = ([], is.2 ∙ sym (append-nil before))
picks_of pools own (wanted.Pool number) port held before after is = (port ∷ [], is.2)

module _ (rewriters : Rewriters) (gone : List ℕ) (a : Resources) (x y : LedgerState) (ready : IsReady rewriters gone a x) where
  abbrev pools : List Pool
  pools = rewriters.pools.items

  ready_then : (token : Option HeldPort) (shares : List PoolPorts) (c : Resources) → HasMoved token x y a.shares shares → AreWhole pools y c.shares (held_ports c.store) → IsReady rewriters gone c y
  ready_then token shares c moved whole = record {
    whole = whole;
    none_left = moved.gone gone ready.none_left;
    patterns = moved.patterns ∙ ready.patterns;
    turns = ap length moved.turns ∙ ready.turns ∙ ap length (sym moved.patterns);
  }

  -- nothing is opened
  pub kept_unopened : (c : Resources) (before after : List ℕ) → HasMoved None x y a.shares c.shares → c.store ≡ a.store → after ≡ before → IsTry rewriters gone a c x y before after 0
  kept_unopened c before after moved same picks = record {
    ready = ready_then None c.shares c moved (subst (λ (s : List Mapping). AreWhole pools y c.shares (held_ports s)) (sym same) (moved.whole pools (held_ports a.store) ready.whole));
    turns = moved.turns;
    patterns = moved.patterns;
    picks = [];
    picks_are = picks ∙ sym (append-nil before);
    more = [];
    store_is = same ∙ sym (append-nil a.store);
    counted = refl;
  }

  find_none : (c : Resources) (key : ForwardKey) (template : Template) (before after : List ℕ) → ForwardApart a.store → HasMoved None x y a.shares c.shares → c.store ≡ a.store
      → (after ≡ before) × IsExhausted pools y c.shares template.sp → EndsTry {E = Unit {0}} rewriters gone key template a c y before after (Ok tried.Exhausted)
  find_none c key template before after apart moved same is = (
    is.0,
    exhausted_try pools a.store apart key template before after
        (λ more. exhausted_is pools a.store apart y c.shares key.before.sp template.sp (length before) (before ++ more) (moved.whole pools (held_ports a.store) ready.whole) is.1),
  )

  module _ (b : Resources) (key : ForwardKey) (template : Template) (before after : List ℕ) (port : ℕ) (held : Option HeldPort) (same : b.store ≡ a.store)
      (moved : HasMoved held x y a.shares b.shares) (is : IsSource pools key.before.sp template.sp port held before after) where
    abbrev made : Mapping
    made = mapping_of key template port held

    whole_then : AreWhole pools y b.shares (with_held held (held_ports a.store))
    whole_then = moved.whole pools (held_ports a.store) ready.whole

    pub givable_then : IsGivable pools b.shares held
    givable_then = givable pools y b.shares held (held_ports a.store) whole_then

    pub kept_then : {E : Type 0} (c : Resources) (result : Result Tried E) → EndsOpening pools made b c result → IsTry rewriters gone a c x y before after (opened_in result)
    kept_then c (Ok (tried.Made meeting)) ends =
        let picks = picks_of pools key.before.sp template.sp port held before after is in
        let store_is : c.store ≡ a.store ++ made ∷ [] = ends.0 ∙ ap (λ (s : List Mapping). s ++ made ∷ []) same in
        record {
          ready = ready_then held b.shares c moved
              (subst (λ (s : List Mapping). AreWhole pools y c.shares (held_ports s)) (sym store_is)
              (subst (λ (s : List PoolPorts). AreWhole pools y s (held_ports (a.store ++ made ∷ []))) (sym ends.1) (whole_opened pools y b.shares a.store made whole_then)));
          turns = moved.turns;
          patterns = moved.patterns;
          picks = picks.0;
          picks_are = picks.1;
          more = made ∷ [];
          store_is = store_is;
          counted = refl;
        }
    kept_then c (Ok tried.Clashed) ends =
        let picks = picks_of pools key.before.sp template.sp port held before after is in
        let store_is : c.store ≡ a.store = ends.0 ∙ same in
        record {
          ready = ready_then held b.shares c moved (subst (λ (s : List Mapping). AreWhole pools y c.shares (held_ports s)) (sym store_is) (ends.2 y (held_ports a.store) whole_then));
          turns = moved.turns;
          patterns = moved.patterns;
          picks = picks.0;
          picks_are = picks.1;
          more = [];
          store_is = store_is ∙ sym (append-nil a.store);
          counted = refl;
        }
    kept_then c (Ok tried.Exhausted) ends = absurd ends
    kept_then c (Ok (tried.Starved pool)) ends = absurd ends
    kept_then c (Err e) ends =
        let picks = picks_of pools key.before.sp template.sp port held before after is in
        let store_is : c.store ≡ a.store = ends.0 ∙ same in
        record {
          ready = ready_then held b.shares c moved (subst (λ (s : List Mapping). AreWhole pools y c.shares (held_ports s)) (sym store_is) (ends.1 y (held_ports a.store) whole_then));
          turns = moved.turns;
          patterns = moved.patterns;
          picks = picks.0;
          picks_are = picks.1;
          more = [];
          store_is = store_is ∙ sym (append-nil a.store);
          counted = refl;
        }

    pub ends_then : {E : Type 0} (c : Resources) (result : Result Tried E) → ForwardApart a.store → ReplyApart a.store → EndsOpening pools made b c result → EndsTry rewriters gone key template a c y before after result
    ends_then c (Ok (tried.Made meeting)) apart replies ends = record {
      translation = translation_of made;
      comes = made_try pools a.store apart key template before after port held (λ more. source_is pools a.store apart y b.shares key.before.sp template.sp port held before after more whole_then is)
          (λ stands. ends.2 (subst (λ (s : List Mapping). StandsReply s (reply_key made)) (sym same) stands));
      entries = ap entries_of (ends.0 ∙ ap (λ (s : List Mapping). s ++ made ∷ []) same) ∙ one_more [] a.store made;
      meeting_is = ends.3;
    }
    ends_then c (Ok tried.Clashed) apart replies ends = (
      translation_of made,
      clashed_try pools a.store apart key template before after port held (λ more. source_is pools a.store apart y b.shares key.before.sp template.sp port held before after more whole_then is)
          replies (subst (λ (s : List Mapping). StandsReply s (reply_key made)) same ends.1),
    )
    ends_then c (Ok tried.Exhausted) apart replies ends = absurd ends
    ends_then c (Ok (tried.Starved pool)) apart replies ends = absurd ends
    ends_then c (Err e) apart replies ends = tt

  -- the whole try
  module _ (b c : Resources) (key : ForwardKey) (template : Template) (before after : List ℕ) (same : b.store ≡ a.store) where
    pub attempt_givable : (found : Sourced) → HasMoved (token_of found) x y a.shares b.shares → IsGivable pools b.shares (token_of found)
    attempt_givable found moved = givable pools y b.shares (token_of found) (held_ports a.store) (moved.whole pools (held_ports a.store) ready.whole)

    unmoved : (token : Option HeldPort) (shares : List PoolPorts) → shares ≡ b.shares → HasMoved token x y a.shares b.shares → HasMoved token x y a.shares shares
    unmoved token shares is moved = subst (HasMoved token x y a.shares) (sym is) moved

    pub attempt_kept : {E : Type 0} (found : Sourced) (result : Result Tried E) → HasMoved (token_of found) x y a.shares b.shares → EndsSource {E = E} pools gone y b.shares key.before.sp template.sp before after (Ok found)
        → EndsSourced pools key template found b c result → IsTry rewriters gone a c x y before after (opened_in result)
    attempt_kept (sourced.Port port held) result moved is ends = kept_then b key template before after port held same moved is c result ends
    attempt_kept sourced.Exhausted (Ok tried.Exhausted) moved is ends = kept_unopened c before after (unmoved None c.shares ends.1 moved) (ends.0 ∙ same) is.0
    attempt_kept sourced.Exhausted (Ok (tried.Made meeting)) moved is ends = absurd ends
    attempt_kept sourced.Exhausted (Ok tried.Clashed) moved is ends = absurd ends
    attempt_kept sourced.Exhausted (Ok (tried.Starved other)) moved is ends = absurd ends
    attempt_kept sourced.Exhausted (Err e) moved is ends = absurd ends
    attempt_kept (sourced.Starved pool) (Ok (tried.Starved other)) moved is ends = kept_unopened c before after (unmoved None c.shares ends.2 moved) (ends.1 ∙ same) is.0
    attempt_kept (sourced.Starved pool) (Ok (tried.Made meeting)) moved is ends = absurd ends
    attempt_kept (sourced.Starved pool) (Ok tried.Clashed) moved is ends = absurd ends
    attempt_kept (sourced.Starved pool) (Ok tried.Exhausted) moved is ends = absurd ends
    attempt_kept (sourced.Starved pool) (Err e) moved is ends = absurd ends

    pub attempt_ends : {E : Type 0} (found : Sourced) (result : Result Tried E) → ForwardApart a.store → ReplyApart a.store → HasMoved (token_of found) x y a.shares b.shares
        → EndsSource {E = E} pools gone y b.shares key.before.sp template.sp before after (Ok found) → EndsSourced pools key template found b c result → EndsTry rewriters gone key template a c y before after result
    attempt_ends (sourced.Port port held) result apart replies moved is ends = ends_then b key template before after port held same moved is c result apart replies ends
    attempt_ends sourced.Exhausted (Ok tried.Exhausted) apart replies moved is ends =
        find_none c key template before after apart (unmoved None c.shares ends.1 moved) (ends.0 ∙ same)
        (is.0, subst (λ (s : List PoolPorts). IsExhausted pools y s template.sp) (sym ends.1) is.1)
    attempt_ends sourced.Exhausted (Ok (tried.Made meeting)) apart replies moved is ends = absurd ends
    attempt_ends sourced.Exhausted (Ok tried.Clashed) apart replies moved is ends = absurd ends
    attempt_ends sourced.Exhausted (Ok (tried.Starved other)) apart replies moved is ends = absurd ends
    attempt_ends sourced.Exhausted (Err e) apart replies moved is ends = absurd ends
    attempt_ends (sourced.Starved pool) (Ok (tried.Starved other)) apart replies moved is ends =
        subst (IsStarved rewriters gone c y) (sym ends.0)
        (record { known = is.1; not_gone = is.2; share = ap (λ (s : List PoolPorts). ports_at s pool) ends.2 ∙ is.3.share; stock = is.3.stock })
    attempt_ends (sourced.Starved pool) (Ok (tried.Made meeting)) apart replies moved is ends = absurd ends
    attempt_ends (sourced.Starved pool) (Ok tried.Clashed) apart replies moved is ends = absurd ends
    attempt_ends (sourced.Starved pool) (Ok tried.Exhausted) apart replies moved is ends = absurd ends
    attempt_ends (sourced.Starved pool) (Err e) apart replies moved is ends = absurd ends

pub refused_try : (rewriters : Rewriters) (gone : List ℕ) (a : Resources) (x : LedgerState) (before after : List ℕ) → IsReady rewriters gone a x → after ≡ before → IsTry rewriters gone a a x x before after 0
refused_try rewriters gone a x before after ready same = kept_unopened rewriters gone a x x ready a before after (not_moved x a.shares) refl same

-- the shares moved, and no port was taken
pub unfound_try : (rewriters : Rewriters) (gone : List ℕ) (a b : Resources) (x y : LedgerState) (before after : List ℕ) → IsReady rewriters gone a x → HasMoved None x y a.shares b.shares → b.store ≡ a.store → after ≡ before
    → IsTry rewriters gone a b x y before after 0
unfound_try rewriters gone a b x y before after ready moved same picks = kept_unopened rewriters gone a x y ready b before after moved same picks

-- a mapping that was refused
pub refusal_ends : {E : Type 0} (all : List Pool) (mapping : Mapping) (a b : Resources) (refusal : OpenFault) (result : Result Tried E) → b.store ≡ a.store → refused_of refusal ≡ mapping
    → (refusal ≡ fault.Clash mapping → StandsReply a.store (reply_key mapping)) → IsGivenBack all a.shares b.shares (refused_of refusal).port → IsRefusal refusal result → EndsOpening all mapping a b result
refusal_ends all mapping a b (fault.Clash m) (Ok (tried.Made meeting)) same is stands back why = absurd why
refusal_ends all mapping a b (fault.Clash m) (Ok tried.Clashed) same is stands back why = (same, stands (ap fault.Clash is), subst (λ (n : Mapping). IsGivenBack all a.shares b.shares n.port) is back)
refusal_ends all mapping a b (fault.Clash m) (Ok tried.Exhausted) same is stands back why = absurd why
refusal_ends all mapping a b (fault.Clash m) (Ok (tried.Starved pool)) same is stands back why = absurd why
refusal_ends all mapping a b (fault.Clash m) (Err e) same is stands back why = absurd why
refusal_ends all mapping a b (fault.NoMemory m) (Ok found) same is stands back why = absurd why
refusal_ends all mapping a b (fault.NoMemory m) (Err e) same is stands back why = (same, subst (λ (n : Mapping). IsGivenBack all a.shares b.shares n.port) is back)
