-- What a try of the head of a queue means for the chain.
use Rattle.std.proofs.Common.{◌≡◌, ◌∙◌, sym, ap, subst, refl, ℕ, suc, ◌+◌, ◌<◌, ◌≤◌, List, [], ◌∷◌, ◌++◌, length, map, drop, arith, add-zero}
use Rattle.std.specs.Prelude.{Some, None, Ok, false, slice_index_or}
use Rattle.mt_packet.specs.Header.{AreBytes, field_of, header_of}
use Rattle.mt_packet.specs.Packet.{PacketState}
use Rattle.mt_packet.specs.declared.field.Field.TheVariants as of
use Rattle.mt_packet.specs.declared.flow.Flow.{Flow}
use Rattle.mt_packet.specs.declared.span.Span.{Span}
use Rattle.mt_cuts.specs.declared.cut.Cut.{Cut}
use Rattle.mt_elements.specs.ChainState.{ChainState}
use Rattle.mt_elements.specs.declared.chain.Rewriters.{Rewriters}
use Rattle.mt_ledger.specs.Ledger.{LedgerState}
use Rattle.mt_rewriter.specs.Kept.{AreTables}
use Rattle.mt_rewriter.specs.Mappings.{TablesState}
use Rattle.mt_chain.specs.Fates.{packet_of}
use Rattle.mt_chain.specs.Run.{IsThere, Run, run_answer, stamped_of}
use Rattle.mt_chain.specs.declared.run.Fate.{Fate}
use Rattle.mt_chain.specs.declared.run.Fate.TheVariants as fate
use Rattle.mt_terms.specs.Trees.{TreeForm, RewriteForm, leaf, drop as dropped, rewrite_form}
use Rattle.mt_terms.specs.Writes.{write_form}
use Rattle.mt_terms.specs.declared.tree.Tree.{Tree}
use Rattle.mt_packet.specs.declared.cause.Cause.{Cause}
use Rattle.mt_trees.specs.Elements.{tree_of}
use Rattle.mt_trees.specs.Meaning.{CanRewrite, CanServe, Under, first_under, meaning_of, rewriters_of, rewritten}
use Rattle.mt_trees.specs.Ranges.{AreInRange}
use Rattle.mt_pipeline.proofs.Ends.{tree_ends}
use Rattle.mt_pipeline.specs.Contexts.{IsContextOf}
use Rattle.mt_pipeline.specs.Passing.{IsReady}
use Rattle.mt_pipeline.specs.Reached.{meant_at, reached, writes_of}
use Rattle.mt_pipeline.specs.Serving.{CanTurn, EndsTry, EndsTurn, Finishes, HasCounted, IsFinished, IsLeft, MayFinish, TurnLaws, server_of}
use Rattle.mt_pipeline.specs.Standing.{AreGone, AreWhole, held_ports, tables_of}
use Rattle.mt_pipeline.specs.Turns.{AreExpected, HasServed, ServerState, ServiceState}
use Rattle.mt_pipeline.specs.Walking.{CanWalk, EndsIn, known, state_of}
use Rattle.mt_pipeline.specs.declared.resources.Resources.{Resources}
use Rattle.mt_pipeline.specs.declared.server.Queued.{Queued}
use Rattle.mt_pipeline.specs.declared.server.Turn.{Turn}
use Rattle.mt_pipeline.specs.declared.server.Turn.TheVariants as turn
use Rattle.mt_pipeline.specs.declared.steps.End.{End}
use Rattle.mt_pipeline.specs.declared.steps.End.TheVariants.{Leaf, Drop, Starved}

drop_front : (xs ys : List ℕ) → drop (length xs) (xs ++ ys) ≡ ys
drop_front [] ys = refl
drop_front (x ∷ xs) ys = drop_front xs ys

map_length : {A B : Type 0} (f : A → B) (xs : List A) → length (map f xs) ≡ length xs
map_length f [] = refl
map_length f (x ∷ xs) = ap suc (map_length f xs)

-- a queue with its first frame
pub first_of : (queue : List Queued) (head : Queued) (count : ℕ) → 0 < count → count ≡ length queue → head ≡ slice_index_or queue 0 head → queue ≡ head ∷ drop 1 queue
first_of [] head count some counted is = absurd (omega arith)
first_of (first ∷ rest) head count some counted is = ap (λ q. q ∷ rest) (sym is)

-- tables with other turns
abbrev turned : TablesState → List ℕ → TablesState
turned tables turns = record { mappings = tables.mappings; turns = turns }

-- a run's end
abbrev ran : Fate → TablesState → List ℕ → Run
ran fate tables picks = record { fate = fate; tables = tables; picks = picks }

device_of : (device : ℕ) (frame : List ℕ) → field_of (header_of device frame) of.Device ≡ device
unfolding header_of
device_of device frame = refl

-- the device of the head is one of the chain's
pub head_first : (chain : ChainState) (rewriters : Rewriters) (classes : List (List (List Span) × Tree)) (index : ℕ × Cut) (head : Queued) (rest queue : List Queued) (resources : Resources) (ledger : LedgerState)
    → CanTurn chain rewriters classes index (server_of queue resources) ledger → queue ≡ head ∷ rest → (header : List ℕ) → header ≡ header_of head.stamped.device head.stamped.frame
    → (0 < field_of header of.Device) × (field_of header of.Device ≤ chain.entries)
head_first chain rewriters classes index head rest queue resources ledger can queue_is header header_is =
    let here = (subst (AreExpected chain) queue_is can.expected).0 in
    let device = ap (λ h. field_of h of.Device) header_is ∙ device_of head.stamped.device head.stamped.frame in
    (subst (λ n. 0 < n) (sym device) here.0, subst (λ n. n ≤ chain.entries) (sym device) here.1)

module _ (laws : TurnLaws) (rewriters : Rewriters) (classes : List (List (List Span) × Tree)) (index : ℕ × Cut) (gone : List ℕ) (head : Queued) (rest queue : List Queued) (queue_is : queue ≡ head ∷ rest)
    (bytes : AreBytes head.stamped.frame) (resources : Resources) (ledger : LedgerState) (header : List ℕ) (header_is : header ≡ header_of head.stamped.device head.stamped.frame) (tree : TreeForm)
    (tree_is : (chain : ChainState) → IsContextOf chain rewriters classes index → 0 < field_of header of.Device → field_of header of.Device ≤ chain.entries → tree_of chain header ≡ Some tree) where
  abbrev p : PacketState
  p = packet_of head.stamped

  abbrev tables : TablesState
  tables = tables_of resources.store ledger

  abbrev old : ServerState
  old = server_of queue resources

  module _ (chain : ChainState) (can : CanTurn chain rewriters classes index old ledger) where
    here : (0 < head.stamped.device) × (head.stamped.device ≤ chain.entries)
    here = (subst (AreExpected chain) queue_is can.expected).0

    first_here : (0 < field_of header of.Device) × (field_of header of.Device ≤ chain.entries)
    first_here = head_first chain rewriters classes index head rest queue resources ledger can queue_is header header_is

    state_is : state_of rewriters ≡ rewriters_of chain
    state_is =
        let s = can.made.made.specs in
        let m = can.made.made.mappers in
        let q = can.made.made.pools in
        λ i. record { specs = s i; mappers = m i; pools = q i }

    found : tree_of chain (header_of head.stamped.device head.stamped.frame) ≡ Some tree
    found = subst (λ h. tree_of chain h ≡ Some tree) header_is (tree_is chain can.made first_here.0 first_here.1)

    pub ready : AreGone gone ledger → IsReady rewriters gone resources ledger
    ready none = record {
      whole = subst (λ q. AreWhole q ledger resources.shares (held_ports resources.store)) (sym can.made.made.pools) can.standing.whole;
      none_left = none;
      patterns = can.standing.patterns ∙ sym (ap (map length) can.made.made.mappers);
      turns = can.standing.turns;
    }

    mean : (picks : List ℕ) → meaning_of (rewriters_of chain) picks p header tree (first_under tables) ≡ run_answer chain tables p picks
    mean picks =
        subst (λ h. meaning_of (rewriters_of chain) picks p h tree (first_under tables) ≡ run_answer chain tables p picks) (sym header_is)
        (laws.mean chain can.made.accepted can.made.numbered head.stamped.frame bytes head.stamped.stamp head.stamped.device head.stamped.number tables can.standing.kept can.standing.range picks tree found)

    there : (picks : List ℕ) → IsThere (run_answer chain tables p picks)
    there picks = laws.there chain can.made.accepted can.made.numbered p refl here.0 here.1 tables can.standing.kept picks

    serve : (picks : List ℕ) → CanServe (rewriters_of chain) picks p header tree (first_under tables)
    serve picks =
        subst (λ h. CanServe (rewriters_of chain) picks p h tree (first_under tables)) (sym header_is)
        (laws.serve chain can.made.accepted can.made.numbered head.stamped.frame bytes head.stamped.stamp head.stamped.device head.stamped.number tables can.standing.kept can.standing.range picks tree found)

    pub can_walk : CanWalk (state_of rewriters) [] header tree (known [] resources.store ledger [])
    can_walk = record {
      packet = p;
      serves = λ more. subst (λ r. CanServe r more p header tree (first_under tables)) (sym state_is) (serve more);
      there = λ more. subst (λ r. IsThere (meaning_of r more p header tree (first_under tables))) (sym state_is) (subst IsThere (sym (mean more)) (there more));
    }

    -- at a leaf
    pub may_sent : (picks : List ℕ) (under' : Under) (rewrite : RewriteForm) (device : ℕ) → EndsIn (state_of rewriters) picks header tree (first_under tables) (leaf rewrite device) under'
        → (rewrite.untag ≡ false) × (rewrite.tag ≡ None) × CanRewrite header under'.passed rewrite p
    unfolding CanServe
    may_sent picks under' rewrite device ends = ends.serves p [] (subst (λ r. CanServe r (picks ++ []) p header tree (first_under tables)) (sym state_is) (serve (picks ++ [])))

    module _ (picks : List ℕ) (under' : Under) (used : under'.used ≡ length picks) (place : TreeForm) (ends : EndsIn (state_of rewriters) picks header tree (first_under tables) place under')
        (fate : Fate) (means : (l : List ℕ) → meaning_of (rewriters_of chain) l p header place under' ≡ Some (Ok (ran fate under'.tables (drop under'.used l)))) where
      leads : (more : List ℕ) → reached (rewriters_of chain) (picks ++ more) p header tree (first_under tables) ≡ Some (Ok (place, under'))
      leads more = subst (λ r. reached r (picks ++ more) p header tree (first_under tables) ≡ Some (Ok (place, under'))) state_is (ends.ends p more)

      run_to : (more : List ℕ) → run_answer chain tables p (picks ++ more) ≡ Some (Ok (ran fate under'.tables more))
      run_to more =
          sym (mean (picks ++ more))
          ∙ (tree_ends (rewriters_of chain) (picks ++ more) p header tree (first_under tables)
          ∙ (ap (meant_at (rewriters_of chain) (picks ++ more) p header) (leads more)
          ∙ (means (picks ++ more)
          ∙ ap (λ l. Some (Ok (ran fate under'.tables l))) (ap (λ n. drop n (picks ++ more)) used ∙ drop_front picks more))))

      -- it stands for tables of the chain behind it too
      stands_on : (resources' : Resources) (ledger' : LedgerState) (queue' : List Queued) → under'.tables ≡ tables_of resources'.store ledger' → IsReady rewriters gone resources' ledger' → queue ≡ head ∷ queue'
          → CanTurn chain rewriters classes index (server_of queue' resources') ledger'
      stands_on resources' ledger' queue' same now q =
          let run : run_answer chain tables p (picks ++ []) ≡ Some (Ok (ran fate under'.tables [])) = run_to [] in
          record {
            made = can.made;
            standing = record {
              whole = subst (λ l. AreWhole l ledger' resources'.shares (held_ports resources'.store)) can.made.made.pools now.whole;
              patterns = now.patterns ∙ ap (map length) can.made.made.mappers;
              turns = now.turns;
              kept = subst (AreTables chain) same (laws.keep chain tables can.standing.kept p (picks ++ []) (ran fate under'.tables []) run);
              range = subst AreInRange same
                  (laws.stay chain can.made.accepted can.made.numbered head.stamped.device here.0 here.1 head.stamped.frame bytes head.stamped.stamp head.stamped.number tables can.standing.kept can.standing.range (picks ++ [])
                  (ran fate under'.tables []) run);
            };
            expected = (subst (AreExpected chain) q can.expected).1;
          }

    -- where all is as before it stands as before
    stands_still : (resources' : Resources) (ledger' : LedgerState) (queue' : List Queued) → IsLeft resources resources' ledger ledger' → IsReady rewriters gone resources' ledger' → queue' ≡ queue → CanTurn chain rewriters classes index (server_of queue' resources') ledger'
    stands_still resources' ledger' queue' left now q =
        let m = left.mappings in
        let t = left.turns in
        let same : tables_of resources'.store ledger' ≡ tables = ap (λ s. tables_of s ledger') m ∙ ap (turned tables) t in
        record {
          made = can.made;
          standing = record {
            whole = subst (λ l. AreWhole l ledger' resources'.shares (held_ports resources'.store)) can.made.made.pools now.whole;
            patterns = now.patterns ∙ ap (map length) can.made.made.mappers;
            turns = now.turns;
            kept = subst (AreTables chain) (sym same) can.standing.kept;
            range = subst AreInRange (sym same) can.standing.range;
          };
          expected = subst (AreExpected chain) (sym q) can.expected;
        }

  -- ---- the end of a turn

  -- a try that was broken off took all back
  pub left_kept : (resources' : Resources) (ledger' : LedgerState) → IsLeft resources resources' ledger ledger' → IsReady rewriters gone resources' ledger'
      → (chain : ChainState) → CanTurn chain rewriters classes index old ledger → CanTurn chain rewriters classes index (server_of queue resources') ledger'
  left_kept resources' ledger' left now chain can = stands_still chain can resources' ledger' queue left now refl

  module _ (passed' : List Flow) (picks : List ℕ) (resources' : Resources) (ledger' : LedgerState) (queue' : List Queued) (writes writes' : ℕ) where
    abbrev under' : Under
    under' = known passed' resources'.store ledger' picks

    abbrev new : ServerState
    new = server_of queue' resources'

    same_head : (other : Queued) → queue ≡ other ∷ queue' → other ≡ head
    same_head other q = ap (λ l. slice_index_or l 0 head) (sym q ∙ queue_is)

    means_sent : (chain : ChainState) (rewrite : RewriteForm) (device : ℕ) (l : List ℕ)
        → meaning_of (rewriters_of chain) l p header (leaf rewrite device) under' ≡ Some (Ok (ran (fate.Sent device (stamped_of (rewritten header passed' rewrite p))) under'.tables (drop under'.used l)))
    unfolding meaning_of
    means_sent chain rewrite device l = refl

    module _ (place : TreeForm) (ends : EndsIn (state_of rewriters) picks header tree (first_under tables) place under') (fate_of : PacketState → Fate)
        (means : (chain : ChainState) (l : List ℕ) → meaning_of (rewriters_of chain) l p header place under' ≡ Some (Ok (ran (fate_of p) under'.tables (drop under'.used l))))
        (count : ℕ) (counts : count ≡ writes + writes_of place) (ended : Turn) (is : IsFinished picks queue queue' writes' count fate_of ended) where
      head_is : is.head ≡ head
      head_is = same_head is.head is.queue_was

      queue_was : queue ≡ head ∷ queue'
      queue_was = is.queue_was ∙ ap (λ q. q ∷ queue') head_is

      abbrev service : ServiceState
      service = record { number = is.head.stamped.number; fate = fate_of (packet_of is.head.stamped); picks = picks }

      served : (chain : ChainState) → CanTurn chain rewriters classes index old ledger → HasServed chain old new ledger ledger' service × HasCounted chain old ledger picks writes writes'
      served chain can = (
        record {
          head = head;
          queue_was = queue_was;
          number_is = ap (λ (q : Queued). q.stamped.number) head_is;
          run = λ more. run_to chain can picks under' refl place ends (fate_of p) (means chain) more
              ∙ ap (λ (q : Queued). Some (Ok (ran (fate_of (packet_of q.stamped)) under'.tables more))) (sym head_is);
        },
        record {
          head = head;
          rest = queue';
          queue_was = queue_was;
          tree = tree;
          tree_is = found chain can;
          place = (place, under');
          leads = λ more.
              subst (λ h. reached (rewriters_of chain) (picks ++ more) p h tree (first_under tables) ≡ Some (Ok (place, under'))) header_is
              (leads chain can picks under' refl place ends (fate_of p) (means chain) more);
          counted = is.counted ∙ counts;
        },
      )

      finished : EndsTurn rewriters classes index old new ledger ledger' gone writes writes' ended
      finished = subst (EndsTurn rewriters classes index old new ledger ledger' gone writes writes') (sym is.turn_is) served

      kept_on : IsReady rewriters gone resources' ledger' → (chain : ChainState) → CanTurn chain rewriters classes index old ledger → CanTurn chain rewriters classes index new ledger'
      kept_on now chain can = stands_on chain can picks under' refl place ends (fate_of p) (means chain) resources' ledger' queue' refl now queue_was

    means_dropped : (chain : ChainState) (why : Cause) (l : List ℕ) → meaning_of (rewriters_of chain) l p header (dropped why) under' ≡ Some (Ok (ran (fate.Dropped why) under'.tables (drop under'.used l)))
    unfolding meaning_of
    means_dropped chain why l = refl

    pub turn_ended : (end : End) (ended : Turn) → EndsTry rewriters gone picks header tree resources resources' ledger ledger' under' end → Finishes header passed' picks queue queue' writes writes' end ended
        → EndsTurn rewriters classes index old new ledger ledger' gone writes writes' ended
    turn_ended (Leaf rewrite device) ended try is =
        finished (leaf (rewrite_form rewrite.now) device) try (λ packet. fate.Sent device (stamped_of (rewritten header passed' (rewrite_form rewrite.now) packet))) (λ chain l. means_sent chain (rewrite_form rewrite.now) device l)
        (writes + length rewrite.now.writes) (ap (λ n. writes + n) (sym (map_length write_form rewrite.now.writes))) ended is
    turn_ended (Drop why) ended try is =
        finished (dropped why) try (λ packet. fate.Dropped why) (λ chain l. means_dropped chain why l) writes (sym (add-zero writes)) ended is
    turn_ended (Starved pool) ended try is =
        subst (EndsTurn rewriters classes index old new ledger ledger' gone writes writes') (sym is.1) (
          λ chain can. (let met = try.0 in
              record {
                known = subst (λ q. pool < length q) can.made.made.pools met.starved.known;
                not_gone = met.starved.not_gone;
                opened = met.more;
                shares = met.moment.shares;
                ledger_then = met.ledger_then;
                whole = subst (λ q. AreWhole q met.ledger_then met.moment.shares (held_ports (resources.store ++ met.more))) can.made.made.pools
                    (subst (λ s. AreWhole rewriters.pools.items met.ledger_then met.moment.shares (held_ports s)) met.opened met.ready.whole);
                share = met.starved.share;
                stock_then = met.starved.stock;
                stock = met.stock;
              }),
          record { queue = is.0; mappings = try.1.mappings; turns = try.1.turns; patterns = try.1.patterns },
          is.2,
        )

    pub turn_kept : (end : End) (ended : Turn) → EndsTry rewriters gone picks header tree resources resources' ledger ledger' under' end → Finishes header passed' picks queue queue' writes writes' end ended
        → IsReady rewriters gone resources' ledger' → (chain : ChainState) → CanTurn chain rewriters classes index old ledger → CanTurn chain rewriters classes index new ledger'
    turn_kept (Leaf rewrite device) ended try is now =
        kept_on (leaf (rewrite_form rewrite.now) device) try (λ packet. fate.Sent device (stamped_of (rewritten header passed' (rewrite_form rewrite.now) packet))) (λ chain l. means_sent chain (rewrite_form rewrite.now) device l)
        (writes + length rewrite.now.writes) (ap (λ n. writes + n) (sym (map_length write_form rewrite.now.writes))) ended is now
    turn_kept (Drop why) ended try is now =
        kept_on (dropped why) try (λ packet. fate.Dropped why) (λ chain l. means_dropped chain why l) writes (sym (add-zero writes)) ended is now
    turn_kept (Starved pool) ended try is now = λ chain can. stands_still chain can resources' ledger' queue' try.1 now is.0

    pub may_finish : (end : End) → EndsTry rewriters gone picks header tree resources resources' ledger ledger' under' end → (chain : ChainState) → CanTurn chain rewriters classes index old ledger → MayFinish header passed' queue end
    may_finish (Leaf rewrite device) try chain can =
        let may = may_sent chain can picks under' (rewrite_form rewrite.now) device try in (
          may.0,
          may.1,
          λ other others q.
              subst (λ (h : Queued). CanRewrite header passed' (rewrite_form rewrite.now) (packet_of h.stamped)) (ap (λ l. slice_index_or l 0 head) (sym queue_is ∙ q)) may.2,
        )
    may_finish (Drop why) try chain can = tt
    may_finish (Starved pool) try chain can = tt

    pub not_idle : (end : End) (ended : Turn) → Finishes header passed' picks queue queue' writes writes' end ended → ended ≡ turn.Idle → ⊥
    not_idle (Leaf rewrite device) ended is e = absurd (let q = sym e ∙ is.turn_is in cc)
    not_idle (Drop why) ended is e = absurd (let q = sym e ∙ is.turn_is in cc)
    not_idle (Starved pool) ended is e = absurd (let q = sym e ∙ is.1 in cc)
