-- What is known of the flow of a packet behind its passage at a rewriter.
use Rattle.std.proofs.Common.{◌≡◌, ◌∙◌, sym, ap, subst, refl, ◌⊎◌, inl, inr, ℕ, Bool, true, false, cond, List, [], ◌∷◌, Contains, Ordering, Less, Equal, Greater, arith}
use Rattle.std.specs.Prelude.{Option, Some, None, option_map, Result, Ok, Err, ◌==◌, if◌then◌else◌, slice_get, IfSome, IfOk, ⊤}
use Rattle.std.specs.BTreeMap.{is_at}
use Rattle.std.specs.List.{find, list_all}
use Rattle.std.specs.Map.{lookup}
use Rattle.std.specs.Ordering.{is_eq, nat_cmp, ordering_then}
use Rattle.std.proofs.lemmas.Bool.{false≢true}
use Rattle.std.proofs.lemmas.Bool.Decides.{nat_tests}
use Rattle.std.proofs.lemmas.Option.{none-some, same_Some}
use Rattle.mt_lists.proofs.Bools.{and_true}
use Rattle.mt_lists.proofs.Members.{first_in, later_in}
use Rattle.mt_packet.specs.declared.flow.Flow.{Flow}
use Rattle.mt_flow.specs.Keys.{flow_cmp, forward_cmp}
use Rattle.mt_flow.specs.Mappings.{reversed}
use Rattle.mt_flow.specs.declared.keys.ForwardKey.{ForwardKey}
use Rattle.mt_flow.specs.declared.mapping.Meeting.{Meeting}
use Rattle.mt_kinds.specs.declared.kind.Kind.TheVariants.{IPRewriter}
use Rattle.mt_kinds.specs.declared.rewriter.Spec.{Spec}
use Rattle.mt_kinds.specs.declared.rewriter.Spec.TheVariants.{Drop, Pass, Keep, Pattern, Mapper}
use Rattle.mt_kinds.specs.declared.rewriter.Template.{Template}
use Rattle.mt_elements.specs.ChainState.{ChainState, IsKind, specs_in, mappers_of}
use Rattle.mt_elements.specs.Ranges.{IsInRange}
use Rattle.mt_rewriter.proofs.Decisions.{IsFresh, fresh_for}
use Rattle.mt_rewriter.proofs.KeptTables.{is_new, among_inserted}
use Rattle.mt_rewriter.proofs.Undoing.{not_there}
use Rattle.mt_rewriter.specs.Kept.{Fits, AreTables}
use Rattle.mt_rewriter.specs.Mappings.{Mapping, TablesState, key_of, answers, is_flow, forward_meeting, reply_meeting, meets_forward, with_opened}
use Rattle.mt_rewriter.specs.Passages.{unported, settled, is_reply, meets, met_or, decide, decide_for, remembered}
use Rattle.mt_rewriter.specs.declared.passage.Decision.{Decision}
use Rattle.mt_rewriter.specs.declared.passage.Passage.{Passage}
use Rattle.mt_rewriter.specs.declared.passage.Passage.TheVariants.{Rewritten, Passed, Dropped}
use Rattle.mt_rewriter.specs.declared.translation.Translation.{Translation}
use Rattle.mt_terms.specs.Terms.{part_of}
use Rattle.mt_terms.specs.declared.term.Part.{Part}
use Rattle.mt_terms.specs.declared.term.Part.TheVariants.{Sa, Sp, Da, Dp}
use Rattle.mt_trees.proofs.Translated.{contained, passes, IsTemplateOf, SpecComes, OpenedComes, PassageComes, DecisionComes, spec_comes, part_left, proto_left, spec_fits}
use Rattle.mt_trees.specs.Passages.{across, spec_leaves, keeps_part}
use Rattle.mt_trees.specs.Ranges.{FlowFits, AreInRange}

-- ---- equal keys and flows

flow_same : (x y : Flow) → x.proto ≡ y.proto → x.sa ≡ y.sa → x.sp ≡ y.sp → x.da ≡ y.da → x.dp ≡ y.dp → x ≡ y
flow_same x y proto sa sp da dp =
    ap (λ n. record { proto = n; sa = x.sa; sp = x.sp; da = x.da; dp = x.dp }) proto
    ∙ ap (λ n. record { proto = y.proto; sa = n; sp = x.sp; da = x.da; dp = x.dp }) sa
    ∙ ap (λ n. record { proto = y.proto; sa = y.sa; sp = n; da = x.da; dp = x.dp }) sp
    ∙ ap (λ n. record { proto = y.proto; sa = y.sa; sp = y.sp; da = n; dp = x.dp }) da
    ∙ ap (λ n. record { proto = y.proto; sa = y.sa; sp = y.sp; da = y.da; dp = n }) dp

then_equal : (o p : Ordering) → ordering_then o p ≡ Equal → (o ≡ Equal) × (p ≡ Equal)
then_equal Less p e = absurd cc
then_equal Equal p e = (refl, e)
then_equal Greater p e = absurd cc

cmp_same : (x y : ℕ) → nat_cmp x y ≡ Equal → x ≡ y
cmp_same x y e = grind (arith, nat_tests)

test_same : (x y : ℕ) → (x == y) ≡ true → x ≡ y
test_same x y e = grind (arith, nat_tests)

is_equal : (o : Ordering) → is_eq o ≡ true → o ≡ Equal
is_equal Less e = absurd (false≢true e)
is_equal Equal e = refl
is_equal Greater e = absurd (false≢true e)

-- by the order of flows, and by their test
by_order : (x y : Flow) → flow_cmp x y ≡ Equal → x ≡ y
by_order x y e =
    let a = then_equal _ _ e in
    let b = then_equal _ _ a.1 in
    let c = then_equal _ _ b.1 in
    let d = then_equal _ _ c.1 in
    flow_same x y (cmp_same x.proto y.proto a.0) (cmp_same x.sa y.sa b.0) (cmp_same x.sp y.sp c.0) (cmp_same x.da y.da d.0) (cmp_same x.dp y.dp d.1)

by_test : (x y : Flow) → is_flow x y ≡ true → x ≡ y
by_test x y e =
    let a = and_true _ _ e in
    let b = and_true _ _ a.1 in
    let c = and_true _ _ b.1 in
    let d = and_true _ _ c.1 in
    flow_same x y (test_same x.proto y.proto a.0) (test_same x.sa y.sa b.0) (test_same x.sp y.sp c.0) (test_same x.da y.da d.0) (test_same x.dp y.dp d.1)

-- ---- the mapping that is met

-- a mapping that is found at a key is of that rewriter, that input and that flow
record IsFoundAt (mappings : List Mapping) (key : ForwardKey) (translation : Translation) : Type 0 where
  mapping : Mapping
  there : Contains mappings mapping
  element : key.element ≡ mapping.0.element
  input : key.input ≡ mapping.0.input
  before : key.before ≡ mapping.0.before
  is : mapping.1 ≡ translation

found_at : (mappings : List Mapping) (key : ForwardKey) (translation : Translation) → lookup (is_at (forward_cmp key)) mappings ≡ Some translation → IsFoundAt mappings key translation
found_at [] key translation is = absurd (none-some translation is)
found_at (first ∷ rest) key translation is = either (is_at (forward_cmp key) first.0) refl is (found_at rest key translation)
  where
    either : (b : Bool) → is_at (forward_cmp key) first.0 ≡ b → cond b (Some first.1) (lookup (is_at (forward_cmp key)) rest) ≡ Some translation
        → (lookup (is_at (forward_cmp key)) rest ≡ Some translation → IsFoundAt rest key translation) → IsFoundAt (first ∷ rest) key translation
    either true tied e again =
        let both = then_equal _ _ (is_equal (forward_cmp key first.0) tied) in
        let more = then_equal _ _ both.1 in
        record {
          mapping = first;
          there = first_in first rest;
          element = cmp_same key.element first.0.element both.0;
          input = cmp_same key.input first.0.input more.0;
          before = by_order key.before first.0.before more.1;
          is = same_Some first.1 translation e;
        }
    either false tied e again =
        let later = again e in
        record { mapping = later.mapping; there = later_in first rest later.mapping later.there; element = later.element; input = later.input; before = later.before; is = later.is }

-- the flow is a reply to it
record IsFoundBy (mappings : List Mapping) (element : ℕ) (flow : Flow) (mapping : Mapping) : Type 0 where
  there : Contains mappings mapping
  of : mapping.0.element ≡ element
  back : reversed mapping.1.after ≡ flow

found_by : (mappings : List Mapping) (element : ℕ) (flow : Flow) (mapping : Mapping) → find (answers element flow) mappings ≡ Some mapping → IsFoundBy mappings element flow mapping
found_by [] element flow mapping is = absurd (none-some mapping is)
found_by (first ∷ rest) element flow mapping is = either (answers element flow first) refl is (found_by rest element flow mapping)
  where
    either : (b : Bool) → answers element flow first ≡ b → cond b (Some first) (find (answers element flow) rest) ≡ Some mapping
        → (find (answers element flow) rest ≡ Some mapping → IsFoundBy rest element flow mapping) → IsFoundBy (first ∷ rest) element flow mapping
    either true test e again =
        let both = and_true _ _ test in
        let same : first ≡ mapping = same_Some first mapping e in
        record {
          there = subst (Contains (first ∷ rest)) same (first_in first rest);
          of = ap (λ (m : Mapping). m.0.element) (sym same) ∙ test_same first.0.element element both.0;
          back = ap (λ (m : Mapping). reversed m.1.after) (sym same) ∙ by_test (reversed first.1.after) flow both.1;
        }
    either false test e again = let later = again e in record { there = later_in first rest mapping later.there; of = later.of; back = later.back }

-- ---- where the flow behind a passage comes from

if_ok : {A E : Type 0} (P : A → Type 0) (result : Result A E) (value : A) → IfOk result P → result ≡ Ok value → P value
if_ok P result value h is = subst (λ r. IfOk r P) is h

specs_same : (specs others : List Spec) → IPRewriter specs ≡ IPRewriter others → specs ≡ others
specs_same specs others e = ap specs_in e

-- a reply to a mapping that one of the rewriter's specifications made
record IsReply (chain : ChainState) (specs : List Spec) (tables : TablesState) (flow after : Flow) : Type 0 where
  mapping : Mapping
  there : Contains tables.mappings mapping
  made : Spec
  of : Contains specs made
  comes : SpecComes (mappers_of chain.kinds) chain.pools made mapping.0.before mapping.1.after
  back : reversed mapping.1.after ≡ flow
  is : after ≡ reversed mapping.0.before

-- the flow after comes of the flow by the specification of a forward input, or is that of a reply
data HowCame (chain : ChainState) (specs : List Spec) (spec : Spec) (tables : TablesState) (flow after : Flow) : Type 0 where
  forward : is_reply spec ≡ false → SpecComes (mappers_of chain.kinds) chain.pools spec flow after → HowCame chain specs spec tables flow after
  reply : is_reply spec ≡ true → IsReply chain specs tables flow after → HowCame chain specs spec tables flow after

-- only forward inputs have templates
forwards : (mappers : List (List Template)) (spec : Spec) (template : Template) → IsTemplateOf mappers spec template → is_reply spec ≡ false
forwards mappers Drop template of = absurd of
forwards mappers (Pass out) template of = absurd of
forwards mappers (Keep fout rout) template of = refl
forwards mappers (Pattern own) template of = refl
forwards mappers (Mapper number) template of = refl

-- a mapping that fits is made by its specification
fitting : (chain : ChainState) (mapping : Mapping) (fits : Fits chain mapping) → SpecComes (mappers_of chain.kinds) chain.pools fits.spec mapping.0.before mapping.1.after
fitting chain mapping fits = opened.1
  where
    decided : DecisionComes (mappers_of chain.kinds) chain.pools fits.picks fits.tables mapping.0 fits.spec fits.decision
    decided = if_ok (DecisionComes (mappers_of chain.kinds) chain.pools fits.picks fits.tables mapping.0 fits.spec) _ fits.decision
        (spec_comes (mappers_of chain.kinds) chain.pools fits.picks fits.tables mapping.0 fits.used fits.spec) fits.tried

    opened : OpenedComes (mappers_of chain.kinds) chain.pools fits.picks fits.tables mapping.0 fits.spec (Some mapping)
    opened = subst (OpenedComes (mappers_of chain.kinds) chain.pools fits.picks fits.tables mapping.0 fits.spec) fits.opened decided.0

module _ (chain : ChainState) (element input : ℕ) (specs : List Spec) (spec : Spec) (stands : IsKind chain element (IPRewriter specs)) (at : slice_get specs input ≡ Some spec)
    (tables : TablesState) (kept : AreTables chain tables) (flow : Flow) where
  abbrev mappers : List (List Template)
  mappers = mappers_of chain.kinds

  abbrev Came : Flow → Type 0
  Came after = HowCame chain specs spec tables flow after

  same_specs : (mapping : Mapping) (fits : Fits chain mapping) → mapping.0.element ≡ element → fits.specs ≡ specs
  same_specs mapping fits of = specs_same fits.specs specs (same_Some _ _ (sym fits.stands ∙ ap (slice_get chain.kinds) of ∙ stands))

  -- a mapping that was opened at this input for this flow
  came_forward : (translation : Translation) → lookup (is_at (forward_cmp (key_of element input flow))) tables.mappings ≡ Some translation → SpecComes mappers chain.pools spec flow translation.after
  came_forward translation is =
      let found = found_at tables.mappings (key_of element input flow) translation is in
      let fits = kept.fit found.mapping found.there in
      let specs_are : fits.specs ≡ specs = same_specs found.mapping fits (sym found.element) in
      let spec_is : fits.spec ≡ spec = same_Some _ _ (sym fits.at ∙ ap (λ n. slice_get fits.specs n) (sym found.input) ∙ ap (λ l. slice_get l input) specs_are ∙ at) in
      subst (λ t. SpecComes mappers chain.pools spec flow t.after) found.is
      (subst (λ f. SpecComes mappers chain.pools spec f found.mapping.1.after) (sym found.before)
      (subst (λ s. SpecComes mappers chain.pools s found.mapping.0.before found.mapping.1.after) spec_is (fitting chain found.mapping fits)))

  -- a mapping of the rewriter
  came_reply : (mapping : Mapping) → find (answers element flow) tables.mappings ≡ Some mapping → IsReply chain specs tables flow (reversed mapping.0.before)
  came_reply mapping is =
      let found = found_by tables.mappings element flow mapping is in
      let fits = kept.fit mapping found.there in
      record {
        mapping = mapping;
        there = found.there;
        made = fits.spec;
        of = subst (λ l. Contains l fits.spec) (same_specs mapping fits found.of) (contained fits.specs mapping.0.input fits.spec fits.at);
        comes = fitting chain mapping fits;
        back = found.back;
        is = refl;
      }

  met_forward : is_reply spec ≡ false → (found : Option Translation) → lookup (is_at (forward_cmp (key_of element input flow))) tables.mappings ≡ found
      → IfSome (option_map forward_meeting found) (λ meeting. Came meeting.after)
  met_forward ahead None is = tt
  met_forward ahead (Some translation) is = forward ahead (came_forward translation is)

  met_reply : is_reply spec ≡ true → (found : Option Mapping) → find (answers element flow) tables.mappings ≡ found → IfSome (option_map reply_meeting found) (λ meeting. Came meeting.after)
  met_reply back None is = tt
  met_reply back (Some mapping) is = reply back (came_reply mapping is)

  met : (b : Bool) → is_reply spec ≡ b → IfSome (meets tables.mappings (key_of element input flow) b) (λ meeting. Came meeting.after)
  met true back = met_reply back _ refl
  met false ahead = met_forward ahead _ refl

  -- ---- what is decided

  abbrev CameBy : Passage → Type 0
  CameBy (Rewritten meeting) = Came meeting.after
  CameBy (Passed out) = ⊤
  CameBy (Dropped why) = ⊤

  -- the flow behind the passage, and the mapping that is opened
  module _ (picks : List ℕ) where
    abbrev Opened : Option Mapping → Type 0
    Opened opened = OpenedComes mappers chain.pools picks tables (key_of element input flow) spec opened

    abbrev Decided : Decision → Type 0
    Decided d = CameBy d.passage × Opened d.opened

    passage_came : (passage : Passage) → PassageComes mappers chain.pools picks tables (key_of element input flow) spec passage → CameBy passage
    passage_came (Rewritten meeting) comes = forward (forwards mappers spec comes.template comes.of) comes
    passage_came (Passed out) comes = tt
    passage_came (Dropped why) comes = tt

    widened : (result : Result Decision ℕ) → IfOk result (DecisionComes mappers chain.pools picks tables (key_of element input flow) spec) → IfOk result Decided
    widened (Ok decision) h = (passage_came decision.passage h.1, h.0)
    widened (Err place) h = tt

    or_met : (used : ℕ) (other : Result Decision ℕ) (found : Option Meeting) → IfSome found (λ meeting. Came meeting.after) → IfOk other Decided → IfOk (met_or used other found) Decided
    or_met used other (Some meeting) came otherwise = (came, tt)
    or_met used other None came otherwise = otherwise

    decided : (used : ℕ) → IfOk (decide mappers chain.pools picks tables (key_of element input flow) used spec) Decided
    unfolding decide
    decided used =
        or_met used _ (meets tables.mappings (key_of element input flow) (is_reply spec)) (met (is_reply spec) refl)
        (widened _ (spec_comes mappers chain.pools picks tables (key_of element input flow) used spec))

  -- ---- parts

  -- a part of a flow is the part across of the flow of replies
  part_across : (part : Part) (f : Flow) → part_of part (reversed f) ≡ part_of (across part) f
  part_across Sa f = refl
  part_across Sp f = refl
  part_across Da f = refl
  part_across Dp f = refl

  reply_kept : (part : Part) (after : Flow) → list_all (spec_leaves mappers (across part)) specs ≡ true → IsReply chain specs tables flow after → part_of part after ≡ part_of part flow
  reply_kept part after all r =
      ap (part_of part) r.is
      ∙ part_across part r.mapping.0.before
      ∙ sym (part_left mappers chain.pools r.made (across part) r.mapping.0.before r.mapping.1.after (passes (spec_leaves mappers (across part)) specs r.made all r.of) r.comes)
      ∙ sym (part_across part r.mapping.1.after)
      ∙ ap (part_of part) r.back

  abbrev chosen : Part → Bool → Bool
  chosen part b = if b then list_all (spec_leaves mappers (across part)) specs else spec_leaves mappers part spec

  part_kept : (part : Part) (after : Flow) → keeps_part mappers specs spec part ≡ true → Came after → part_of part after ≡ part_of part flow
  part_kept part after keeps (forward ahead comes) = part_left mappers chain.pools spec part flow after (subst (λ b. chosen part b ≡ true) ahead keeps) comes
  part_kept part after keeps (reply back r) = reply_kept part after (subst (λ b. chosen part b ≡ true) back keeps) r

  proto_kept : (after : Flow) → Came after → after.proto ≡ flow.proto
  proto_kept after (forward ahead comes) = proto_left mappers chain.pools spec flow after comes
  proto_kept after (reply back r) =
      ap (λ (f : Flow). f.proto) r.is
      ∙ sym (proto_left mappers chain.pools r.made r.mapping.0.before r.mapping.1.after r.comes)
      ∙ ap (λ (f : Flow). f.proto) r.back

  -- ---- ranges

  module _ (ranges : IsInRange chain) (fit : AreInRange tables) (flow_fits : FlowFits flow) where
    made_fits : (after : Flow) → SpecComes mappers chain.pools spec flow after → FlowFits after
    made_fits after comes =
        spec_fits mappers chain.pools spec flow after ranges.mappers ranges.pools (ranges.kinds element (IPRewriter specs) stands spec (contained specs input spec at)) flow_fits comes

    reversed_fits : (f : Flow) → FlowFits f → FlowFits (reversed f)
    reversed_fits f h = record { sa = h.da; sp = h.dp; da = h.sa; dp = h.sp }

    after_fits : (after : Flow) → Came after → FlowFits after
    after_fits after (forward ahead comes) = made_fits after comes
    after_fits after (reply back r) = subst FlowFits (sym r.is) (reversed_fits r.mapping.0.before (fit r.mapping r.there).0)

    -- the mapping that is opened is the only one that is new
    opened_fits : (picks : List ℕ) (opened : Option Mapping) → Opened picks opened → IfSome opened (λ m. meets_forward tables.mappings m.0 ≡ None)
        → (m : Mapping) → Contains (with_opened opened tables.mappings) m → FlowFits m.0.before × FlowFits m.1.after
    opened_fits picks None opens fresh m among = fit m among
    opened_fits picks (Some new) opens fresh m among =
        either (among_inserted new.0 new.1 tables.mappings m (is_new new.0 new.1 tables.mappings (not_there new.0 tables.mappings fresh)) among)
      where
        either : (new ≡ m) ⊎ Contains tables.mappings m → FlowFits m.0.before × FlowFits m.1.after
        either (inl same) =
            subst (λ (x : Mapping). FlowFits x.0.before × FlowFits x.1.after) same
            (subst (λ (k : ForwardKey). FlowFits k.before) (sym opens.0) flow_fits, made_fits new.1.after opens.1)
        either (inr there) = fit m there

-- ---- the laws

module _ (chain : ChainState) (element input : ℕ) (specs : List Spec) (spec : Spec) (stands : IsKind chain element (IPRewriter specs)) (at : slice_get specs input ≡ Some spec)
    (tables : TablesState) (picks : List ℕ) (used : ℕ) (flow : Flow) (decision : Decision) (kept : AreTables chain tables)
    (is : decide_for (mappers_of chain.kinds) chain.pools picks tables element input used spec (Some flow) ≡ Ok decision) where
  known : Decided chain element input specs spec stands at tables kept flow picks decision
  known = if_ok (Decided chain element input specs spec stands at tables kept flow picks) _ decision (decided chain element input specs spec stands at tables kept flow picks used) is

  came : (meeting : Meeting) → decision.passage ≡ Rewritten meeting → HowCame chain specs spec tables flow meeting.after
  came meeting passage = subst (CameBy chain element input specs spec stands at tables kept flow) passage known.0

  -- a part that is kept is that of the flow before the passage
  pub parts_kept : (meeting : Meeting) → decision.passage ≡ Rewritten meeting → (part : Part) → keeps_part (mappers_of chain.kinds) specs spec part ≡ true → part_of part meeting.after ≡ part_of part flow
  parts_kept meeting passage part keeps = part_kept chain element input specs spec stands at tables kept flow part meeting.after keeps (came meeting passage)

  -- and so is the protocol
  pub protocol_kept : (meeting : Meeting) → decision.passage ≡ Rewritten meeting → meeting.after.proto ≡ flow.proto
  protocol_kept meeting passage = proto_kept chain element input specs spec stands at tables kept flow meeting.after (came meeting passage)

  -- the flow behind the passage is in range
  pub fits_after : IsInRange chain → AreInRange tables → FlowFits flow → (meeting : Meeting) → decision.passage ≡ Rewritten meeting → FlowFits meeting.after
  fits_after ranges fit fits meeting passage = after_fits chain element input specs spec stands at tables kept flow ranges fit fits meeting.after (came meeting passage)

  fresh : IsFresh tables.mappings decision
  fresh = if_ok (IsFresh tables.mappings) _ decision (fresh_for (mappers_of chain.kinds) chain.pools picks tables element input used spec (Some flow)) is

  -- and so are all mappings then
  pub stays_in_range : IsInRange chain → AreInRange tables → FlowFits flow → AreInRange (remembered decision tables)
  stays_in_range ranges fit fits = opened_fits chain element input specs spec stands at tables kept flow ranges fit fits picks decision.opened known.1 fresh

-- a packet without a flow opens none
unported_stays : (tables : TablesState) (used : ℕ) (spec : Spec) (decision : Decision) (result : Result Decision ℕ) → AreInRange tables → result ≡ Ok (settled used (unported spec)) → result ≡ Ok decision
    → AreInRange (remembered decision tables)
unported_stays tables used spec decision result fit same is =
    if_ok (λ d. AreInRange (remembered d tables)) result decision (subst (λ r. IfOk r (λ d. AreInRange (remembered d tables))) (sym same) fit) is

-- with a flow or without
pub all_stay_in_range : (chain : ChainState) (element input : ℕ) (specs : List Spec) (spec : Spec) → IsKind chain element (IPRewriter specs) → slice_get specs input ≡ Some spec
    → (tables : TablesState) (picks : List ℕ) (used : ℕ) (flow : Option Flow) (decision : Decision) → AreTables chain tables
    → decide_for (mappers_of chain.kinds) chain.pools picks tables element input used spec flow ≡ Ok decision
    → IsInRange chain → AreInRange tables → IfSome flow FlowFits → AreInRange (remembered decision tables)
all_stay_in_range chain element input specs spec stands at tables picks used None decision kept is ranges fit fits = unported_stays tables used spec decision _ fit refl is
all_stay_in_range chain element input specs spec stands at tables picks used (Some flow) decision kept is ranges fit fits =
    stays_in_range chain element input specs spec stands at tables picks used flow decision kept is ranges fit fits
