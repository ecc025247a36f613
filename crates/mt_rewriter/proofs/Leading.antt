-- A packet leaves a rewriter only by an output to which its input leads.
use Rattle.std.proofs.Common.{◌≡◌, ◌∙◌, sym, ap, subst, refl, ℕ, zero, suc, Bool, true, false, cond, List, [], ◌∷◌, length, Contains, Ordering, Less, Equal, Greater, arith}
use Rattle.std.specs.Prelude.{Option, Some, None, option_map, map, Result, Ok, Err, ◌||◌, ◌==◌, if◌then◌else◌, is_some, slice_get, IfSome, IfOk, ⊤}
use Rattle.std.specs.BTreeMap.{is_at}
use Rattle.std.specs.List.{find, list_any}
use Rattle.std.specs.Map.{lookup}
use Rattle.std.specs.Ordering.{is_eq, nat_cmp, ordering_then}
use Rattle.std.proofs.lemmas.Bool.{false≢true}
use Rattle.std.proofs.lemmas.Bool.Decides.{nat_tests}
use Rattle.std.proofs.lemmas.Option.{none-some, same_Some}
use Rattle.mt_lists.proofs.Bools.{true_behind, and_first}
use Rattle.mt_lists.proofs.Members.{first_in, later_in}
use Rattle.mt_packet.specs.declared.flow.Flow.{Flow}
use Rattle.mt_flow.specs.Keys.{forward_cmp}
use Rattle.mt_flow.specs.Mappings.{reversed}
use Rattle.mt_flow.specs.declared.keys.ForwardKey.{ForwardKey}
use Rattle.mt_flow.specs.declared.mapping.Meeting.{Meeting}
use Rattle.mt_kinds.specs.Ports.{is_in, mapper_at, forward_outs, reply_outs, is_reply_out, spec_leads, if_there, leads}
use Rattle.mt_kinds.specs.declared.kind.Kind.TheVariants.{IPRewriter}
use Rattle.mt_kinds.specs.declared.rewriter.Pool.{Pool}
use Rattle.mt_kinds.specs.declared.rewriter.Spec.{Spec}
use Rattle.mt_kinds.specs.declared.rewriter.Spec.TheVariants.{Drop, Pass, Keep, Pattern, Mapper}
use Rattle.mt_kinds.specs.declared.rewriter.Template.{Template}
use Rattle.mt_elements.specs.ChainState.{ChainState, IsKind, specs_in, mappers_of}
use Rattle.mt_rewriter.specs.declared.attempt.Attempt.{Attempt}
use Rattle.mt_rewriter.specs.declared.attempt.Attempt.TheVariants.{Made, Clashed, Exhausted, BadPick}
use Rattle.mt_rewriter.specs.declared.attempt.NoSource.{NoSource}
use Rattle.mt_rewriter.specs.declared.attempt.NoSource.TheVariants as no
use Rattle.mt_rewriter.specs.declared.attempt.Source.{Source}
use Rattle.mt_rewriter.specs.declared.passage.Decision.{Decision}
use Rattle.mt_rewriter.specs.declared.passage.Passage.{Passage}
use Rattle.mt_rewriter.specs.declared.passage.Passage.TheVariants.{Rewritten, Passed, Dropped}
use Rattle.mt_rewriter.specs.declared.ring.Round.{Round}
use Rattle.mt_rewriter.specs.declared.translation.Translation.{Translation}
use Rattle.mt_rewriter.specs.Kept.{Fits, AreTables, PassageLeads}
use Rattle.mt_rewriter.specs.Mappings.{Mapping, TablesState, key_of, answers, forward_meeting, reply_meeting, meets_reply, turn_of}
use Rattle.mt_rewriter.specs.Passages.{unported, is_reply, meets, met_or, by_attempt, by_round, round_passage, by_spec, decide, decide_for}
use Rattle.mt_rewriter.specs.Tries.{translation_of, made_or_clashed, by_source, try_template, keeping, turn_behind, after_try, ring_on, ring_at, ring}

same_number : (n : ℕ) → (n == n) ≡ true
same_number n = grind (arith, nat_tests)

-- an output is among those that a function gives of a list
abbrev IsAmong : (Template → ℕ) → List Template → ℕ → Type 0
IsAmong of templates out = is_in out (map of templates) ≡ true

among : (of : Template → ℕ) (templates : List Template) (i : ℕ) (template : Template) → slice_get templates i ≡ Some template → IsAmong of templates (of template)
among of [] i template is = absurd (none-some template is)
among of (first ∷ templates) zero template is =
    ap (λ t. (of t == of template) || is_in (of template) (map of templates)) (same_Some first template is)
    ∙ ap (λ b. b || is_in (of template) (map of templates)) (same_number (of template))
among of (first ∷ templates) (suc i) template is =
    ap (λ b. (of first == of template) || b) (among of templates i template is) ∙ true_behind (of first == of template)

module _ (pools : List Pool) (picks : List ℕ) (mappings : List Mapping) (key : ForwardKey) where
  -- ---- a try takes the outputs of its template

  abbrev TakesOuts : Template → Attempt → Type 0
  TakesOuts template (Made translation taken) = (translation.fout ≡ template.fout) × (translation.rout ≡ template.rout)
  TakesOuts template (Clashed taken) = ⊤
  TakesOuts template Exhausted = ⊤
  TakesOuts template (BadPick place) = ⊤

  made_takes : (template : Template) (source : Source) → TakesOuts template (made_or_clashed mappings key.element (translation_of template key.before source) source.used)
  made_takes template source = either (is_some (meets_reply mappings key.element (reversed (translation_of template key.before source).after)))
    where
      either : (b : Bool) → TakesOuts template (if b then Clashed source.used else Made (translation_of template key.before source) source.used)
      either true = tt
      either false = (refl, refl)

  source_takes : (template : Template) (source : Result Source NoSource) → TakesOuts template (by_source mappings key.element template key.before source)
  source_takes template (Ok source) = made_takes template source
  source_takes template (Err no.Exhausted) = tt
  source_takes template (Err (no.BadPick place)) = tt

  try_takes : (used : ℕ) (template : Template) → TakesOuts template (try_template pools picks mappings key used template)
  unfolding try_template
  try_takes used template = source_takes template _

  -- ---- and a ring those of one of its templates

  abbrev IsOfOne : List Template → Option Translation → Type 0
  IsOfOne templates opened = IfSome opened (λ t. IsAmong (λ x. x.fout) templates t.fout × IsAmong (λ x. x.rout) templates t.rout)

  abbrev RoundOfOne : List Template → Result Round ℕ → Type 0
  RoundOfOne templates result = IfOk result (λ round. IsOfOne templates round.opened)

  module _ (templates : List Template) (left : ℕ) (again : (turn : ℕ) (clashed : Bool) (used : ℕ) → RoundOfOne templates (ring (try_template pools picks mappings key) templates left turn clashed used)) where
    tried_one : (template : Template) (place turn : ℕ) (clashed : Bool) (used : ℕ) (attempt : Attempt) → slice_get templates place ≡ Some template → TakesOuts template attempt
        → RoundOfOne templates (ring_on (ring (try_template pools picks mappings key) templates left turn) (after_try turn clashed used attempt))
    tried_one template place turn clashed used (Made translation taken) at takes = (
      ap (λ o. is_in o (map (λ x. x.fout) templates)) takes.0 ∙ among (λ x. x.fout) templates place template at,
      ap (λ o. is_in o (map (λ x. x.rout) templates)) takes.1 ∙ among (λ x. x.rout) templates place template at,
    )
    tried_one template place turn clashed used (Clashed taken) at takes = again turn true taken
    tried_one template place turn clashed used Exhausted at takes = again turn clashed used
    tried_one template place turn clashed used (BadPick wrong) at takes = tt

    at_one : (turn : ℕ) (clashed : Bool) (used : ℕ) (found : Option Template) → slice_get templates turn ≡ found
        → RoundOfOne templates (ring_at (ring (try_template pools picks mappings key) templates left) (try_template pools picks mappings key) (length templates) turn clashed used found)
    at_one turn clashed used None at = tt
    at_one turn clashed used (Some template) at = tried_one template turn (turn_behind (length templates) turn) clashed used _ at (try_takes used template)

  ring_one : (templates : List Template) (left turn : ℕ) (clashed : Bool) (used : ℕ) → RoundOfOne templates (ring (try_template pools picks mappings key) templates left turn clashed used)
  unfolding ring
  ring_one templates zero turn clashed used = tt
  ring_one templates (suc left) turn clashed used =
      at_one templates left (λ turn' clashed' used'. ring_one templates left turn' clashed' used') turn clashed used (slice_get templates turn) refl

-- ---- what an input opens has its outputs

one_in : (out : ℕ) → is_in out (out ∷ []) ≡ true
one_in out = ap (λ b. b || false) (same_number out)

abbrev HasOuts : List ℕ → List ℕ → Option Mapping → Type 0
HasOuts fouts routs opened = IfSome opened (λ m. (is_in m.1.fout fouts ≡ true) × (is_in m.1.rout routs ≡ true))

-- what is decided opens a mapping with these outputs, and leaves by one of them
abbrev LeavesBy : List ℕ → List ℕ → Result Decision ℕ → Type 0
LeavesBy fouts routs result = IfOk result (λ d. HasOuts fouts routs d.opened × PassageLeads (λ out. is_in out fouts) d.passage)

module _ (mappers : List (List Template)) (pools : List Pool) (picks : List ℕ) (tables : TablesState) (key : ForwardKey) where
  by_template : (used : ℕ) (template : Template) (attempt : Attempt) → TakesOuts pools picks tables.mappings key template attempt → LeavesBy (template.fout ∷ []) (template.rout ∷ []) (by_attempt key used attempt)
  by_template used template (Made translation taken) takes =
      let first = ap (λ o. is_in o (template.fout ∷ [])) takes.0 ∙ one_in template.fout in
      let second = ap (λ o. is_in o (template.rout ∷ [])) takes.1 ∙ one_in template.rout in
      ((first, second), first)
  by_template used template (Clashed taken) takes = (tt, tt)
  by_template used template Exhausted takes = (tt, tt)
  by_template used template (BadPick place) takes = tt

  opened_by : (templates : List Template) (opened : Option Translation) (clashed : Bool) → IsOfOne pools picks tables.mappings key templates opened
      → HasOuts (map (λ t. t.fout) templates) (map (λ t. t.rout) templates) (option_map (λ translation. (key, translation)) opened) × PassageLeads (λ out. is_in out (map (λ t. t.fout) templates)) (round_passage opened clashed)
  opened_by templates (Some translation) clashed one = (one, one.0)
  opened_by templates None true one = (tt, tt)
  opened_by templates None false one = (tt, tt)

  by_templates : (mapper : ℕ) (templates : List Template) (result : Result Round ℕ) → RoundOfOne pools picks tables.mappings key templates result
      → LeavesBy (map (λ t. t.fout) templates) (map (λ t. t.rout) templates) (by_round key mapper result)
  by_templates mapper templates (Ok round) one = opened_by templates round.opened round.clashed one
  by_templates mapper templates (Err place) one = tt

  -- an input opens a mapping with its own outputs, and sends packets by those to which it leads
  abbrev pub SpecLeads : List Spec → Spec → Decision → Type 0
  SpecLeads specs spec d = HasOuts (forward_outs mappers spec) (reply_outs mappers spec) d.opened × PassageLeads (λ out. spec_leads mappers specs out spec) d.passage

  spec_leads_by : (specs : List Spec) (used : ℕ) (spec : Spec) → IfOk (by_spec mappers pools picks tables key used spec) (SpecLeads specs spec)
  spec_leads_by specs used Drop = (tt, tt)
  spec_leads_by specs used (Pass own) = (tt, ap (λ b. b || is_reply_out mappers specs own) (same_number own))
  spec_leads_by specs used (Keep fout rout) = by_template used (keeping fout rout) _ (try_takes pools picks tables.mappings key used (keeping fout rout))
  spec_leads_by specs used (Pattern template) = by_template used template _ (try_takes pools picks tables.mappings key used template)
  spec_leads_by specs used (Mapper mapper) =
      by_templates mapper (mapper_at mappers mapper) _ (ring_one pools picks tables.mappings key (mapper_at mappers mapper) (length (mapper_at mappers mapper)) (turn_of tables.turns mapper) false used)

-- ---- the mapping that is met

if_ok : {A E : Type 0} (P : A → Type 0) (result : Result A E) (value : A) → IfOk result P → result ≡ Ok value → P value
if_ok P result value h is = subst (λ r. IfOk r P) is h

if_some : {A : Type 0} (P : A → Type 0) (found : Option A) (value : A) → IfSome found P → found ≡ Some value → P value
if_some P found value h is = subst (λ o. IfSome o P) is h

specs_same : (specs others : List Spec) → IPRewriter specs ≡ IPRewriter others → specs ≡ others
specs_same specs others e = ap specs_in e

any_at : (p : Spec → Bool) (specs : List Spec) (i : ℕ) (spec : Spec) → slice_get specs i ≡ Some spec → p spec ≡ true → list_any p specs ≡ true
any_at p [] i spec is passes = absurd (none-some spec is)
any_at p (first ∷ specs) zero spec is passes = ap (λ s. p s || list_any p specs) (same_Some first spec is) ∙ ap (λ b. b || list_any p specs) passes
any_at p (first ∷ specs) (suc i) spec is passes = ap (λ b. p first || b) (any_at p specs i spec is passes) ∙ true_behind (p first)

then_equal : (o p : Ordering) → ordering_then o p ≡ Equal → (o ≡ Equal) × (p ≡ Equal)
then_equal Less p e = absurd cc
then_equal Equal p e = (refl, e)
then_equal Greater p e = absurd cc

nat_same : (x y : ℕ) → nat_cmp x y ≡ Equal → x ≡ y
nat_same x y e = grind (arith, nat_tests)

is_equal : (o : Ordering) → is_eq o ≡ true → o ≡ Equal
is_equal Less e = absurd (false≢true e)
is_equal Equal e = refl
is_equal Greater e = absurd (false≢true e)

-- a mapping that is found at a key is of that rewriter and input
record IsFoundAt (mappings : List Mapping) (key : ForwardKey) (translation : Translation) : Type 0 where
  mapping : Mapping
  there : Contains mappings mapping
  element : key.element ≡ mapping.0.element
  input : key.input ≡ mapping.0.input
  is : mapping.1 ≡ translation

found_at : (mappings : List Mapping) (key : ForwardKey) (translation : Translation) → lookup (is_at (forward_cmp key)) mappings ≡ Some translation → IsFoundAt mappings key translation
found_at [] key translation is = absurd (none-some translation is)
found_at (first ∷ rest) key translation is = by_test (is_at (forward_cmp key) first.0) refl is (found_at rest key translation)
  where
    by_test : (b : Bool) → is_at (forward_cmp key) first.0 ≡ b → cond b (Some first.1) (lookup (is_at (forward_cmp key)) rest) ≡ Some translation
        → (lookup (is_at (forward_cmp key)) rest ≡ Some translation → IsFoundAt rest key translation) → IsFoundAt (first ∷ rest) key translation
    by_test true tied e again =
        let both = then_equal _ _ (is_equal (forward_cmp key first.0) tied) in
        record {
          mapping = first;
          there = first_in first rest;
          element = nat_same key.element first.0.element both.0;
          input = nat_same key.input first.0.input (then_equal _ _ both.1).0;
          is = same_Some first.1 translation e;
        }
    by_test false tied e again =
        let later = again e in
        record { mapping = later.mapping; there = later_in first rest later.mapping later.there; element = later.element; input = later.input; is = later.is }

number_is : (a b : ℕ) → (a == b) ≡ true → a ≡ b
number_is a b e = grind (arith, nat_tests)

record IsFoundBy (mappings : List Mapping) (element : ℕ) (mapping : Mapping) : Type 0 where
  there : Contains mappings mapping
  of : mapping.0.element ≡ element

found_by : (mappings : List Mapping) (element : ℕ) (flow : Flow) (mapping : Mapping) → find (answers element flow) mappings ≡ Some mapping → IsFoundBy mappings element mapping
found_by [] element flow mapping is = absurd (none-some mapping is)
found_by (first ∷ rest) element flow mapping is = by_test (answers element flow first) refl is (found_by rest element flow mapping)
  where
    by_test : (b : Bool) → answers element flow first ≡ b → cond b (Some first) (find (answers element flow) rest) ≡ Some mapping
        → (find (answers element flow) rest ≡ Some mapping → IsFoundBy rest element mapping) → IsFoundBy (first ∷ rest) element mapping
    by_test true passes e again = record {
      there = subst (Contains (first ∷ rest)) (same_Some first mapping e) (first_in first rest);
      of = ap (λ (m : Mapping). m.0.element) (sym (same_Some first mapping e)) ∙ number_is first.0.element element (and_first _ _ passes);
    }
    by_test false passes e again = let later = again e in record { there = later_in first rest mapping later.there; of = later.of }

module _ (chain : ChainState) (element input : ℕ) (specs : List Spec) (spec : Spec) (stands : IsKind chain element (IPRewriter specs)) (at : slice_get specs input ≡ Some spec)
    (tables : TablesState) (kept : AreTables chain tables) where
  abbrev mappers : List (List Template)
  mappers = mappers_of chain.kinds

  -- the outputs of a mapping that fits are those of its input
  fitting : (mapping : Mapping) (fits : Fits chain mapping) → HasOuts (forward_outs mappers fits.spec) (reply_outs mappers fits.spec) (Some mapping)
  fitting mapping fits =
      subst (HasOuts (forward_outs mappers fits.spec) (reply_outs mappers fits.spec)) fits.opened
      (if_ok (SpecLeads mappers chain.pools fits.picks fits.tables mapping.0 fits.specs fits.spec) _ fits.decision (spec_leads_by mappers chain.pools fits.picks fits.tables mapping.0 fits.specs fits.used fits.spec) fits.tried).0

  same_specs : (mapping : Mapping) (fits : Fits chain mapping) → mapping.0.element ≡ element → fits.specs ≡ specs
  same_specs mapping fits of = specs_same fits.specs specs (same_Some _ _ (sym fits.stands ∙ ap (slice_get chain.kinds) of ∙ stands))

  -- a mapping that was opened at this input
  forward_lead : (flow : Flow) (translation : Translation) → lookup (is_at (forward_cmp (key_of element input flow))) tables.mappings ≡ Some translation → is_in translation.fout (forward_outs mappers spec) ≡ true
  forward_lead flow translation is =
      let found = found_at tables.mappings (key_of element input flow) translation is in
      let fits = kept.fit found.mapping found.there in
      let specs_are : fits.specs ≡ specs = same_specs found.mapping fits (sym found.element) in
      let spec_is : fits.spec ≡ spec = same_Some _ _ (sym fits.at ∙ ap (λ n. slice_get fits.specs n) (sym found.input) ∙ ap (λ l. slice_get l input) specs_are ∙ at) in
      ap (λ (t : Translation). is_in t.fout (forward_outs mappers spec)) (sym found.is)
      ∙ ap (λ s. is_in found.mapping.1.fout (forward_outs mappers s)) (sym spec_is)
      ∙ (fitting found.mapping fits).0

  -- a mapping of the rewriter
  reply_lead : (flow : Flow) (mapping : Mapping) → find (answers element flow) tables.mappings ≡ Some mapping → is_reply_out mappers specs mapping.1.rout ≡ true
  reply_lead flow mapping is =
      let found = found_by tables.mappings element flow mapping is in
      let fits = kept.fit mapping found.there in
      subst (λ l. is_reply_out mappers l mapping.1.rout ≡ true) (same_specs mapping fits found.of)
      (any_at (λ s. is_in mapping.1.rout (reply_outs mappers s)) fits.specs mapping.0.input fits.spec fits.at (fitting mapping fits).1)

  -- a packet that meets a mapping
  met_forward : (flow : Flow) (found : Option Translation) → lookup (is_at (forward_cmp (key_of element input flow))) tables.mappings ≡ found
      → IfSome (option_map forward_meeting found) (λ meeting. is_in meeting.output (forward_outs mappers spec) ≡ true)
  met_forward flow None is = tt
  met_forward flow (Some translation) is = forward_lead flow translation is

  met_reply : (flow : Flow) (found : Option Mapping) → find (answers element flow) tables.mappings ≡ found → IfSome (option_map reply_meeting found) (λ meeting. is_reply_out mappers specs meeting.output ≡ true)
  met_reply flow None is = tt
  met_reply flow (Some mapping) is = reply_lead flow mapping is

  weaker : (P Q : Meeting → Type 0) (found : Option Meeting) → IfSome found P → ((m : Meeting) → P m → Q m) → IfSome found Q
  weaker P Q None h f = tt
  weaker P Q (Some m) h f = f m h

  -- by the kind of the input
  met_leads : (flow : Flow) (s : Spec) → s ≡ spec → IfSome (meets tables.mappings (key_of element input flow) (is_reply s)) (λ meeting. spec_leads mappers specs meeting.output s ≡ true)
  met_leads flow Drop is = met_reply flow _ refl
  met_leads flow (Pass own) is = weaker _ _ (meets tables.mappings (key_of element input flow) true) (met_reply flow _ refl) (λ m h. ap (λ b. (own == m.output) || b) h ∙ true_behind (own == m.output))
  met_leads flow (Keep fout rout) is = subst (λ s. IfSome (meets tables.mappings (key_of element input flow) false) (λ meeting. is_in meeting.output (forward_outs mappers s) ≡ true)) (sym is) (met_forward flow _ refl)
  met_leads flow (Pattern template) is = subst (λ s. IfSome (meets tables.mappings (key_of element input flow) false) (λ meeting. is_in meeting.output (forward_outs mappers s) ≡ true)) (sym is) (met_forward flow _ refl)
  met_leads flow (Mapper mapper) is = subst (λ s. IfSome (meets tables.mappings (key_of element input flow) false) (λ meeting. is_in meeting.output (forward_outs mappers s) ≡ true)) (sym is) (met_forward flow _ refl)

  abbrev Leads : Decision → Type 0
  Leads d = PassageLeads (λ out. spec_leads mappers specs out spec) d.passage

  or_met : (used : ℕ) (other : Result Decision ℕ) (found : Option Meeting) → IfSome found (λ meeting. spec_leads mappers specs meeting.output spec ≡ true) → IfOk other Leads → IfOk (met_or used other found) Leads
  or_met used other (Some meeting) h k = h
  or_met used other None h k = k

  second_of : (result : Result Decision ℕ) → IfOk result (λ d. HasOuts (forward_outs mappers spec) (reply_outs mappers spec) d.opened × Leads d) → IfOk result Leads
  second_of (Ok d) h = h.1
  second_of (Err place) h = tt

  unported_leads : (s : Spec) → PassageLeads (λ out. spec_leads mappers specs out s) (unported s)
  unported_leads Drop = tt
  unported_leads (Pass own) = ap (λ b. b || is_reply_out mappers specs own) (same_number own)
  unported_leads (Keep fout rout) = tt
  unported_leads (Pattern template) = tt
  unported_leads (Mapper mapper) = tt

  by_flow : (picks : List ℕ) (used : ℕ) (flow : Option Flow) → IfOk (decide_for mappers chain.pools picks tables element input used spec flow) Leads
  unfolding decide
  by_flow picks used None = unported_leads spec
  by_flow picks used (Some flow) =
      or_met used _ (meets tables.mappings (key_of element input flow) (is_reply spec)) (met_leads flow spec refl)
      (second_of _ (spec_leads_by mappers chain.pools picks tables (key_of element input flow) specs used spec))

  widened : (passage : Passage) → PassageLeads (λ out. spec_leads mappers specs out spec) passage → PassageLeads (leads mappers (IPRewriter specs) input) passage
  widened (Rewritten meeting) h = ap (if_there (spec_leads mappers specs meeting.output)) at ∙ h
  widened (Passed out) h = ap (if_there (spec_leads mappers specs out)) at ∙ h
  widened (Dropped why) h = tt

pub lead : (chain : ChainState) (element input : ℕ) (specs : List Spec) (spec : Spec) → IsKind chain element (IPRewriter specs) → slice_get specs input ≡ Some spec
    → (tables : TablesState) (picks : List ℕ) (used : ℕ) (flow : Option Flow) (decision : Decision) → AreTables chain tables
    → decide_for (mappers_of chain.kinds) chain.pools picks tables element input used spec flow ≡ Ok decision
    → PassageLeads (leads (mappers_of chain.kinds) (IPRewriter specs) input) decision.passage
lead chain element input specs spec stands at tables picks used flow decision kept is =
    widened chain element input specs spec stands at tables kept decision.passage
    (if_ok (λ d. PassageLeads (λ out. spec_leads (mappers_of chain.kinds) specs out spec) d.passage) _ decision (by_flow chain element input specs spec stands at tables kept picks used flow) is)
