-- What an input of a rewriter makes of a flow: what one of its templates says.
use Rattle.std.proofs.Common.{◌≡◌, ◌∙◌, sym, ap, subst, refl, ◌⊎◌, inl, inr, ℕ, zero, suc, ◌≤◌, Bool, true, false, List, [], ◌∷◌, length, Contains, arith}
use Rattle.std.specs.Prelude.{Option, Some, None, is_some, not, nat_le, ◌&&◌, slice_get, IfSome, IfOk, ⊤}
use Rattle.std.specs.List.{list_all}
use Rattle.std.specs.Option.{unwrap_or}
use Rattle.std.proofs.lemmas.Bool.{false≢true}
use Rattle.std.proofs.lemmas.Bool.Decides.{nat_tests}
use Rattle.std.proofs.lemmas.Option.{none-some, same_Some}
use Rattle.mt_lists.proofs.Bools.{and_true, and_first, and_second}
use Rattle.mt_lists.proofs.Members.{first_in, later_in, cases_in, none_in}
use Rattle.mt_packet.specs.declared.flow.Flow.{Flow}
use Rattle.mt_flow.specs.Mappings.{reversed}
use Rattle.mt_flow.specs.declared.keys.ForwardKey.{ForwardKey}
use Rattle.mt_kinds.specs.Ports.{mapper_at}
use Rattle.mt_kinds.specs.declared.rewriter.Pool.{Pool}
use Rattle.mt_kinds.specs.declared.rewriter.SourcePort.{SourcePort}
use Rattle.mt_kinds.specs.declared.rewriter.SourcePort.TheVariants as source
use Rattle.mt_kinds.specs.declared.rewriter.Spec.{Spec}
use Rattle.mt_kinds.specs.declared.rewriter.Spec.TheVariants.{Drop, Pass, Keep, Pattern, Mapper}
use Rattle.mt_kinds.specs.declared.rewriter.Template.{Template}
use Rattle.mt_elements.specs.Ranges.{IsAddress, IsPort, SourceFits, TemplateFits, SpecFits}
use Rattle.mt_rewriter.specs.Mappings.{Mapping, TablesState, is_free, meets_reply, turn_of}
use Rattle.mt_rewriter.specs.Passages.{by_attempt, by_round, by_spec}
use Rattle.mt_rewriter.specs.Tries.{is_in, has_free, picked, from_pool, source_of, rewritten, made_or_clashed, by_source, try_template, keeping, turn_behind, after_try, ring_on, ring_over, ring_at, ring}
use Rattle.mt_rewriter.specs.declared.passage.Decision.{Decision}
use Rattle.mt_rewriter.specs.declared.passage.Passage.{Passage}
use Rattle.mt_rewriter.specs.declared.passage.Passage.TheVariants.{Rewritten, Passed, Dropped}
use Rattle.mt_rewriter.specs.declared.translation.HeldPort.{HeldPort}
use Rattle.mt_rewriter.specs.declared.translation.Translation.{Translation}
use Rattle.mt_terms.specs.Terms.{part_of}
use Rattle.mt_terms.specs.declared.term.Part.{Part}
use Rattle.mt_terms.specs.declared.term.Part.TheVariants.{Sa, Sp, Da, Dp}
use Rattle.mt_trees.specs.Passages.{is_same, template_leaves, spec_leaves}
use Rattle.mt_trees.specs.Ranges.{FlowFits}

-- ---- elements of lists

pub contained : {X : Type 0} (xs : List X) (i : ℕ) (x : X) → slice_get xs i ≡ Some x → Contains xs x
contained [] i x is = absurd (none-some x is)
contained (first ∷ xs) zero x is = subst (Contains (first ∷ xs)) (same_Some first x is) (first_in first xs)
contained (first ∷ xs) (suc i) x is = later_in first xs x (contained xs i x is)

pub passes : {X : Type 0} (p : X → Bool) (xs : List X) (x : X) → list_all p xs ≡ true → Contains xs x → p x ≡ true
passes p [] x all c = none_in x c
passes p (first ∷ xs) x all c = let both = and_true (p first) (list_all p xs) all in either both.0 both.1 (cases_in first xs x c) (passes p xs x)
  where
    either : p first ≡ true → list_all p xs ≡ true → (first ≡ x) ⊎ Contains xs x → (list_all p xs ≡ true → Contains xs x → p x ≡ true) → p x ≡ true
    either here later (inl same) again = ap p (sym same) ∙ here
    either here later (inr c) again = again later c

-- ---- by a template

-- the source port that a template gives to a flow of its own port
abbrev pub PortComes : List Pool → SourcePort → ℕ → ℕ → Type 0
PortComes pools source.Same own given = given ≡ own
PortComes pools (source.One wanted) own given = given ≡ wanted
PortComes pools (source.Pool number) own given = (pool : Pool) × (slice_get pools number ≡ Some pool) × (given ≤ pool.hi)

-- a template makes the flow after from the flow before
pub record Comes (pools : List Pool) (template : Template) (before after : Flow) : Type 0 where
  pub given : ℕ
  pub is : after ≡ rewritten template before given
  pub from : PortComes pools template.sp before.sp given

-- what a template makes of a flow, with that source port
abbrev translated : Template → Flow → ℕ → Option HeldPort → Translation
translated template flow given held = record { after = rewritten template flow given; fout = template.fout; rout = template.rout; held = held }

-- a flow and a mapping of zeros
abbrev no_flow : Flow
no_flow = record { proto = 0; sa = 0; sp = 0; da = 0; dp = 0 }

abbrev no_mapping : Mapping
no_mapping = (record { element = 0; input = 0; before = no_flow }, record { after = no_flow; fout = 0; rout = 0; held = None })

-- How a try ends, each end as a try that ends so for certain: without other mappings it makes one, the mapping of zeros clashes
-- with itself, no pool is there, or no pick is.
data HowTried (pools : List Pool) (picks : List ℕ) (mappings : List Mapping) (key : ForwardKey) (used : ℕ) (template : Template) : Type 0 where
  makes : (given taken : ℕ) (held : Option HeldPort) → PortComes pools template.sp key.before.sp given
      → try_template pools picks mappings key used template ≡ made_or_clashed [] key.element (translated template key.before given held) taken → HowTried pools picks mappings key used template
  clashes : (taken : ℕ) → try_template pools picks mappings key used template ≡ made_or_clashed (no_mapping ∷ []) 0 no_mapping.1 taken → HowTried pools picks mappings key used template
  exhausts : try_template pools picks mappings key used template ≡ by_source [] 0 template key.before (from_pool [] [] 0 0 None) → HowTried pools picks mappings key used template
  fails : (pool : Pool) (place : ℕ) → try_template pools picks mappings key used template ≡ by_source [] 0 template key.before (picked [] 0 pool place None) → HowTried pools picks mappings key used template

module _ (pools : List Pool) (picks : List ℕ) (mappings : List Mapping) (key : ForwardKey) (used : ℕ) (template : Template) where
  abbrev How : Type 0
  How = HowTried pools picks mappings key used template

  -- replies to it would be replies to another mapping
  abbrev is_clash : ℕ → Bool
  is_clash given = is_some (meets_reply mappings key.element (reversed (rewritten template key.before given)))

  clashed : (given taken : ℕ) (held : Option HeldPort) → is_clash given ≡ true
      → made_or_clashed mappings key.element (translated template key.before given held) taken ≡ made_or_clashed (no_mapping ∷ []) 0 no_mapping.1 taken
  clashed given taken held h = rw h refl

  alone : (given taken : ℕ) (held : Option HeldPort) → is_clash given ≡ false
      → made_or_clashed mappings key.element (translated template key.before given held) taken ≡ made_or_clashed [] key.element (translated template key.before given held) taken
  alone given taken held h = rw h refl

  -- a source port is there
  answered : (given taken : ℕ) (held : Option HeldPort) → PortComes pools template.sp key.before.sp given
      → try_template pools picks mappings key used template ≡ made_or_clashed mappings key.element (translated template key.before given held) taken → How
  answered given taken held from e = either (is_clash given) refl
    where
      either : (b : Bool) → is_clash given ≡ b → How
      either true h = clashes taken (e ∙ clashed given taken held h)
      either false h = makes given taken held from (e ∙ alone given taken held h)

  at_most : (pool : Pool) (given : ℕ) → is_in pool given ≡ true → given ≤ pool.hi
  at_most pool given e = small (and_second (nat_le pool.lo given) (nat_le given pool.hi) e)
    where
      small : nat_le given pool.hi ≡ true → given ≤ pool.hi
      small h = grind (arith, nat_tests)

  module _ (number : ℕ) (pool : Pool) (wanted : template.sp ≡ source.Pool number) (at : slice_get pools number ≡ Some pool) where
    picked_right : (given : ℕ) → (is_in pool given && is_free mappings number given) ≡ true
        → by_source mappings key.element template key.before (picked mappings number pool used (Some given)) ≡ made_or_clashed mappings key.element (translated template key.before given (Some (record { pool = number; port = given }))) (suc used)
    picked_right given h = rw h refl

    picked_wrong : (given : ℕ) → (is_in pool given && is_free mappings number given) ≡ false
        → by_source mappings key.element template key.before (picked mappings number pool used (Some given)) ≡ by_source [] 0 template key.before (picked [] 0 pool used None)
    picked_wrong given h = rw h refl

    by_pick : (pick : Option ℕ) → try_template pools picks mappings key used template ≡ by_source mappings key.element template key.before (picked mappings number pool used pick) → How
    by_pick None e = fails pool used e
    by_pick (Some given) e = either (is_in pool given && is_free mappings number given) refl
      where
        either : (b : Bool) → (is_in pool given && is_free mappings number given) ≡ b → How
        either true h =
            answered given (suc used) (Some (record { pool = number; port = given }))
            (subst (λ w. PortComes pools w key.before.sp given) (sym wanted) (pool, at, at_most pool given (and_first _ _ h))) (e ∙ picked_right given h)
        either false h = fails pool used (e ∙ picked_wrong given h)

    pool_open : has_free mappings number pool ≡ true
        → by_source mappings key.element template key.before (from_pool mappings picks used number (Some pool)) ≡ by_source mappings key.element template key.before (picked mappings number pool used (slice_get picks used))
    pool_open h = rw h refl

    pool_held : has_free mappings number pool ≡ false
        → by_source mappings key.element template key.before (from_pool mappings picks used number (Some pool)) ≡ by_source [] 0 template key.before (from_pool [] [] 0 0 None)
    pool_held h = rw h refl

    by_pool : try_template pools picks mappings key used template ≡ by_source mappings key.element template key.before (from_pool mappings picks used number (Some pool)) → How
    by_pool e = either (has_free mappings number pool) refl
      where
        either : (b : Bool) → has_free mappings number pool ≡ b → How
        either true h = by_pick (slice_get picks used) (e ∙ pool_open h)
        either false h = exhausts (e ∙ pool_held h)

  by_found : (number : ℕ) → template.sp ≡ source.Pool number → (found : Option Pool) → slice_get pools number ≡ found
      → try_template pools picks mappings key used template ≡ by_source mappings key.element template key.before (from_pool mappings picks used number found) → How
  by_found number wanted None at e = exhausts e
  by_found number wanted (Some pool) at e = by_pool number pool wanted at e

  by_wanted : (wanted : SourcePort) → template.sp ≡ wanted
      → try_template pools picks mappings key used template ≡ by_source mappings key.element template key.before (source_of pools picks mappings used key.before.sp wanted) → How
  by_wanted source.Same is e = answered key.before.sp used None (subst (λ w. PortComes pools w key.before.sp key.before.sp) (sym is) refl) e
  by_wanted (source.One given) is e = answered given used None (subst (λ w. PortComes pools w key.before.sp given) (sym is) refl) e
  by_wanted (source.Pool number) is e = by_found number is (slice_get pools number) refl e

  how_tried : How
  unfolding try_template
  how_tried = by_wanted template.sp refl refl

-- ---- by a specification

-- the templates of a specification
abbrev pub IsTemplateOf : List (List Template) → Spec → Template → Type 0
IsTemplateOf mappers Drop template = ⊥
IsTemplateOf mappers (Pass out) template = ⊥
IsTemplateOf mappers (Keep fout rout) template = template ≡ keeping fout rout
IsTemplateOf mappers (Pattern own) template = template ≡ own
IsTemplateOf mappers (Mapper number) template = Contains (mapper_at mappers number) template

-- one of them makes the flow after from the flow before
pub record SpecComes (mappers : List (List Template)) (pools : List Pool) (spec : Spec) (before after : Flow) : Type 0 where
  pub template : Template
  pub of : IsTemplateOf mappers spec template
  pub comes : Comes pools template before after

module _ (mappers : List (List Template)) (pools : List Pool) (picks : List ℕ) (tables : TablesState) (key : ForwardKey) where
  -- what is opened is for the flow of the key
  abbrev pub OpenedComes : Spec → Option Mapping → Type 0
  OpenedComes spec opened = IfSome opened (λ m. (m.0 ≡ key) × SpecComes mappers pools spec key.before m.1.after)

  abbrev pub PassageComes : Spec → Passage → Type 0
  PassageComes spec (Rewritten meeting) = SpecComes mappers pools spec key.before meeting.after
  PassageComes spec (Passed out) = ⊤
  PassageComes spec (Dropped why) = ⊤

  abbrev pub DecisionComes : Spec → Decision → Type 0
  DecisionComes spec d = OpenedComes spec d.opened × PassageComes spec d.passage

  -- a try of one of its templates
  made_by : (spec : Spec) (template : Template) (given : ℕ) → IsTemplateOf mappers spec template → PortComes pools template.sp key.before.sp given → SpecComes mappers pools spec key.before (rewritten template key.before given)
  made_by spec template given of from = record { template = template; of = of; comes = record { given = given; is = refl; from = from } }

  by_template : (spec : Spec) (used : ℕ) (template : Template) → IsTemplateOf mappers spec template → HowTried pools picks tables.mappings key used template
      → IfOk (by_attempt key used (try_template pools picks tables.mappings key used template)) (DecisionComes spec)
  by_template spec used template of (makes given taken held from e) =
      let made = made_by spec template given of from in
      subst (λ a. IfOk (by_attempt key used a) (DecisionComes spec)) (sym e) ((refl, made), made)
  by_template spec used template of (clashes taken e) = subst (λ a. IfOk (by_attempt key used a) (DecisionComes spec)) (sym e) (tt, tt)
  by_template spec used template of (exhausts e) = subst (λ a. IfOk (by_attempt key used a) (DecisionComes spec)) (sym e) (tt, tt)
  by_template spec used template of (fails pool place e) = subst (λ a. IfOk (by_attempt key used a) (DecisionComes spec)) (sym e) tt

  -- the ring of a mapper
  module _ (number : ℕ) (templates : List Template) (all : (template : Template) → Contains templates template → Contains (mapper_at mappers number) template) where
    abbrev RoundComes : ℕ → ℕ → Bool → ℕ → Type 0
    RoundComes left turn clashed used = IfOk (by_round key number (ring (try_template pools picks tables.mappings key) templates left turn clashed used)) (DecisionComes (Mapper number))

    over : (turn : ℕ) (clashed : Bool) (used : ℕ) → IfOk (by_round key number (ring_over turn clashed used)) (DecisionComes (Mapper number))
    over turn true used = (tt, tt)
    over turn false used = (tt, tt)

    module _ (left : ℕ) (again : (turn : ℕ) (clashed : Bool) (used : ℕ) → RoundComes left turn clashed used) where
      one_tried : (template : Template) (turn : ℕ) (clashed : Bool) (used : ℕ) → Contains templates template → HowTried pools picks tables.mappings key used template
          → IfOk (by_round key number (ring_on (ring (try_template pools picks tables.mappings key) templates left turn) (after_try turn clashed used (try_template pools picks tables.mappings key used template)))) (DecisionComes (Mapper number))
      one_tried template turn clashed used there (makes given taken held from e) =
          let made = made_by (Mapper number) template given (all template there) from in
          subst (λ a. IfOk (by_round key number (ring_on (ring (try_template pools picks tables.mappings key) templates left turn) (after_try turn clashed used a))) (DecisionComes (Mapper number))) (sym e) ((refl, made), made)
      one_tried template turn clashed used there (clashes taken e) =
          subst (λ a. IfOk (by_round key number (ring_on (ring (try_template pools picks tables.mappings key) templates left turn) (after_try turn clashed used a))) (DecisionComes (Mapper number))) (sym e) (again turn true taken)
      one_tried template turn clashed used there (exhausts e) =
          subst (λ a. IfOk (by_round key number (ring_on (ring (try_template pools picks tables.mappings key) templates left turn) (after_try turn clashed used a))) (DecisionComes (Mapper number))) (sym e) (again turn clashed used)
      one_tried template turn clashed used there (fails pool place e) =
          subst (λ a. IfOk (by_round key number (ring_on (ring (try_template pools picks tables.mappings key) templates left turn) (after_try turn clashed used a))) (DecisionComes (Mapper number))) (sym e) tt

      at_turn : (turn : ℕ) (clashed : Bool) (used : ℕ) (found : Option Template) → slice_get templates turn ≡ found
          → IfOk (by_round key number (ring_at (ring (try_template pools picks tables.mappings key) templates left) (try_template pools picks tables.mappings key) (length templates) turn clashed used found)) (DecisionComes (Mapper number))
      at_turn turn clashed used None at = over turn clashed used
      at_turn turn clashed used (Some template) at =
          one_tried template (turn_behind (length templates) turn) clashed used (contained templates turn template at) (how_tried pools picks tables.mappings key used template)

    round : (left turn : ℕ) (clashed : Bool) (used : ℕ) → RoundComes left turn clashed used
    unfolding ring
    round zero turn clashed used = over turn clashed used
    round (suc left) turn clashed used = at_turn left (λ turn' clashed' used'. round left turn' clashed' used') turn clashed used (slice_get templates turn) refl

  pub spec_comes : (used : ℕ) (spec : Spec) → IfOk (by_spec mappers pools picks tables key used spec) (DecisionComes spec)
  spec_comes used Drop = (tt, tt)
  spec_comes used (Pass out) = (tt, tt)
  spec_comes used (Keep fout rout) = by_template (Keep fout rout) used (keeping fout rout) refl (how_tried pools picks tables.mappings key used (keeping fout rout))
  spec_comes used (Pattern template) = by_template (Pattern template) used template refl (how_tried pools picks tables.mappings key used template)
  spec_comes used (Mapper number) = round number (mapper_at mappers number) (λ t c. c) (length (mapper_at mappers number)) (turn_of tables.turns number) false used

-- ---- parts that are left

-- no value is given
unset : (o : Option ℕ) (own : ℕ) → not (is_some o) ≡ true → unwrap_or o own ≡ own
unset None own e = refl
unset (Some value) own e = absurd (false≢true e)

same_port : (pools : List Pool) (wanted : SourcePort) (own given : ℕ) → is_same wanted ≡ true → PortComes pools wanted own given → given ≡ own
same_port pools source.Same own given e from = from
same_port pools (source.One wanted) own given e from = absurd (false≢true e)
same_port pools (source.Pool number) own given e from = absurd (false≢true e)

template_left : (pools : List Pool) (part : Part) (template : Template) (before after : Flow) → template_leaves part template ≡ true → Comes pools template before after → part_of part after ≡ part_of part before
template_left pools Sa template before after e comes = ap (part_of Sa) comes.is ∙ unset template.sa before.sa e
template_left pools Sp template before after e comes = ap (part_of Sp) comes.is ∙ same_port pools template.sp before.sp comes.given e comes.from
template_left pools Da template before after e comes = ap (part_of Da) comes.is ∙ unset template.da before.da e
template_left pools Dp template before after e comes = ap (part_of Dp) comes.is ∙ unset template.dp before.dp e

keeps_all : (part : Part) (fout rout : ℕ) → template_leaves part (keeping fout rout) ≡ true
keeps_all Sa fout rout = refl
keeps_all Sp fout rout = refl
keeps_all Da fout rout = refl
keeps_all Dp fout rout = refl

of_left : (mappers : List (List Template)) (part : Part) (spec : Spec) (template : Template) → spec_leaves mappers part spec ≡ true → IsTemplateOf mappers spec template → template_leaves part template ≡ true
of_left mappers part Drop template e of = absurd of
of_left mappers part (Pass out) template e of = absurd of
of_left mappers part (Keep fout rout) template e of = ap (template_leaves part) of ∙ keeps_all part fout rout
of_left mappers part (Pattern own) template e of = ap (template_leaves part) of ∙ e
of_left mappers part (Mapper number) template e of = passes (template_leaves part) (mapper_at mappers number) template e of

-- a specification that leaves a part makes flows with the same part
pub part_left : (mappers : List (List Template)) (pools : List Pool) (spec : Spec) (part : Part) (before after : Flow) → spec_leaves mappers part spec ≡ true → SpecComes mappers pools spec before after
    → part_of part after ≡ part_of part before
part_left mappers pools spec part before after e made = template_left pools part made.template before after (of_left mappers part spec made.template e made.of) made.comes

pub proto_left : (mappers : List (List Template)) (pools : List Pool) (spec : Spec) (before after : Flow) → SpecComes mappers pools spec before after → after.proto ≡ before.proto
proto_left mappers pools spec before after made = ap (λ (f : Flow). f.proto) made.comes.is

-- ---- ranges

given_or : (P : ℕ → Type 0) (o : Option ℕ) (own : ℕ) → IfSome o P → P own → P (unwrap_or o own)
given_or P None own h k = k
given_or P (Some value) own h k = h

port_fits : (pools : List Pool) (wanted : SourcePort) (own given : ℕ) → ((number : ℕ) (pool : Pool) → slice_get pools number ≡ Some pool → IsPort pool.hi) → SourceFits wanted → IsPort own
    → PortComes pools wanted own given → IsPort given
port_fits pools source.Same own given bounded small fits from = subst IsPort (sym from) fits
port_fits pools (source.One wanted) own given bounded small fits from = subst IsPort (sym from) small
port_fits pools (source.Pool number) own given bounded small fits from =
    let most = bounded number from.0 from.1 in
    let below = from.2 in
    omega (arith, most, below)

template_fits : (pools : List Pool) (template : Template) (before after : Flow) → ((number : ℕ) (pool : Pool) → slice_get pools number ≡ Some pool → IsPort pool.hi) → TemplateFits template → FlowFits before
    → Comes pools template before after → FlowFits after
template_fits pools template before after bounded small fits comes = subst FlowFits (sym comes.is) made
  where
    made : FlowFits (rewritten template before comes.given)
    made = record {
      sa = given_or IsAddress template.sa before.sa small.sa fits.sa;
      sp = port_fits pools template.sp before.sp comes.given bounded small.sp fits.sp comes.from;
      da = given_or IsAddress template.da before.da small.da fits.da;
      dp = given_or IsPort template.dp before.dp small.dp fits.dp;
    }

keeping_fits : (fout rout : ℕ) → TemplateFits (keeping fout rout)
keeping_fits fout rout = record { sa = tt; sp = tt; da = tt; dp = tt }

of_fits : (mappers : List (List Template)) (spec : Spec) (template : Template) → ((number : ℕ) (t : Template) → Contains (mapper_at mappers number) t → TemplateFits t) → SpecFits spec
    → IsTemplateOf mappers spec template → TemplateFits template
of_fits mappers Drop template all small of = absurd of
of_fits mappers (Pass out) template all small of = absurd of
of_fits mappers (Keep fout rout) template all small of = subst TemplateFits (sym of) (keeping_fits fout rout)
of_fits mappers (Pattern own) template all small of = subst TemplateFits (sym of) small
of_fits mappers (Mapper number) template all small of = all number template of

-- a specification in range makes flows in range
pub spec_fits : (mappers : List (List Template)) (pools : List Pool) (spec : Spec) (before after : Flow)
    → ((number : ℕ) (t : Template) → Contains (mapper_at mappers number) t → TemplateFits t) → ((number : ℕ) (pool : Pool) → slice_get pools number ≡ Some pool → IsPort pool.hi) → SpecFits spec
    → FlowFits before → SpecComes mappers pools spec before after → FlowFits after
spec_fits mappers pools spec before after all bounded small fits made =
    template_fits pools made.template before after bounded (of_fits mappers spec made.template all small made.of) fits made.comes
