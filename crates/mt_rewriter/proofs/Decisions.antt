-- What is known of what is decided.
use Rattle.std.proofs.Common.{◌≡◌, ◌∙◌, ap, refl, ℕ, zero, suc, ◌-◌, ◌<◌, ◌≤◌, Bool, true, false, List, length, arith}
use Rattle.std.specs.Prelude.{Option, Some, None, option_map, Result, Ok, Err, if◌then◌else◌, ◌==◌, slice_get, IfSome, IfOk, IsSome}
use Rattle.std.proofs.lemmas.Bool.{false≢true}
use Rattle.std.proofs.lemmas.Bool.Decides.{nat_tests}
use Rattle.std.proofs.lemmas.Option.{slice_get_within}
use Rattle.mt_packet.specs.declared.flow.Flow.{Flow}
use Rattle.mt_flow.specs.declared.keys.ForwardKey.{ForwardKey}
use Rattle.mt_flow.specs.declared.mapping.Meeting.{Meeting}
use Rattle.mt_kinds.specs.Ports.{mapper_at}
use Rattle.mt_kinds.specs.declared.rewriter.Pool.{Pool}
use Rattle.mt_kinds.specs.declared.rewriter.Spec.{Spec}
use Rattle.mt_kinds.specs.declared.rewriter.Spec.TheVariants.{Drop, Pass, Keep, Pattern, Mapper}
use Rattle.mt_kinds.specs.declared.rewriter.Template.{Template}
use Rattle.mt_rewriter.specs.declared.attempt.Attempt.{Attempt}
use Rattle.mt_rewriter.specs.declared.attempt.Attempt.TheVariants.{Made, Clashed, Exhausted, BadPick}
use Rattle.mt_rewriter.specs.declared.passage.Decision.{Decision}
use Rattle.mt_rewriter.specs.declared.passage.Passage.{Passage}
use Rattle.mt_rewriter.specs.declared.ring.Round.{Round}
use Rattle.mt_rewriter.specs.declared.translation.Translation.{Translation}
use Rattle.mt_rewriter.specs.Mappings.{Mapping, TablesState, key_of, meets_forward, turn_of}
use Rattle.mt_rewriter.specs.Passages.{unported, settled, is_reply, meets, met_or, by_attempt, by_round, by_spec, decide, decide_for, is_rewritten}
use Rattle.mt_rewriter.specs.Tries.{try_template, keeping, turn_behind, after_try, ring_on, ring_at, ring}
use Rattle.mt_rewriter.proofs.Openings.{IsOpening, IsTry, try_is}

-- ---- the ring of a mapper

-- a turn stays within a ring of so many templates
pub turn_within : (count turn : ℕ) → turn < count → turn_behind count turn ≤ count - 1
turn_within count turn below = either (suc turn == count) refl
  where
    either : (b : Bool) → (suc turn == count) ≡ b → (if b then 0 else suc turn) ≤ count - 1
    either true e = omega arith
    either false e = let apart : ¬ (suc turn ≡ count) = grind (arith, nat_tests) in omega (arith, below, apart)

module _ (pools : List Pool) (picks : List ℕ) (mappings : List Mapping) (key : ForwardKey) where
  abbrev IfOpened : Option Translation → Type 0
  IfOpened opened = IfSome opened (λ translation. IsOpening pools picks mappings key translation)

  -- what is known of how a ring ends that began at a turn
  pub record IsRound (count start used : ℕ) (round : Round) : Type 0 where
    pub opened : IfOpened round.opened
    pub turn : start ≤ count - 1 → round.turn ≤ count - 1
    pub within : used ≤ length picks → round.used ≤ length picks

  abbrev IfRound : ℕ → ℕ → ℕ → Result Round ℕ → Type 0
  IfRound count start used result = IfOk result (IsRound count start used)

  abbrev try : ℕ → Template → Attempt
  try used template = try_template pools picks mappings key used template

  later : (count start turn used taken : ℕ) (result : Result Round ℕ) → turn ≤ count - 1 → (used ≤ length picks → taken ≤ length picks) → IfRound count turn taken result → IfRound count start used result
  later count start turn used taken (Ok round) small along is = record { opened = is.opened; turn = λ _. is.turn small; within = λ h. is.within (along h) }
  later count start turn used taken (Err place) small along is = tt

  module _ (templates : List Template) (left : ℕ)
      (again : (turn : ℕ) (clashed : Bool) (used : ℕ) → IfRound (length templates) turn used (ring try templates left turn clashed used)) where
    tried_is : (start turn : ℕ) (clashed : Bool) (used : ℕ) (attempt : Attempt) → turn ≤ length templates - 1 → IsTry pools picks mappings key used attempt
        → IfRound (length templates) start used (ring_on (ring try templates left turn) (after_try turn clashed used attempt))
    tried_is start turn clashed used (Made translation taken) small is = record { opened = is.0; turn = λ _. small; within = is.1 }
    tried_is start turn clashed used (Clashed taken) small is = later (length templates) start turn used taken _ small is (again turn true taken)
    tried_is start turn clashed used Exhausted small is = later (length templates) start turn used used _ small (λ h. h) (again turn clashed used)
    tried_is start turn clashed used (BadPick place) small is = tt

    at_is : (turn : ℕ) (clashed : Bool) (used : ℕ) (found : Option Template) → ((template : Template) → found ≡ Some template → turn < length templates)
        → IfRound (length templates) turn used (ring_at (ring try templates left) try (length templates) turn clashed used found)
    at_is turn clashed used None there = record { opened = tt; turn = λ h. h; within = λ h. h }
    at_is turn clashed used (Some template) there =
        tried_is turn (turn_behind (length templates) turn) clashed used _ (turn_within (length templates) turn (there template refl)) (try_is pools picks mappings key used template)

  pub ring_is : (templates : List Template) (left turn : ℕ) (clashed : Bool) (used : ℕ) → IfRound (length templates) turn used (ring try templates left turn clashed used)
  unfolding ring
  ring_is templates zero turn clashed used = record { opened = tt; turn = λ h. h; within = λ h. h }
  ring_is templates (suc left) turn clashed used =
      at_is templates left (λ turn' clashed' used'. ring_is templates left turn' clashed' used') turn clashed used (slice_get templates turn)
      (λ template is. slice_get_within templates turn template is)

-- ---- decisions

-- a mapping is opened only where none has its key
abbrev pub IsFresh : List Mapping → Decision → Type 0
IsFresh mappings decision = IfSome decision.opened (λ mapping. meets_forward mappings mapping.0 ≡ None)

module _ (mappers : List (List Template)) (pools : List Pool) (picks : List ℕ) (tables : TablesState) (key : ForwardKey) where
  abbrev pub Opens : Option Mapping → Type 0
  Opens opened = IfSome opened (λ mapping. (mapping.0 ≡ key) × IsOpening pools picks tables.mappings key mapping.1)

  -- the turn of a mapper is that of a pattern that is there
  abbrev pub IsTurn : ℕ → ℕ → Type 0
  IsTurn mapper turn = turn ≤ length (mapper_at mappers mapper) - 1

  pub record IsDecided (used : ℕ) (decision : Decision) : Type 0 where
    pub opened : Opens decision.opened
    pub within : used ≤ length picks → decision.used ≤ length picks
    pub moved : ((mapper : ℕ) → IsTurn mapper (turn_of tables.turns mapper)) → IfSome decision.moved (λ moved. IsTurn moved.0 moved.1)

  abbrev pub IfDecided : ℕ → Result Decision ℕ → Type 0
  IfDecided used result = IfOk result (IsDecided used)

  settled_is : (used : ℕ) (passage : Passage) → IsDecided used (settled used passage)
  settled_is used passage = record { opened = tt; within = λ h. h; moved = λ _. tt }

  attempt_is : (used : ℕ) (attempt : Attempt) → IsTry pools picks tables.mappings key used attempt → IfDecided used (by_attempt key used attempt)
  attempt_is used (Made translation taken) is = record { opened = (refl, is.0); within = is.1; moved = λ _. tt }
  attempt_is used (Clashed taken) is = record { opened = tt; within = is; moved = λ _. tt }
  attempt_is used Exhausted is = settled_is used _
  attempt_is used (BadPick place) is = tt

  opened_is : (opened : Option Translation) → IfSome opened (λ translation. IsOpening pools picks tables.mappings key translation) → Opens (option_map (λ translation. (key, translation)) opened)
  opened_is (Some translation) is = (refl, is)
  opened_is None is = tt

  round_is : (used mapper : ℕ) (result : Result Round ℕ) → IfOk result (IsRound pools picks tables.mappings key (length (mapper_at mappers mapper)) (turn_of tables.turns mapper) used) → IfDecided used (by_round key mapper result)
  round_is used mapper (Ok round) is = record {
    opened = opened_is round.opened is.opened;
    within = is.within;
    moved = λ turns. is.turn (turns mapper);
  }
  round_is used mapper (Err place) is = tt

  pub spec_is : (used : ℕ) (spec : Spec) → IfDecided used (by_spec mappers pools picks tables key used spec)
  spec_is used Drop = settled_is used _
  spec_is used (Pass out) = settled_is used _
  spec_is used (Keep fout rout) = attempt_is used _ (try_is pools picks tables.mappings key used (keeping fout rout))
  spec_is used (Pattern template) = attempt_is used _ (try_is pools picks tables.mappings key used template)
  spec_is used (Mapper mapper) =
      round_is used mapper _ (ring_is pools picks tables.mappings key (mapper_at mappers mapper) (length (mapper_at mappers mapper)) (turn_of tables.turns mapper) false used)

  -- ---- by the mapping that is met

  within_is : (used : ℕ) (result : Result Decision ℕ) → IfDecided used result → used ≤ length picks → IfOk result (λ decision. decision.used ≤ length picks)
  within_is used (Ok decision) is within = is.within within
  within_is used (Err place) is within = tt

  met_is : (used : ℕ) (other : Result Decision ℕ) (found : Option Meeting) → IfDecided used other → IfDecided used (met_or used other found)
  met_is used other (Some meeting) is = settled_is used _
  met_is used other None is = is

  pub decide_is : (used : ℕ) (spec : Spec) → IfDecided used (decide mappers pools picks tables key used spec)
  unfolding decide
  decide_is used spec = met_is used _ (meets tables.mappings key (is_reply spec)) (spec_is used spec)

  fresh_opened : (opened : Option Mapping) → Opens opened → meets_forward tables.mappings key ≡ None → IfSome opened (λ mapping. meets_forward tables.mappings mapping.0 ≡ None)
  fresh_opened (Some mapping) is unmet = ap (meets_forward tables.mappings) is.0 ∙ unmet
  fresh_opened None is unmet = tt

  fresh_result : (used : ℕ) (result : Result Decision ℕ) → IfDecided used result → meets_forward tables.mappings key ≡ None → IfOk result (IsFresh tables.mappings)
  fresh_result used (Ok decision) is unmet = fresh_opened decision.opened is.opened unmet
  fresh_result used (Err place) is unmet = tt

  fresh_met : (used : ℕ) (other : Result Decision ℕ) (found : Option Meeting) → (found ≡ None → IfOk other (IsFresh tables.mappings)) → IfOk (met_or used other found) (IsFresh tables.mappings)
  fresh_met used other (Some meeting) otherwise = tt
  fresh_met used other None otherwise = otherwise refl

  pub spec_fresh : (used : ℕ) (spec : Spec) → meets tables.mappings key (is_reply spec) ≡ None → IfOk (by_spec mappers pools picks tables key used spec) (IsFresh tables.mappings)
  spec_fresh used Drop unmet = tt
  spec_fresh used (Pass out) unmet = tt
  spec_fresh used (Keep fout rout) unmet = fresh_result used _ (spec_is used (Keep fout rout)) unmet
  spec_fresh used (Pattern template) unmet = fresh_result used _ (spec_is used (Pattern template)) unmet
  spec_fresh used (Mapper mapper) unmet = fresh_result used _ (spec_is used (Mapper mapper)) unmet

  pub fresh_is : (used : ℕ) (spec : Spec) → IfOk (decide mappers pools picks tables key used spec) (IsFresh tables.mappings)
  unfolding decide
  fresh_is used spec = fresh_met used _ (meets tables.mappings key (is_reply spec)) (spec_fresh used spec)

-- ---- by the flow of a packet

never_ported : (s : Spec) → is_rewritten (unported s) ≡ true → IsSome {T = Flow} None
never_ported Drop e = absurd (false≢true e)
never_ported (Pass out) e = absurd (false≢true e)
never_ported (Keep fout rout) e = absurd (false≢true e)
never_ported (Pattern template) e = absurd (false≢true e)
never_ported (Mapper mapper) e = absurd (false≢true e)

always_some : (flow : Flow) (result : Result Decision ℕ) → IfOk result (λ decision. is_rewritten decision.passage ≡ true → IsSome (Some flow))
always_some flow (Ok decision) = λ _. refl
always_some flow (Err place) = tt

module _ (mappers : List (List Template)) (pools : List Pool) (picks : List ℕ) (tables : TablesState) (element input used : ℕ) (spec : Spec) where
  pub fresh_for : (flow : Option Flow) → IfOk (decide_for mappers pools picks tables element input used spec flow) (IsFresh tables.mappings)
  fresh_for None = tt
  fresh_for (Some flow) = fresh_is mappers pools picks tables (key_of element input flow) used spec

  pub within_for : (flow : Option Flow) → used ≤ length picks → IfOk (decide_for mappers pools picks tables element input used spec flow) (λ decision. decision.used ≤ length picks)
  within_for None within = within
  within_for (Some flow) within = within_is mappers pools picks tables (key_of element input flow) used _ (decide_is mappers pools picks tables (key_of element input flow) used spec) within

  -- a packet without a flow is not rewritten
  pub ported_for : (flow : Option Flow) → IfOk (decide_for mappers pools picks tables element input used spec flow) (λ decision. is_rewritten decision.passage ≡ true → IsSome flow)
  ported_for None = never_ported spec
  ported_for (Some flow) = always_some flow (decide mappers pools picks tables (key_of element input flow) used spec)
