-- What is known of a mapping that is opened.
use Rattle.std.proofs.Common.{◌≡◌, sym, refl, ℕ, suc, ◌≤◌, Bool, true, false, List, length, arith}
use Rattle.std.specs.Prelude.{Option, Some, None, is_some, option_map, Result, Ok, Err, if◌then◌else◌, ◌&&◌, slice_get, ⊤}
use Rattle.std.specs.List.{find}
use Rattle.std.proofs.lemmas.Bool.{false≢true}
use Rattle.std.proofs.lemmas.Option.{slice_get_within}
use Rattle.mt_lists.proofs.Bools.{and_second}
use Rattle.mt_packet.specs.declared.flow.Flow.{Flow}
use Rattle.mt_flow.specs.Mappings.{reversed}
use Rattle.mt_flow.specs.declared.keys.ForwardKey.{ForwardKey}
use Rattle.mt_kinds.specs.declared.rewriter.Pool.{Pool}
use Rattle.mt_kinds.specs.declared.rewriter.SourcePort.{SourcePort}
use Rattle.mt_kinds.specs.declared.rewriter.SourcePort.TheVariants as port
use Rattle.mt_kinds.specs.declared.rewriter.Template.{Template}
use Rattle.mt_rewriter.specs.declared.attempt.Attempt.{Attempt}
use Rattle.mt_rewriter.specs.declared.attempt.Attempt.TheVariants.{Made, Clashed, Exhausted, BadPick}
use Rattle.mt_rewriter.specs.declared.attempt.NoSource.{NoSource}
use Rattle.mt_rewriter.specs.declared.attempt.NoSource.TheVariants as no
use Rattle.mt_rewriter.specs.declared.attempt.Source.{Source}
use Rattle.mt_rewriter.specs.declared.translation.HeldPort.{HeldPort}
use Rattle.mt_rewriter.specs.declared.translation.Translation.{Translation}
use Rattle.mt_rewriter.specs.Mappings.{Mapping, answers, is_free, meets_reply, reply_meeting}
use Rattle.mt_rewriter.specs.Tries.{is_in, has_free, picked, from_pool, source_of, translation_of, made_or_clashed, by_source, try_template}

-- the port is free where the mapping holds one
abbrev pub HoldsFree : List Mapping → Option HeldPort → Type 0
HoldsFree mappings None = ⊤
HoldsFree mappings (Some held) = is_free mappings held.pool held.port ≡ true

module _ (pools : List Pool) (picks : List ℕ) (mappings : List Mapping) where
  -- ---- a source port

  pub record IsSource (used : ℕ) (source : Source) : Type 0 where
    pub free : HoldsFree mappings source.held
    pub within : used ≤ length picks → source.used ≤ length picks

  abbrev IfSource : ℕ → Result Source NoSource → Type 0
  IfSource used (Ok source) = IsSource used source
  IfSource used (Err why) = ⊤

  picked_is : (number used : ℕ) (pool : Pool) (pick : Option ℕ) → slice_get picks used ≡ pick → IfSource used (picked mappings number pool used pick)
  picked_is number used pool None is = tt
  picked_is number used pool (Some port) is = either (is_in pool port && is_free mappings number port) refl
    where
      either : (b : Bool) → (is_in pool port && is_free mappings number port) ≡ b
          → IfSource used (if b then Ok (record { port = port; held = Some (record { pool = number; port = port }); used = suc used }) else Err (no.BadPick used))
      either true e = record {
        free = and_second (is_in pool port) (is_free mappings number port) e;
        within = λ _. let there = slice_get_within picks used port is in omega (arith, there);
      }
      either false e = tt

  pool_is : (number used : ℕ) (found : Option Pool) → IfSource used (from_pool mappings picks used number found)
  pool_is number used None = tt
  pool_is number used (Some pool) = either (has_free mappings number pool)
    where
      either : (b : Bool) → IfSource used (if b then picked mappings number pool used (slice_get picks used) else Err no.Exhausted)
      either true = picked_is number used pool (slice_get picks used) refl
      either false = tt

  source_is : (used own : ℕ) (wanted : SourcePort) → IfSource used (source_of pools picks mappings used own wanted)
  source_is used own port.Same = record { free = tt; within = λ h. h }
  source_is used own (port.One given) = record { free = tt; within = λ h. h }
  source_is used own (port.Pool number) = pool_is number used (slice_get pools number)

  -- ---- a try

  pub record IsOpening (key : ForwardKey) (translation : Translation) : Type 0 where
    pub unanswered : find (answers key.element (reversed translation.after)) mappings ≡ None
    pub free : HoldsFree mappings translation.held

  -- what is known of how a try ends
  abbrev pub IsTry : ForwardKey → ℕ → Attempt → Type 0
  IsTry key used (Made translation taken) = IsOpening key translation × (used ≤ length picks → taken ≤ length picks)
  IsTry key used (Clashed taken) = used ≤ length picks → taken ≤ length picks
  IsTry key used Exhausted = ⊤
  IsTry key used (BadPick place) = ⊤

  not_met : (element : ℕ) (flow : Flow) → is_some (meets_reply mappings element flow) ≡ false → find (answers element flow) mappings ≡ None
  not_met element flow none = either (find (answers element flow) mappings) none
    where
      either : (found : Option Mapping) → is_some (option_map reply_meeting found) ≡ false → found ≡ None
      either None e = refl
      either (Some mapping) e = absurd (false≢true (sym e))

  made_is : (key : ForwardKey) (used : ℕ) (translation : Translation) (taken : ℕ) → HoldsFree mappings translation.held → (used ≤ length picks → taken ≤ length picks)
      → IsTry key used (made_or_clashed mappings key.element translation taken)
  made_is key used translation taken free within = either (is_some (meets_reply mappings key.element (reversed translation.after))) refl
    where
      either : (b : Bool) → is_some (meets_reply mappings key.element (reversed translation.after)) ≡ b → IsTry key used (if b then Clashed taken else Made translation taken)
      either true e = within
      either false e = (record { unanswered = not_met key.element (reversed translation.after) e; free = free }, within)

  by_source_is : (key : ForwardKey) (used : ℕ) (template : Template) (source : Result Source NoSource) → IfSource used source → IsTry key used (by_source mappings key.element template key.before source)
  by_source_is key used template (Ok source) is = made_is key used (translation_of template key.before source) source.used is.free is.within
  by_source_is key used template (Err no.Exhausted) is = tt
  by_source_is key used template (Err (no.BadPick place)) is = tt

  pub try_is : (key : ForwardKey) (used : ℕ) (template : Template) → IsTry key used (try_template pools picks mappings key used template)
  unfolding try_template
  try_is key used template = by_source_is key used template _ (source_is used key.before.sp template.sp)
