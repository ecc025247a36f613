-- What becomes of a packet at a rewriter, by its flow (Click manual, IPRewriter, in this project's profile), and what the
-- rewriter then remembers.
use Rattle.std.specs.Prelude.{ℕ, true, false, List, length, Option, Some, None, option_map, Result, Ok, Err, if◌then◌else◌, Bool}
use Rattle.mt_packet.specs.declared.cause.Cause.TheVariants as cause
use Rattle.mt_packet.specs.declared.flow.Flow.{Flow}
use Rattle.mt_flow.specs.declared.keys.ForwardKey.{ForwardKey}
use Rattle.mt_flow.specs.declared.mapping.Meeting.{Meeting}
use Rattle.mt_kinds.specs.Ports.{mapper_at}
use Rattle.mt_kinds.specs.declared.rewriter.Pool.{Pool}
use Rattle.mt_kinds.specs.declared.rewriter.Spec.{Spec}
use Rattle.mt_kinds.specs.declared.rewriter.Spec.TheVariants.{Drop, Pass, Keep, Pattern, Mapper}
use Rattle.mt_kinds.specs.declared.rewriter.Template.{Template}
use Rattle.mt_rewriter.specs.Mappings.{Mapping, TablesState, key_of, forward_meeting, meets_forward, meets_reply, with_opened, turn_of, with_turn}
use Rattle.mt_rewriter.specs.Tries.{try_template, keeping, ring}
use Rattle.mt_rewriter.specs.declared.attempt.Attempt.{Attempt}
use Rattle.mt_rewriter.specs.declared.attempt.Attempt.TheVariants.{Made, Clashed, Exhausted, BadPick}
use Rattle.mt_rewriter.specs.declared.passage.Decision.{Decision}
use Rattle.mt_rewriter.specs.declared.passage.Passage.{Passage}
use Rattle.mt_rewriter.specs.declared.passage.Passage.TheVariants.{Rewritten, Passed, Dropped}
use Rattle.mt_rewriter.specs.declared.ring.Round.{Round}
use Rattle.mt_rewriter.specs.declared.translation.Translation.{Translation}

-- ---- without visible ports

abbrev pub unported : Spec → Passage
unported (Pass out) = Passed out
unported spec = Dropped cause.Unported

-- ---- with a flow

-- packets of such inputs are replies
abbrev pub is_reply : Spec → Bool
is_reply Drop = true
is_reply (Pass out) = true
is_reply (Keep fout rout) = false
is_reply (Pattern template) = false
is_reply (Mapper mapper) = false

-- the mapping that a packet meets, at a reply input or a forward input
abbrev pub meets : List Mapping → ForwardKey → Bool → Option Meeting
meets mappings key true = meets_reply mappings key.element key.before
meets mappings key false = meets_forward mappings key

-- nothing is opened, and no turn moves
abbrev pub settled : ℕ → Passage → Decision
settled used passage = record { passage = passage; opened = None; moved = None; used = used }

abbrev pub met_or : ℕ → Result Decision ℕ → Option Meeting → Result Decision ℕ
met_or used other (Some meeting) = Ok (settled used (Rewritten meeting))
met_or used other None = other

abbrev pub opens : ForwardKey → Translation → ℕ → Decision
opens key translation used = record { passage = Rewritten (forward_meeting translation); opened = Some (key, translation); moved = None; used = used }

-- `keep` and `pattern` try once
abbrev pub by_attempt : ForwardKey → ℕ → Attempt → Result Decision ℕ
by_attempt key used (Made translation taken) = Ok (opens key translation taken)
by_attempt key used (Clashed taken) = Ok (settled taken (Dropped cause.Clash))
by_attempt key used Exhausted = Ok (settled used (Dropped cause.Exhausted))
by_attempt key used (BadPick place) = Err place

-- where no template of a ring made a mapping, the packet is dropped as a clash if one clashed
abbrev pub round_passage : Option Translation → Bool → Passage
round_passage (Some translation) clashed = Rewritten (forward_meeting translation)
round_passage None clashed = if clashed then Dropped cause.Clash else Dropped cause.Exhausted

abbrev pub by_round : ForwardKey → ℕ → Result Round ℕ → Result Decision ℕ
by_round key mapper (Ok round) =
    Ok (record {
      passage = round_passage round.opened round.clashed;
      opened = option_map (λ translation. (key, translation)) round.opened;
      moved = Some (mapper, round.turn);
      used = round.used;
    })
by_round key mapper (Err place) = Err place

module _ (mappers : List (List Template)) (pools : List Pool) (picks : List ℕ) where
  abbrev pub by_mapper : TablesState → ForwardKey → ℕ → ℕ → List Template → Result Decision ℕ
  by_mapper tables key used mapper templates =
      by_round key mapper (ring (try_template pools picks tables.mappings key) templates (length templates) (turn_of tables.turns mapper) false used)

  -- what an input says of a packet that meets no mapping
  abbrev pub by_spec : TablesState → ForwardKey → ℕ → Spec → Result Decision ℕ
  by_spec tables key used Drop = Ok (settled used (Dropped cause.Unmapped))
  by_spec tables key used (Pass out) = Ok (settled used (Passed out))
  by_spec tables key used (Keep fout rout) = by_attempt key used (try_template pools picks tables.mappings key used (keeping fout rout))
  by_spec tables key used (Pattern template) = by_attempt key used (try_template pools picks tables.mappings key used template)
  by_spec tables key used (Mapper mapper) = by_mapper tables key used mapper (mapper_at mappers mapper)

  -- A packet with that key at an input, behind so many picks; or the place of the pick that is missing or is no free port
  -- of the pool.
  unfoldable pub decide : TablesState → ForwardKey → ℕ → Spec → Result Decision ℕ
  decide tables key used spec = met_or used (by_spec tables key used spec) (meets tables.mappings key (is_reply spec))

  -- by the flow of a packet, where its ports are visible
  abbrev pub decide_for : TablesState → ℕ → ℕ → ℕ → Spec → Option Flow → Result Decision ℕ
  decide_for tables element input used spec None = Ok (settled used (unported spec))
  decide_for tables element input used spec (Some flow) = decide tables (key_of element input flow) used spec

-- the packet gets another flow
abbrev pub is_rewritten : Passage → Bool
is_rewritten (Rewritten meeting) = true
is_rewritten (Passed out) = false
is_rewritten (Dropped why) = false

-- what is remembered then
abbrev pub remembered : Decision → TablesState → TablesState
remembered decision tables = record { mappings = with_opened decision.opened tables.mappings; turns = with_turn decision.moved tables.turns }
