-- The mappings of all rewriters of a chain, and what they are found by. They are in the strict order of their forward
-- keys, so that two tables with the same mappings are equal; nothing else speaks of that order.
use Rattle.std.specs.Prelude.{ℕ, ◌==◌, ◌&&◌, not, Bool, false, List, [], ◌∷◌, map, Option, Some, None, option_map, get_or, slice_set}
use Rattle.std.specs.BTreeMap.{insert_entry, is_at}
use Rattle.std.specs.List.{find, list_any}
use Rattle.std.specs.Map.{lookup, remove_entry}
use Rattle.mt_packet.specs.declared.flow.Flow.{Flow}
use Rattle.mt_flow.specs.Keys.{forward_cmp}
use Rattle.mt_flow.specs.Mappings.{reversed}
use Rattle.mt_flow.specs.declared.keys.ForwardKey.{ForwardKey}
use Rattle.mt_flow.specs.declared.mapping.Meeting.{Meeting}
use Rattle.mt_elements.specs.ChainState.{ChainState, mappers_of}
use Rattle.mt_rewriter.specs.declared.log.Undo.{Undo}
use Rattle.mt_rewriter.specs.declared.log.Undo.TheVariants.{Close, Turn}
use Rattle.mt_rewriter.specs.declared.translation.HeldPort.{HeldPort}
use Rattle.mt_rewriter.specs.declared.translation.Translation.{Translation}

-- a mapping: the rewriter, the input and the flow for which it was opened, and what it makes of that flow
abbrev pub Mapping : Type 0
Mapping = ForwardKey × Translation

-- what the rewriters of a chain remember: their mappings, and at each mapper the pattern whose turn it is
pub record TablesState : Type 0 where
  pub mappings : List Mapping
  pub turns : List ℕ

-- what a chain remembers before its first packet
abbrev pub first_tables : ChainState → TablesState
first_tables chain = record { mappings = []; turns = map (λ patterns. 0) (mappers_of chain.kinds) }

-- ---- packets that belong to a mapping

abbrev pub key_of : ℕ → ℕ → Flow → ForwardKey
key_of element input flow = record { element = element; input = input; before = flow }

-- what a packet of the flow becomes, and how it leaves
abbrev pub forward_meeting : Translation → Meeting
forward_meeting translation = record { after = translation.after; output = translation.fout }

-- what a reply becomes: the flow for which the mapping was opened, its two ends exchanged
abbrev pub reply_meeting : Mapping → Meeting
reply_meeting mapping = record { after = reversed mapping.0.before; output = mapping.1.rout }

-- at a forward input: the mapping of that key
abbrev pub meets_forward : List Mapping → ForwardKey → Option Meeting
meets_forward mappings key = option_map forward_meeting (lookup (is_at (forward_cmp key)) mappings)

abbrev pub is_flow : Flow → Flow → Bool
is_flow x y = x.proto == y.proto && (x.sa == y.sa && (x.sp == y.sp && (x.da == y.da && x.dp == y.dp)))

-- the flow is that of the replies to a mapping of that rewriter
abbrev pub answers : ℕ → Flow → Mapping → Bool
answers element flow mapping = mapping.0.element == element && is_flow (reversed mapping.1.after) flow

-- at a reply input: the mapping to which the flow is a reply
abbrev pub meets_reply : List Mapping → ℕ → Flow → Option Meeting
meets_reply mappings element flow = option_map reply_meeting (find (answers element flow) mappings)

-- ---- ports

abbrev pub is_port : ℕ → ℕ → Option HeldPort → Bool
is_port pool port None = false
is_port pool port (Some held) = held.pool == pool && held.port == port

-- the mapping got that port from that pool
abbrev pub holds : ℕ → ℕ → Mapping → Bool
holds pool port mapping = is_port pool port mapping.1.held

-- no mapping of any rewriter got that port from that pool, for whichever protocol
abbrev pub is_free : List Mapping → ℕ → ℕ → Bool
is_free mappings pool port = not (list_any (holds pool port) mappings)

-- ---- what is opened, and turns that move

abbrev pub with_opened : Option Mapping → List Mapping → List Mapping
with_opened None mappings = mappings
with_opened (Some mapping) mappings = insert_entry forward_cmp mappings mapping.0 mapping.1

-- whose turn it is at a mapper
abbrev pub turn_of : List ℕ → ℕ → ℕ
turn_of turns mapper = get_or turns mapper 0

abbrev pub with_turn : Option (ℕ × ℕ) → List ℕ → List ℕ
with_turn None turns = turns
with_turn (Some moved) turns = slice_set turns moved.0 moved.1

-- ---- what is taken back

-- A mapping that was opened is closed, or the turn of a mapper is the one that it was.
abbrev pub undone : Undo → TablesState → TablesState
undone (Close key) tables = record tables { mappings = remove_entry (is_at (forward_cmp key)) tables.mappings }
undone (Turn mapper turn) tables = record tables { turns = slice_set tables.turns mapper turn }

-- all of these, the last first
unfoldable pub taken_back : List Undo → TablesState → TablesState
taken_back [] tables = tables
taken_back (undo ∷ more) tables = undone undo (taken_back more tables)
