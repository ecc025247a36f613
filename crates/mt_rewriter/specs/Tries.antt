-- Tries to open a mapping for a flow: by a template, and by the templates of a mapper in a ring. `used` counts the
-- picks that the run of the packet has taken so far; a port is wrong by its place among all picks.
use Rattle.std.specs.Prelude.{ℕ, zero, suc, ◌-◌, ◌==◌, ◌&&◌, ◌||◌, nat_le, Bool, true, false, if◌then◌else◌, List, length, slice_get, Option, Some, None, is_some, Result, Ok, Err}
use Rattle.std.specs.Option.{unwrap_or}
use Rattle.mt_packet.specs.declared.flow.Flow.{Flow}
use Rattle.mt_flow.specs.Mappings.{reversed}
use Rattle.mt_flow.specs.declared.keys.ForwardKey.{ForwardKey}
use Rattle.mt_kinds.specs.declared.rewriter.Pool.{Pool}
use Rattle.mt_kinds.specs.declared.rewriter.SourcePort.{SourcePort}
use Rattle.mt_kinds.specs.declared.rewriter.SourcePort.TheVariants as port
use Rattle.mt_kinds.specs.declared.rewriter.Template.{Template}
use Rattle.mt_rewriter.specs.Mappings.{Mapping, is_free, meets_reply}
use Rattle.mt_rewriter.specs.declared.attempt.Attempt.{Attempt}
use Rattle.mt_rewriter.specs.declared.attempt.Attempt.TheVariants.{Made, Clashed, Exhausted, BadPick}
use Rattle.mt_rewriter.specs.declared.attempt.Source.{Source}
use Rattle.mt_rewriter.specs.declared.attempt.NoSource.{NoSource}
use Rattle.mt_rewriter.specs.declared.attempt.NoSource.TheVariants as no
use Rattle.mt_rewriter.specs.declared.ring.Round.{Round}
use Rattle.mt_rewriter.specs.declared.ring.Tried.{Tried}
use Rattle.mt_rewriter.specs.declared.ring.Tried.TheVariants.{Ends, Along}
use Rattle.mt_rewriter.specs.declared.translation.Translation.{Translation}

-- ---- ports of a pool

abbrev pub is_in : Pool → ℕ → Bool
is_in pool port = nat_le pool.lo port && nat_le port pool.hi

-- one of so many ports from that one on is free
unfoldable pub free_among : List Mapping → ℕ → ℕ → ℕ → Bool
free_among mappings number zero port = false
free_among mappings number (suc count) port = is_free mappings number port || free_among mappings number count (suc port)

-- some port of the pool is free
abbrev pub has_free : List Mapping → ℕ → Pool → Bool
has_free mappings number pool = free_among mappings number (suc pool.hi - pool.lo) pool.lo

-- the next pick has to be there, and has to be a port of the pool that is free
abbrev pub picked : List Mapping → ℕ → Pool → ℕ → Option ℕ → Result Source NoSource
picked mappings number pool used None = Err (no.BadPick used)
picked mappings number pool used (Some port) =
    if is_in pool port && is_free mappings number port then
    Ok (record { port = port; held = Some (record { pool = number; port = port }); used = suc used })
    else Err (no.BadPick used)

-- a pool without a free port takes no pick
abbrev pub from_pool : List Mapping → List ℕ → ℕ → ℕ → Option Pool → Result Source NoSource
from_pool mappings picks used number None = Err no.Exhausted
from_pool mappings picks used number (Some pool) =
    if has_free mappings number pool then picked mappings number pool used (slice_get picks used) else Err no.Exhausted

-- the source port that a flow gets
abbrev pub source_of : List Pool → List ℕ → List Mapping → ℕ → ℕ → SourcePort → Result Source NoSource
source_of pools picks mappings used own port.Same = Ok (record { port = own; held = None; used = used })
source_of pools picks mappings used own (port.One given) = Ok (record { port = given; held = None; used = used })
source_of pools picks mappings used own (port.Pool number) = from_pool mappings picks used number (slice_get pools number)

-- ---- a try of a template

-- a flow by a template, with that source port; a part without a value stays
abbrev pub rewritten : Template → Flow → ℕ → Flow
rewritten template flow port = record {
  proto = flow.proto;
  sa = unwrap_or template.sa flow.sa;
  sp = port;
  da = unwrap_or template.da flow.da;
  dp = unwrap_or template.dp flow.dp;
}

abbrev pub translation_of : Template → Flow → Source → Translation
translation_of template flow source = record {
  after = rewritten template flow source.port;
  fout = template.fout;
  rout = template.rout;
  held = source.held;
}

-- it clashes where replies to it would be replies to a mapping that the rewriter has
abbrev pub made_or_clashed : List Mapping → ℕ → Translation → ℕ → Attempt
made_or_clashed mappings element translation used =
    if is_some (meets_reply mappings element (reversed translation.after)) then Clashed used else Made translation used

abbrev pub by_source : List Mapping → ℕ → Template → Flow → Result Source NoSource → Attempt
by_source mappings element template flow (Ok source) = made_or_clashed mappings element (translation_of template flow source) source.used
by_source mappings element template flow (Err no.Exhausted) = Exhausted
by_source mappings element template flow (Err (no.BadPick place)) = BadPick place

-- a try of a template for the flow of a key, at its rewriter
unfoldable pub try_template : List Pool → List ℕ → List Mapping → ForwardKey → ℕ → Template → Attempt
try_template pools picks mappings key used template =
    by_source mappings key.element template key.before (source_of pools picks mappings used key.before.sp template.sp)

-- the template by which a mapping keeps the flow as it is
abbrev pub keeping : ℕ → ℕ → Template
keeping fout rout = record { sa = None; sp = port.Same; da = None; dp = None; fout = fout; rout = rout }

-- ---- the ring of a mapper

-- the turn behind one, in a ring of so many templates
abbrev pub turn_behind : ℕ → ℕ → ℕ
turn_behind count turn = if suc turn == count then 0 else suc turn

-- where the try of a template leads, behind which it is that turn
abbrev pub after_try : ℕ → Bool → ℕ → Attempt → Result Tried ℕ
after_try turn clashed used (Made translation taken) = Ok (Ends (record { opened = Some translation; turn = turn; clashed = clashed; used = taken }))
after_try turn clashed used (Clashed taken) = Ok (Along true taken)
after_try turn clashed used Exhausted = Ok (Along clashed used)
after_try turn clashed used (BadPick place) = Err place

abbrev pub ring_on : (Bool → ℕ → Result Round ℕ) → Result Tried ℕ → Result Round ℕ
ring_on along (Ok (Ends round)) = Ok round
ring_on along (Ok (Along clashed used)) = along clashed used
ring_on along (Err place) = Err place

-- no template is left
abbrev pub ring_over : ℕ → Bool → ℕ → Result Round ℕ
ring_over turn clashed used = Ok (record { opened = None; turn = turn; clashed = clashed; used = used })

-- the template whose turn it is, where there is one
abbrev pub ring_at : (ℕ → Bool → ℕ → Result Round ℕ) → (ℕ → Template → Attempt) → ℕ → ℕ → Bool → ℕ → Option Template → Result Round ℕ
ring_at along try count turn clashed used None = ring_over turn clashed used
ring_at along try count turn clashed used (Some template) =
    ring_on (along (turn_behind count turn)) (after_try (turn_behind count turn) clashed used (try used template))

-- Tries so many templates from the one whose turn it is on, each at most once, until one makes a mapping. The turn moves
-- past each that is tried.
unfoldable pub ring : (ℕ → Template → Attempt) → List Template → ℕ → ℕ → Bool → ℕ → Result Round ℕ
ring try templates zero turn clashed used = ring_over turn clashed used
ring try templates (suc left) turn clashed used =
    ring_at (ring try templates left) try (length templates) turn clashed used (slice_get templates turn)
