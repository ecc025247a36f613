-- The runs of packets, one after the other.
use Rattle.std.specs.Prelude.{◌≡◌, ℕ, ◌==◌, if◌then◌else◌, List, [], ◌∷◌, ◌++◌, length, Option, Some, None, option_map, option_and_then}
use Rattle.mt_packet.specs.Packet.{PacketState}
use Rattle.mt_elements.specs.ChainState.{ChainState}
use Rattle.mt_chain.specs.declared.run.Fate.{Fate}
use Rattle.mt_rewriter.specs.Mappings.{TablesState, first_tables}
use Rattle.mt_chain.specs.Run.{Run, run_packet}

-- the fates of some packets in their order, and what their runs leave
pub record Runs : Type 0 where
  pub fates : List Fate
  pub tables : TablesState
  pub picks : List ℕ

abbrev pub before : Run → Runs → Runs
before first more = record more { fates = first.fate ∷ more.fates }

-- some runs and one behind them
abbrev pub behind : Runs → Run → Runs
behind so_far last = record { fates = so_far.fates ++ last.fate ∷ []; tables = last.tables; picks = last.picks }

-- Each packet runs after the one before it, with what that one leaves. There is no value where the run of
-- one has none.
unfoldable pub run_each : ChainState → TablesState → List ℕ → List PacketState → Option Runs
run_each chain tables picks [] = Some (record { fates = []; tables = tables; picks = picks })
run_each chain tables picks (packet ∷ packets) =
    option_and_then (λ first. option_map (before first) (run_each chain first.tables first.picks packets)) (run_packet chain tables packet picks)

abbrev pub all_taken : Runs → Option (List Fate)
all_taken runs = if length runs.picks == 0 then Some runs.fates else None

-- The fates of packets from the first one that a chain sees, with just these ports picked.
unfoldable pub run_all : ChainState → List PacketState → List ℕ → Option (List Fate)
run_all chain packets picks = option_and_then all_taken (run_each chain (first_tables chain) picks packets)

-- a packet behind others runs with what those leave
abbrev pub OneBehind : Type 0
OneBehind =
    (chain : ChainState) (tables : TablesState) (picks : List ℕ) (packets : List PacketState) (packet : PacketState)
    → run_each chain tables picks (packets ++ packet ∷ [])
    ≡ option_and_then (λ so_far. option_map (behind so_far) (run_packet chain so_far.tables packet so_far.picks)) (run_each chain tables picks packets)
