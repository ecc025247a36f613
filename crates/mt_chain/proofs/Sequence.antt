-- One packet more.
use Rattle.std.proofs.Common.{◌≡◌, ◌∙◌, ap, refl, ℕ, List, [], ◌∷◌, ◌++◌}
use Rattle.std.specs.Prelude.{Option, Some, None, option_map, option_and_then}
use Rattle.mt_packet.specs.Packet.{PacketState}
use Rattle.mt_elements.specs.ChainState.{ChainState}
use Rattle.mt_rewriter.specs.Mappings.{TablesState}
use Rattle.mt_chain.specs.Run.{Run, run_packet}
use Rattle.mt_chain.specs.Sequence.{Runs, before, run_each}
pub use Rattle.mt_chain.specs.Sequence.{behind}

module _ (chain : ChainState) where
  -- one more behind some
  abbrev more : PacketState → Runs → Option Runs
  more packet so_far = option_map (behind so_far) (run_packet chain so_far.tables packet so_far.picks)

  from_one : (tables : TablesState) (picks : List ℕ) (found : Option Run)
      → option_and_then (λ first. option_map (before first) (run_each chain first.tables first.picks [])) found ≡ option_map (behind (record { fates = []; tables = tables; picks = picks })) found
  unfolding run_each
  from_one tables picks (Some first) = refl
  from_one tables picks None = refl

  moved : (first : Run) (rest : Option Runs) (packet : PacketState)
      → option_map (before first) (option_and_then (more packet) rest) ≡ option_and_then (more packet) (option_map (before first) rest)
  moved first None packet = refl
  moved first (Some rest) packet = in_front (run_packet chain rest.tables packet rest.picks)
    where
      in_front : (last : Option Run) → option_map (before first) (option_map (behind rest) last) ≡ option_map (behind (before first rest)) last
      in_front (Some last) = refl
      in_front None = refl

  pub one_more : (tables : TablesState) (picks : List ℕ) (packets : List PacketState) (packet : PacketState)
      → run_each chain tables picks (packets ++ packet ∷ []) ≡ option_and_then (more packet) (run_each chain tables picks packets)
  unfolding run_each
  one_more tables picks [] packet = from_one tables picks (run_packet chain tables packet picks)
  one_more tables picks (next ∷ packets) packet = each (λ first. one_more first.tables first.picks packets packet) (run_packet chain tables next picks)
    where
      each : ((first : Run) → run_each chain first.tables first.picks (packets ++ packet ∷ []) ≡ option_and_then (more packet) (run_each chain first.tables first.picks packets)) → (found : Option Run)
          → option_and_then (λ first. option_map (before first) (run_each chain first.tables first.picks (packets ++ packet ∷ []))) found
          ≡ option_and_then (more packet) (option_and_then (λ first. option_map (before first) (run_each chain first.tables first.picks packets)) found)
      each again None = refl
      each again (Some first) =
          ap (option_map (before first)) (again first)
          ∙ moved first (run_each chain first.tables first.picks packets) packet
