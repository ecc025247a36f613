-- What is known of a run before it begins.
use Rattle.std.specs.Prelude.{◌≡◌, ◌<◌, ◌≤◌, ℕ, List, Some, Ok}
use Rattle.mt_packet.specs.Packet.{PacketState}
use Rattle.mt_packet.specs.declared.layer.Layer.TheVariants.{Frame}
use Rattle.mt_elements.specs.Accepted.{IsAccepted}
use Rattle.mt_elements.specs.ChainState.{ChainState}
use Rattle.mt_elements.specs.Numbered.{IsNumbered}
use Rattle.mt_rewriter.specs.Kept.{AreTables}
use Rattle.mt_rewriter.specs.Mappings.{TablesState}
use Rattle.mt_chain.specs.Kept.{ComesFrom}
use Rattle.mt_chain.specs.Run.{IsThere, Run, run_answer}

-- a packet that arrives on a device of an accepted chain has a run, or a pick that is missing or not free
abbrev pub RunsAreThere : Type 0
RunsAreThere =
    (chain : ChainState) → IsAccepted chain → IsNumbered chain → (packet : PacketState) → packet.layer ≡ Frame → 0 < packet.device → packet.device ≤ chain.entries
    → (tables : TablesState) → AreTables chain tables → (picks : List ℕ) → IsThere (run_answer chain tables packet picks)

-- what a run leaves is tables of its chain
abbrev pub RunsKeepTables : Type 0
RunsKeepTables =
    (chain : ChainState) (tables : TablesState) → AreTables chain tables → (packet : PacketState) (picks : List ℕ) (run : Run) → run_answer chain tables packet picks ≡ Some (Ok run) → AreTables chain run.tables

-- what a run sends has its packet's time, device and number of arrival, and has no more bytes
abbrev pub FatesComeFrom : Type 0
FatesComeFrom =
    (chain : ChainState) (tables : TablesState) → AreTables chain tables → (packet : PacketState) (picks : List ℕ) (run : Run) → run_answer chain tables packet picks ≡ Some (Ok run) → ComesFrom packet run.fate
