-- How many fields are written: where the tree of a frame's header leads to a leaf, as many as the leaf writes.
use Rattle.std.specs.Prelude.{ℕ, ◌+◌, List, [], ◌∷◌, Option, Some, None, Ok, Err, option_and_then, option_map}
use Rattle.mt_packet.specs.Header.{header_of}
use Rattle.mt_packet.specs.declared.frame.Stamped.{Stamped}
use Rattle.mt_elements.specs.ChainState.{ChainState}
use Rattle.mt_rewriter.specs.Mappings.{TablesState, first_tables}
use Rattle.mt_chain.specs.Fates.{packet_of}
use Rattle.mt_chain.specs.Run.{Answer, run_packet}
use Rattle.mt_terms.specs.Trees.{TreeForm}
use Rattle.mt_trees.specs.Elements.{tree_of}
use Rattle.mt_trees.specs.Meaning.{first_under, rewriters_of}
use Rattle.mt_pipeline.specs.Reached.{Place, reached, writes_of}

-- the writes of a place that is reached
abbrev pub writes_at : Answer Place → Option ℕ
writes_at None = None
writes_at (Some (Ok place)) = Some (writes_of place.0)
writes_at (Some (Err pick)) = None

-- the writes for one frame, by these tables and with these ports picked
abbrev pub writes_by : ChainState → TablesState → Stamped → List ℕ → TreeForm → Option ℕ
writes_by chain tables frame picks tree = writes_at (reached (rewriters_of chain) picks (packet_of frame) (header_of frame.device frame.frame) tree (first_under tables))

abbrev pub writes_for : ChainState → TablesState → Stamped → List ℕ → Option ℕ
writes_for chain tables frame picks = option_and_then (writes_by chain tables frame picks) (tree_of chain (header_of frame.device frame.frame))

-- with those of the frames behind it
abbrev pub writes_on : Option ℕ → Option ℕ → Option ℕ
writes_on first more = option_and_then (λ n. option_map (λ m. n + m) more) first

-- the writes for frames, each with what the run of the one before it leaves
unfoldable pub writes_each : ChainState → TablesState → List ℕ → List Stamped → Option ℕ
writes_each chain tables picks [] = Some 0
writes_each chain tables picks (frame ∷ frames) =
    option_and_then (λ run. writes_on (writes_for chain tables frame picks) (writes_each chain run.tables run.picks frames)) (run_packet chain tables (packet_of frame) picks)

-- the writes for frames from the first one that a chain sees
abbrev pub writes_all : ChainState → List Stamped → List ℕ → Option ℕ
writes_all chain frames picks = writes_each chain (first_tables chain) picks frames
