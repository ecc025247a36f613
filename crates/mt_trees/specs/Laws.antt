-- The laws of trees.
use Rattle.std.specs.Prelude.{◌≡◌, ℕ, suc, ◌<◌, ◌≤◌, false, List, [], ◌∷◌, Some, Ok}
use Rattle.mt_packet.specs.Header.{AreBytes, field_of, header_of, number_of}
use Rattle.mt_packet.specs.Packet.{arrived}
use Rattle.mt_packet.specs.declared.field.Field.TheVariants.{Device}
use Rattle.mt_elements.specs.Accepted.{IsAccepted}
use Rattle.mt_elements.specs.ChainState.{ChainState}
use Rattle.mt_elements.specs.Numbered.{IsNumbered}
use Rattle.mt_rewriter.specs.Kept.{AreTables}
use Rattle.mt_rewriter.specs.Mappings.{TablesState}
use Rattle.mt_chain.specs.Run.{IsThere, Run, run_answer}
use Rattle.mt_terms.specs.Trees.{TreeForm}
use Rattle.mt_terms.specs.Writes.{WriteForm}
use Rattle.mt_trees.specs.Elements.{is_own, rewrite_of, tree_of}
use Rattle.mt_trees.specs.Meaning.{meaning_of, CanServe, rewriters_of, first_under}
use Rattle.mt_trees.specs.Ranges.{AreInRange}
use Rattle.mt_trees.specs.Symbols.{Symbol}

-- each header on a device on which frames arrive, whether or not some frame has it, has a tree
abbrev pub HeadersHaveTrees : Type 0
HeadersHaveTrees =
    (chain : ChainState) → IsAccepted chain → IsNumbered chain → (header : List ℕ) → 0 < field_of header Device → field_of header Device ≤ chain.entries → IsThere (tree_of chain header)

-- The tree of a frame's header means the run of the frame, value for value: its fate, the tables and the picks that it
-- leaves, or the place of the pick that is wrong. Numbers of the tables' flows are in their ranges, as those of every
-- accepted chain are.
abbrev pub TreesMeanRuns : Type 0
TreesMeanRuns =
    (chain : ChainState) → IsAccepted chain → IsNumbered chain → (frame : List ℕ) → AreBytes frame → (stamp device number : ℕ) → (tables : TablesState) → AreTables chain tables → AreInRange tables
    → (picks : List ℕ) (tree : TreeForm) → tree_of chain (header_of device frame) ≡ Some tree
    → meaning_of (rewriters_of chain) picks (arrived frame stamp device number) (header_of device frame) tree (first_under tables) ≡ run_answer chain tables (arrived frame stamp device number) picks

-- and the flows of its tables stay in their ranges
abbrev pub RunsStayInRange : Type 0
RunsStayInRange =
    (chain : ChainState) → IsAccepted chain → IsNumbered chain → (device : ℕ) → 0 < device → device ≤ chain.entries → (frame : List ℕ) → AreBytes frame → (stamp number : ℕ)
    → (tables : TablesState) → AreTables chain tables → AreInRange tables → (picks : List ℕ) (run : Run) → run_answer chain tables (arrived frame stamp device number) picks ≡ Some (Ok run) → AreInRange run.tables

-- What serving a packet by the tree of its frame's header asks for holds along the way that the tree's meaning takes:
-- the flows of each term that is worked out are known, the flow that arrives at a passage fits its types, and at the leaf
-- the rewrite can be made, without VLAN tags. The premises are those of TreesMeanRuns.
abbrev pub TreesCanBeServed : Type 0
TreesCanBeServed =
    (chain : ChainState) → IsAccepted chain → IsNumbered chain → (frame : List ℕ) → AreBytes frame → (stamp device number : ℕ) → (tables : TablesState) → AreTables chain tables → AreInRange tables
    → (picks : List ℕ) (tree : TreeForm) → tree_of chain (header_of device frame) ≡ Some tree
    → CanServe (rewriters_of chain) picks (arrived frame stamp device number) (header_of device frame) tree (first_under tables)

-- the fields ascend from a number on, and none is written with its own value
abbrev pub AreWrites : ℕ → List WriteForm → Type 0
AreWrites least [] = Unit {0}
AreWrites least (write ∷ writes) = (least ≤ number_of write.field) × (is_own write.field write.term ≡ false) × AreWrites (suc (number_of write.field)) writes

-- a rewrite has at most one term for a field, by ascending field, and writes no field with itself
abbrev pub RewritesAreOrdered : Type 0
RewritesAreOrdered = (symbol : Symbol) → AreWrites 0 (rewrite_of symbol).writes
