-- From the element by which the frames of a device enter.
use Rattle.std.specs.Prelude.{ℕ, suc, List, length, option_and_then}
use Rattle.mt_elements.specs.ChainState.{ChainState, entry_of}
use Rattle.mt_trees.specs.Elements.{tree_from}
use Rattle.mt_trees.specs.Symbols.{first_symbol}
use Rattle.mt_trees.specs.Tests.{Found}

-- the tree of a header as it enters by a device
abbrev pub entered_at : ChainState → List ℕ → ℕ → Found
entered_at chain header device = option_and_then (λ first. tree_from (suc (length chain.wires)) chain header (first, 0) first_symbol) (entry_of chain device)
