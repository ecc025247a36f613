use Rattle.std.proofs.Common.{◌≡◌, length}
use Rattle.mt_wiring.specs.Numbers.{AreClear}
use Rattle.mt_wiring.proofs.clearing.clear_nodes.Given as goal

abbrev pub invariant-loop-node : goal.invariant-loop-node
invariant-loop-node l = record {
  clear : AreClear l.graph l.clear.items;
  len : length l.clear.items ≡ l.node;
}
