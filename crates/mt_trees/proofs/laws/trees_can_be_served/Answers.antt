use Rattle.std.proofs.Common.{refl}
use Rattle.mt_packet.specs.Header.{header_of}
use Rattle.mt_packet.specs.Packet.{arrived}
use Rattle.mt_trees.proofs.Runs.{tree_means}
use Rattle.mt_trees.proofs.laws.trees_can_be_served.Goals as goal

pub returns : goal.returns
unfolding header_of
returns c = λ chain accepted numbered frame bytes stamp device number tables kept range picks tree is.
    (tree_means chain numbered.in_range numbered c.decisions_keep_tables.ensures c.passages_lead.ensures c.outputs_are_counted.ensures (header_of device frame) (arrived frame stamp device number) refl refl bytes picks refl refl tables
    (record { kept = kept; range = range }) tree is).2
