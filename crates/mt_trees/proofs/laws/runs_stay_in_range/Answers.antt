use Rattle.std.proofs.Common.{subst, refl}
use Rattle.mt_packet.specs.Header.{header_of}
use Rattle.mt_packet.specs.Packet.{arrived}
use Rattle.mt_trees.proofs.Runs.{tree_means}
use Rattle.mt_trees.proofs.Tested.{Fine}
use Rattle.mt_trees.proofs.laws.runs_stay_in_range.Goals as goal

pub returns : goal.returns
unfolding header_of
returns c = λ chain accepted numbered device low high frame bytes stamp number tables kept range picks run is.
    let found = c.headers_have_trees.ensures chain accepted numbered (header_of device frame) low high in
    subst Fine is
    (tree_means chain numbered.in_range numbered c.decisions_keep_tables.ensures c.passages_lead.ensures c.outputs_are_counted.ensures (header_of device frame) (arrived frame stamp device number) refl refl bytes picks refl refl tables
    (record { kept = kept; range = range }) found.0 found.1).1
