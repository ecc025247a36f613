use Rattle.mt_packet.specs.Header.{field_of}
use Rattle.mt_packet.specs.declared.field.Field.TheVariants.{Device}
use Rattle.mt_elements.specs.Accepted.{behavior_of}
use Rattle.mt_trees.proofs.HasTree.{has_tree}
use Rattle.mt_trees.proofs.laws.headers_have_trees.Goals as goal

pub returns : goal.returns
returns c = λ chain accepted numbered header low high.
    let ranked = c.ranks.ensures (behavior_of chain.kinds).leads chain.wires accepted.acyclic in
    has_tree chain header accepted c.outputs_are_counted.ensures ranked.0 ranked.1 (c.devices_have_entries.ensures chain (field_of header Device) numbered low high)
