use Rattle.std.proofs.Common.{◌≡◌, ◌++◌, length}
use Rattle.std.specs.List.{flat_map}
use Rattle.mt_terms.specs.Writes.{write_forms}
use Rattle.mt_trees.specs.Elements.{front_fields, data_fields, write_of}
use Rattle.mt_trees.specs.Symbols.{term_at}
use Rattle.mt_synth.specs.Symbols.{symbol_form}
use Rattle.mt_synth.proofs.leaves.rewrite_of.Given as goal

abbrev pub invariant-loop-rest : goal.invariant-loop-rest
invariant-loop-rest l =
    write_forms l.writes.items ++ flat_map (λ field. write_of field (term_at (symbol_form l.symbol) field)) l.rest
    ≡ flat_map (λ field. write_of field (term_at (symbol_form l.symbol) field)) (front_fields ++ data_fields)

abbrev pub decreases-loop-rest : goal.decreases-loop-rest
decreases-loop-rest l = length l.rest
