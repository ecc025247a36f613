use Rattle.mt_trees.specs.Symbols.{term_at}
use Rattle.mt_synth.specs.Symbols.{symbol_form}
use Rattle.mt_synth.proofs.WritesAscend.{all_written}
use Rattle.mt_synth.proofs.leaves.rewrite_of.Goals as goal

pub from_vec-requires : goal.from_vec-requires
from_vec-requires c = all_written (term_at (symbol_form c.args.symbol.now)) c.loop-rest.writes.items c.loop-rest.rest.now c.in_default.len_below c.loop-rest.invariant
