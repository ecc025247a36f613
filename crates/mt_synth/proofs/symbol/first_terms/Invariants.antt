use Rattle.std.proofs.Common.{◌≡◌, ◌++◌, length, map}
use Rattle.mt_terms.specs.Terms.{term_form}
use Rattle.mt_trees.specs.Symbols.{first_symbol}
use Rattle.mt_synth.specs.Symbols.{first_term}
use Rattle.mt_synth.proofs.symbol.first_terms.Given as goal

abbrev pub invariant-loop-rest : goal.invariant-loop-rest
invariant-loop-rest l = map term_form l.terms.items ++ map first_term l.rest ≡ first_symbol.terms

abbrev pub decreases-loop-rest : goal.decreases-loop-rest
decreases-loop-rest l = length l.rest
