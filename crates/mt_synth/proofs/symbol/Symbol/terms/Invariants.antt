use Rattle.std.proofs.Common.{◌≡◌, ◌++◌, length, map}
use Rattle.mt_terms.specs.Terms.{term_form}
use Rattle.mt_synth.proofs.symbol.Symbol.terms.Given as goal

abbrev pub invariant-loop-rest : goal.invariant-loop-rest
invariant-loop-rest l = map term_form l.terms.items ++ map term_form l.rest ≡ map term_form l.self.0

abbrev pub decreases-loop-rest : goal.decreases-loop-rest
decreases-loop-rest l = length l.rest
