use Rattle.std.proofs.Common.{◌≡◌}
use Rattle.std.specs.List.{list_all}
use Rattle.mt_synth.specs.Decided.{is_decided}
use Rattle.mt_synth.specs.Symbols.{symbol_form}
use Rattle.mt_synth.proofs.PatternSizes.{sizes}
use Rattle.mt_synth.proofs.patterns.is_decided.Given as goal

abbrev pub decreases-loop-pattern : goal.decreases-loop-pattern
decreases-loop-pattern l = sizes l.rest.items

-- the pattern is decided if those that are left are
abbrev pub invariant-loop-pattern : goal.invariant-loop-pattern
invariant-loop-pattern l = list_all (λ p. is_decided (symbol_form l.symbol) p.now) l.rest.items ≡ is_decided (symbol_form l.symbol) l.fn.pattern
