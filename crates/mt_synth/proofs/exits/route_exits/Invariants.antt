use Rattle.std.proofs.Common.{◌≡◌, ◌++◌, length, map}
use Rattle.mt_kinds.specs.declared.hop.Hop.{Hop}
use Rattle.mt_synth.specs.Exits.{exit_forms, route_exits, with_gateway}
use Rattle.mt_synth.specs.Symbols.{symbol_form}
use Rattle.mt_synth.proofs.exits.route_exits.Given as goal

abbrev pub invariant-loop-rest : goal.invariant-loop-rest
invariant-loop-rest l = exit_forms l.exits.items ++ map (λ (hop : Hop). (hop.out, with_gateway (symbol_form l.symbol) hop.gateway)) l.rest ≡ route_exits l.hops (symbol_form l.symbol)

abbrev pub decreases-loop-rest : goal.decreases-loop-rest
decreases-loop-rest l = length l.rest
