use Rattle.std.proofs.Common.{◌≡◌, ◌+◌, drop}
use Rattle.std.specs.Option.{option_map}
use Rattle.mt_syntax.specs.Replacing.{unknown_in}
use Rattle.mt_syntax.proofs.replacing.first_unknown.Given as goal

abbrev pub invariant-loop-at : goal.invariant-loop-at
invariant-loop-at l = unknown_in l.bindings l.text ≡ option_map (λ n. n + l.at) (unknown_in l.bindings (drop l.at l.text))
