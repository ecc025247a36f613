use Rattle.std.proofs.Common.{◌≡◌, ◌++◌, drop}
use Rattle.mt_syntax.specs.Replacing.{replaced_from, replaced_in}
use Rattle.mt_syntax.proofs.replacing.replaced.Given as goal

abbrev pub invariant-loop-at : goal.invariant-loop-at
invariant-loop-at l = l.bytes.items ++ replaced_from l.bindings l.skip (drop l.at l.text) ≡ replaced_in l.bindings l.text
