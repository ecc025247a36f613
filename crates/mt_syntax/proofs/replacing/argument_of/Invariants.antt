use Rattle.std.proofs.Common.{◌≡◌, drop}
use Rattle.mt_syntax.specs.Replacing.{argument_for}
use Rattle.mt_syntax.proofs.replacing.argument_of.Given as goal

abbrev pub invariant-loop-binding : goal.invariant-loop-binding
invariant-loop-binding l = argument_for (drop l.binding-index l.bindings) l.name ≡ argument_for l.bindings l.name
