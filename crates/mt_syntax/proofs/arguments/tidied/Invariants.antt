use Rattle.std.proofs.Common.{◌≡◌, ◌++◌, eqb, not, drop, length}
use Rattle.mt_syntax.specs.Arguments.{tidy}
use Rattle.mt_syntax.proofs.TidyLoop.{tidy_rest}
use Rattle.mt_syntax.proofs.arguments.tidied.Given as goal

abbrev pub invariant-loop-byte : goal.invariant-loop-byte
invariant-loop-byte l = l.out.items ++ tidy_rest l.gap (not (eqb (length l.out.items) 0)) (drop l.byte-index l.bytes) ≡ tidy l.bytes
