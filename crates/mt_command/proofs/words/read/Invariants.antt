use Rattle.std.proofs.Common.{map}
use Rattle.std.specs.String.{string_bytes}
use Rattle.mt_command.specs.Reading.{Reads}
use Rattle.mt_command.proofs.words.read.Given as goal

abbrev pub invariant-loop-at : goal.invariant-loop-at
invariant-loop-at l = Reads (map (λ name. name.now) l.ports) (map string_bytes l.words) l.at l.reader
