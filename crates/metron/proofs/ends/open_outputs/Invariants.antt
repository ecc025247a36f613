use Rattle.std.proofs.Common.{◌≡◌, ◌+◌, ◌≤◌, map, length, ◌++◌}
use Rattle.mt_io.specs.Files.{IsSame, NeverFell}
use Rattle.mt_command.specs.Parts.{bound_view}
use Rattle.metron.specs.Inputs.{outputs_of}
use Rattle.metron.specs.Serving.{IsSameElsewhere}
use Rattle.metron.proofs.Begun.{AreBegun}
use Rattle.metron.proofs.ends.open_outputs.Given as goal

abbrev pub invariant-loop-rest : goal.invariant-loop-rest
invariant-loop-rest g l = record {
  made : l.writers.items ++ outputs_of (map bound_view l.rest) ≡ outputs_of (map bound_view l.bound);
  counted : l.number ≡ length l.writers.items + 1;
  room : l.number + length l.rest ≤ 33;
  begun : AreBegun (outputs_of (map bound_view l.bound)) (length l.writers.items) (g.F.Files.written l.initial.files) (g.F.Files.written l.files);
  others : IsSameElsewhere (outputs_of (map bound_view l.bound)) (g.F.Files.written l.initial.files) (g.F.Files.written l.files);
  held : IsSame (g.F.Files.held l.initial.files) (g.F.Files.held l.files);
  read_faults : NeverFell (g.F.Files.read_faults l.initial.files) (g.F.Files.read_faults l.files);
  write_faults : NeverFell (g.F.Files.write_faults l.initial.files) (g.F.Files.write_faults l.files);
}

abbrev pub decreases-loop-rest : goal.decreases-loop-rest
decreases-loop-rest g l = length l.rest
