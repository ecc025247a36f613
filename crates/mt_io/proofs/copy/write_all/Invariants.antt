use Rattle.std.proofs.Common.{◌≡◌, List, ℕ, ◌++◌, length}
use Rattle.mt_io.specs.Files.{Gains, IsSame, IsSameBut, NeverFell}
use Rattle.mt_io.proofs.copy.write_all.Given as goal

abbrev pub invariant-loop-count : goal.invariant-loop-count
invariant-loop-count g l = record {
  gained : (front : List ℕ) × (l.piece ≡ front ++ l.rest) × Gains (g.F.Files.written l.initial.files l.name) front (g.F.Files.written l.files l.name);
  other_files : IsSameBut l.name (g.F.Files.written l.initial.files) (g.F.Files.written l.files);
  held : IsSame (g.F.Files.held l.initial.files) (g.F.Files.held l.files);
  read_faults : NeverFell (g.F.Files.read_faults l.initial.files) (g.F.Files.read_faults l.files);
  write_faults : NeverFell (g.F.Files.write_faults l.initial.files) (g.F.Files.write_faults l.files);
}

abbrev pub decreases-loop-count : goal.decreases-loop-count
decreases-loop-count g l = length l.rest
