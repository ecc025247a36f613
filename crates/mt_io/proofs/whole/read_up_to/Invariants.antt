use Rattle.std.proofs.Common.{◌-◌, ◌≤◌, vec_len}
use Rattle.mt_io.specs.Files.{Takes, IsSame, IsSameBut, NeverFell}
use Rattle.mt_io.proofs.whole.read_up_to.Given as goal

abbrev pub invariant-loop-text : goal.invariant-loop-text
invariant-loop-text g l = record {
  within : vec_len l.text ≤ l.limit;
  taken : Takes (g.F.Files.held l.initial.files l.name) l.text.items (g.F.Files.held l.files l.name);
  other_files : IsSameBut l.name (g.F.Files.held l.initial.files) (g.F.Files.held l.files);
  written : IsSame (g.F.Files.written l.initial.files) (g.F.Files.written l.files);
  read_faults : NeverFell (g.F.Files.read_faults l.initial.files) (g.F.Files.read_faults l.files);
  write_faults : NeverFell (g.F.Files.write_faults l.initial.files) (g.F.Files.write_faults l.files);
}

abbrev pub decreases-loop-text : goal.decreases-loop-text
decreases-loop-text g l = l.limit - vec_len l.text
