use Rattle.std.proofs.Common.{◌≤◌, ◌-◌, length, take}
use Rattle.mt_io.specs.Files.{Takes, IsSame, IsSameBut, NeverFell}
use Rattle.mt_pcap.proofs.reader.fill.Given as goal

abbrev pub invariant-loop-count : goal.invariant-loop-count
invariant-loop-count g l = record {
  within : l.count ≤ length l.buf;
  taken : Takes (g.F.Files.held l.initial.files l.name) (take l.count l.buf) (g.F.Files.held l.files l.name);
  other_files : IsSameBut l.name (g.F.Files.held l.initial.files) (g.F.Files.held l.files);
  written : IsSame (g.F.Files.written l.initial.files) (g.F.Files.written l.files);
  read_faults : NeverFell (g.F.Files.read_faults l.initial.files) (g.F.Files.read_faults l.files);
  write_faults : NeverFell (g.F.Files.write_faults l.initial.files) (g.F.Files.write_faults l.files);
}

abbrev pub decreases-loop-count : goal.decreases-loop-count
decreases-loop-count g l = length l.initial.buf - l.count
