use Rattle.std.proofs.Common.{map, take}
use Rattle.mt_io.specs.Files.{IsSame, NeverFell}
use Rattle.mt_pcap.specs.Opened.{AreOpened}
use Rattle.metron.proofs.ends.open_captures.Given as goal

abbrev pub invariant-loop-index : goal.invariant-loop-index
invariant-loop-index g l = record {
  opened : AreOpened (take l.index (map (λ f. f.now) l.inputs)) (g.F.Files.held l.initial.files) (g.F.Files.held l.files) l.readers.items;
  written : IsSame (g.F.Files.written l.initial.files) (g.F.Files.written l.files);
  read_faults : NeverFell (g.F.Files.read_faults l.initial.files) (g.F.Files.read_faults l.files);
  write_faults : NeverFell (g.F.Files.write_faults l.initial.files) (g.F.Files.write_faults l.files);
}
