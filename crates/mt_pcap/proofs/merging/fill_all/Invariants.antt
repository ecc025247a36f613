use Rattle.std.proofs.Common.{◌≡◌, ◌≤◌, ◌<◌, ℕ, [], Some}
use Rattle.std.specs.Prelude.{slice_get}
use Rattle.mt_io.specs.Files.{IsSame, NeverFell}
use Rattle.mt_pcap.specs.Sources.{Source, names_of, all_left, IsSameBeside}
use Rattle.mt_pcap.specs.Merged.{HaveGiven, AreUnbroken}
use Rattle.mt_pcap.specs.Filling.{IsReady, AreBalanced}
use Rattle.mt_pcap.proofs.merging.fill_all.Given as goal

abbrev pub invariant-loop-index : goal.invariant-loop-index
invariant-loop-index g l = record {
  names : names_of l.queues ≡ names_of l.initial.queues;
  untouched : (k : ℕ) → l.index ≤ k → slice_get l.queues k ≡ slice_get l.initial.queues k;
  ready : (k : ℕ) (s : Source) → k < l.index → slice_get l.queues k ≡ Some s → IsReady s;
  balanced : AreBalanced l.initial.queues l.queues;
  given : HaveGiven [] l.initial.queues l.queues (g.F.Files.held l.initial.files) (g.F.Files.held l.files);
  unbroken : AreUnbroken l.initial.queues → AreUnbroken l.queues;
  left : all_left (g.F.Files.held l.files) l.queues ≡ all_left (g.F.Files.held l.initial.files) l.initial.queues;
  other_files : IsSameBeside (names_of l.initial.queues) (g.F.Files.held l.initial.files) (g.F.Files.held l.files);
  written : IsSame (g.F.Files.written l.initial.files) (g.F.Files.written l.files);
  read_faults : NeverFell (g.F.Files.read_faults l.initial.files) (g.F.Files.read_faults l.files);
  write_faults : NeverFell (g.F.Files.write_faults l.initial.files) (g.F.Files.write_faults l.files);
}
