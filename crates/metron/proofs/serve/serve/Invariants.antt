use Rattle.std.proofs.Common.{◌≡◌, ◌≤◌, ◌-◌, ◌*◌, ℕ, List, [], length}
use Rattle.mt_io.specs.Files.{NeverFell}
use Rattle.mt_pcap.specs.Merge.{most_frames}
use Rattle.mt_pcap.specs.Merged.{HasMerged}
use Rattle.mt_pcap.specs.Sources.{names_of, IsSameBeside}
use Rattle.mt_elements.specs.ChainState.{ChainState}
use Rattle.metron.specs.Outcome.{account_of}
use Rattle.metron.specs.Serving.{Held, IsSameElsewhere}
use Rattle.metron.specs.Standing.{IsAtRest, IsBegun, tables_at}
use Rattle.metron.proofs.Frames.{IsUnderWay}
use Rattle.metron.proofs.serve.serve.Given as goal

-- so many frames were served
abbrev pub invariant-loop-alloc : goal.invariant-loop-alloc
invariant-loop-alloc g l = record {
  way : (chain : ChainState) → IsBegun chain l.context.rewriters l.context.classes l.context.index l.fn.worker → length l.fn.merge.sources ≤ chain.entries → (names : List (List ℕ)) (first : Held) → HasMerged names first (g.F.Files.held l.fn.files) [] l.fn.merge
      → IsUnderWay chain l.fn.writers names first (g.F.Files.held l.files) l.merge (tables_at l.worker) (g.F.Files.written l.fn.files) (g.F.Files.written l.files) (account_of l.tally);
  rest : (chain : ChainState) → IsBegun chain l.context.rewriters l.context.classes l.context.index l.fn.worker → length l.fn.merge.sources ≤ chain.entries → IsAtRest chain l.context.rewriters l.context.classes l.context.index l.worker;
  few : l.merge.given ≤ most_frames;
  same_count : l.worker.writes ≡ l.tally.writes;
  bounded : l.worker.writes ≤ 24 * l.merge.given;
  classes : l.tally.classes ≡ l.fn.tally.classes;
  sources : names_of l.merge.sources ≡ names_of l.fn.merge.sources;
  writers : l.writers ≡ l.fn.writers;
  other_held : IsSameBeside (names_of l.fn.merge.sources) (g.F.Files.held l.fn.files) (g.F.Files.held l.files);
  other_written : IsSameElsewhere l.fn.writers (g.F.Files.written l.fn.files) (g.F.Files.written l.files);
  read_faults : NeverFell (g.F.Files.read_faults l.fn.files) (g.F.Files.read_faults l.files);
  write_faults : NeverFell (g.F.Files.write_faults l.fn.files) (g.F.Files.write_faults l.files);
}

abbrev pub decreases-loop-alloc : goal.decreases-loop-alloc
decreases-loop-alloc g l = most_frames - l.merge.given
