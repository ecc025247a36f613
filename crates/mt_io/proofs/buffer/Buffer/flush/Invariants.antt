use Rattle.std.proofs.Common.{◌-◌, ◌≡◌, ◌≤◌, vec_len}
use Rattle.std.specs.List.{slice_range}
use Rattle.std.specs.String.{string_bytes}
use Rattle.mt_io.specs.Files.{IsSame, IsSameBut, NeverFell}
use Rattle.mt_io.specs.Buffers.{behind}
use Rattle.mt_io.proofs.buffer.Buffer.flush.Given as goal

abbrev pub invariant-loop-self : goal.invariant-loop-self
invariant-loop-self g l = record {
  ordered : l.self-inside.from ≤ l.self-inside.to;
  within : l.self-inside.to ≤ vec_len l.self-inside.bytes;
  room : vec_len l.self-inside.bytes ≡ 65536;
  name : string_bytes l.self-inside.name ≡ l.fn.self.name;
  kept : behind (g.F.Files.written l.files l.fn.self.name) (slice_range l.self-inside.bytes.items l.self-inside.from l.self-inside.to) ≡ behind (g.F.Files.written l.fn.files l.fn.self.name) l.fn.self.bytes;
  other_files : IsSameBut l.fn.self.name (g.F.Files.written l.fn.files) (g.F.Files.written l.files);
  held : IsSame (g.F.Files.held l.fn.files) (g.F.Files.held l.files);
  read_faults : NeverFell (g.F.Files.read_faults l.fn.files) (g.F.Files.read_faults l.files);
  write_faults : NeverFell (g.F.Files.write_faults l.fn.files) (g.F.Files.write_faults l.files);
}

abbrev pub decreases-loop-self : goal.decreases-loop-self
decreases-loop-self g l = l.self-inside.to - l.self-inside.from
