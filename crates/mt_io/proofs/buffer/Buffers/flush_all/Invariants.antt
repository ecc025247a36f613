use Rattle.std.proofs.Common.{◌≡◌, ◌<◌, ◌⊎◌, ℕ, List, [], Some, length}
use Rattle.std.specs.List.{slice_get}
use Rattle.mt_io.specs.Files.{Rose, IsSame, NeverFell}
use Rattle.mt_io.specs.Buffers.{Pending, pending_of, behind, AreApart}
use Rattle.mt_io.proofs.buffer.Buffers.flush_all.Given as goal

abbrev pub invariant-loop-place : goal.invariant-loop-place
invariant-loop-place g l = record {
  apart : AreApart l.self-inside.list.items;
  long : length l.self-inside.list.items ≡ l.place-end;
  kept : (name : List ℕ) → behind (g.F.Files.written l.files name) (pending_of l.self-inside.list.items name) ≡ behind (g.F.Files.written l.fn.files name) (pending_of l.fn.self name);
  risen : (k : ℕ) → k < l.place → (b : Pending) → slice_get l.self-inside.list.items k ≡ Some b → (b.bytes ≡ []) ⊎ Rose (g.F.Files.write_faults l.fn.files b.name) (g.F.Files.write_faults l.files b.name);
  held : IsSame (g.F.Files.held l.fn.files) (g.F.Files.held l.files);
  read_faults : NeverFell (g.F.Files.read_faults l.fn.files) (g.F.Files.read_faults l.files);
  write_faults : NeverFell (g.F.Files.write_faults l.fn.files) (g.F.Files.write_faults l.files);
}
