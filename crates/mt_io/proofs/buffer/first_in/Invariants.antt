use Rattle.std.proofs.Common.{◌≡◌, ◌<◌, ℕ, [], Some}
use Rattle.std.specs.List.{slice_get}
use Rattle.mt_io.specs.Buffers.{Pending}
use Rattle.mt_io.proofs.buffer.first_in.Given as goal

abbrev pub invariant-loop-buffer : goal.invariant-loop-buffer
invariant-loop-buffer l = (k : ℕ) → k < l.buffer-index → (b : Pending) → slice_get l.list k ≡ Some b → b.bytes ≡ []
