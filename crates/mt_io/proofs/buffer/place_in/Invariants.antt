use Rattle.std.proofs.Common.{◌≡◌, ◌≢◌, ◌<◌, ℕ, Some}
use Rattle.std.specs.List.{slice_get}
use Rattle.mt_io.specs.Buffers.{Pending}
use Rattle.mt_io.proofs.buffer.place_in.Given as goal

abbrev pub invariant-loop-place : goal.invariant-loop-place
invariant-loop-place l = (k : ℕ) → k < l.place → (b : Pending) → slice_get l.list k ≡ Some b → b.name ≢ l.name
