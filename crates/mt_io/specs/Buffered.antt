-- What is seen of buffered files beside what they tell of each name.
use Rattle.std.specs.Prelude.{ℕ, List, Option}
use Rattle.mt_io.specs.Buffers.{first_pending}
use Rattle.mt_io.specs.declared.buffered.Buffered.{Buffered}

-- the files that are read and written through the buffers
abbrev pub inner_of : {F : Type 0} → Buffered F → F
inner_of files = files.inner

-- the first file of which bytes are pending
abbrev pub unwritten_in : {F : Type 0} → Buffered F → Option (List ℕ)
unwritten_in files = first_pending files.pending
