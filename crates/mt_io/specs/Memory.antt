-- Files in memory: the file of each name, and how many calls were lost.
use Rattle.std.specs.Prelude.{◌≡◌, ℕ, ◌+◌, true, List, Option, Some, None, unwrap_or}
use Rattle.std.specs.BTreeMap.{get_by_text}
use Rattle.mt_io.specs.Files.{IsSame}
use Rattle.mt_io.specs.State.{FileState, unnamed, one_more, fails_read, after_failed_read, after_failed_write}
use Rattle.mt_io.specs.declared.memory.MemoryFiles.{MemoryFiles}

-- the file of a name, if its counters stand
abbrev pub file_of : MemoryFiles → List ℕ → Option FileState
file_of files name = get_by_text files.entries name

-- the file of a name, as if its counters stood
abbrev pub state_of : MemoryFiles → List ℕ → FileState
state_of files name = unwrap_or (file_of files name) unnamed

-- how many reads and writes had no number, for want of memory for the counters of their name
abbrev pub lost_calls : MemoryFiles → ℕ
lost_calls files = files.lost

-- what is told of a name, and its counts
abbrev pub held_of : MemoryFiles → List ℕ → Option (List ℕ)
held_of files name = Some (state_of files name).left

abbrev pub written_of : MemoryFiles → List ℕ → Option (List ℕ)
written_of files name = Some (state_of files name).written

abbrev pub read_faults_of : MemoryFiles → List ℕ → ℕ
read_faults_of files name = (state_of files name).read_faults + lost_calls files

abbrev pub write_faults_of : MemoryFiles → List ℕ → ℕ
write_faults_of files name = (state_of files name).write_faults + lost_calls files

-- a read that had a number failed, as it must
pub record HasFailedRead (old new : MemoryFiles) (name : List ℕ) : Type 0 where
  pub must : fails_read (state_of old name) ≡ true
  pub after : file_of new name ≡ Some (after_failed_read (state_of old name))
  pub none_lost : lost_calls new ≡ lost_calls old

-- a write that had a number failed
pub record HasFailedWrite (old new : MemoryFiles) (name : List ℕ) : Type 0 where
  pub after : file_of new name ≡ Some (after_failed_write (state_of old name))
  pub none_lost : lost_calls new ≡ lost_calls old

-- a call had no number, for want of memory for the counters
pub record IsLost (old new : MemoryFiles) (name : List ℕ) : Type 0 where
  pub first : file_of old name ≡ None
  pub same : IsSame (file_of old) (file_of new)
  pub one_lost : lost_calls new ≡ one_more (lost_calls old)
