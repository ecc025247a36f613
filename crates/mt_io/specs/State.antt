-- A file in memory, and what one call makes of it.
use Rattle.std.specs.Prelude.{ℕ, ◌+◌, ◌-◌, ◌^◌, ◌==◌, min, Bool, true, false, not, ◌||◌, List, [], ◌∷◌, ◌++◌, drop, String, unwrap_or}
use Rattle.std.specs.BTreeMap.{BTreeMap, get_by_text}
use Rattle.std.specs.List.{list_any}
use Rattle.mt_io.specs.declared.entry.Call.{Call}
use Rattle.mt_io.specs.declared.entry.Call.TheVariants.{Read, Write}

-- one more, but nothing past the end of the type
abbrev pub one_more : ℕ → ℕ
one_more n = min (n + 1) (2 ^ 64 - 1)

-- The bytes of a name that are left to be read and those written to it, how many reads and writes
-- of it had a number and how many of them failed, and which numbers are to fail.
pub record FileState : Type 0 where
  pub is_held : Bool
  pub left : List ℕ
  pub written : List ℕ
  pub reads : ℕ
  pub writes : ℕ
  pub read_faults : ℕ
  pub write_faults : ℕ
  pub failing_reads : List ℕ
  pub failing_writes : List ℕ

-- a name of which nothing was said yet
abbrev pub unnamed : FileState
unnamed = record { is_held = false; left = []; written = []; reads = 0; writes = 0; read_faults = 0; write_faults = 0; failing_reads = []; failing_writes = [] }

-- the file of a name in a map, or one of which nothing was said yet
abbrev pub state_in : {Y : Type 0} → BTreeMap (String Y) FileState → List ℕ → FileState
state_in files name = unwrap_or (get_by_text files name) unnamed

-- the next read fails: its number is in the list, or the name was never held
abbrev pub fails_read : FileState → Bool
fails_read file = not file.is_held || list_any (λ number. number == one_more file.reads) file.failing_reads

-- the next write fails: its number is in the list
abbrev pub fails_write : FileState → Bool
fails_write file = list_any (λ number. number == one_more file.writes) file.failing_writes

-- a read took this many bytes
abbrev pub after_read : ℕ → FileState → FileState
after_read count file = record file { reads = one_more file.reads; left = drop count file.left }

abbrev pub after_failed_read : FileState → FileState
after_failed_read file = record file { reads = one_more file.reads; read_faults = one_more file.read_faults }

-- a write added these bytes
abbrev pub after_write : List ℕ → FileState → FileState
after_write piece file = record file { writes = one_more file.writes; written = file.written ++ piece }

abbrev pub after_failed_write : FileState → FileState
after_failed_write file = record file { writes = one_more file.writes; write_faults = one_more file.write_faults }

-- these bytes are to be read
abbrev pub after_hold : List ℕ → FileState → FileState
after_hold bytes file = record file { is_held = true; left = bytes }

-- the call of this number is to fail
abbrev pub after_fail : Call → ℕ → FileState → FileState
after_fail Read number file = record file { failing_reads = file.failing_reads ++ number ∷ [] }
after_fail Write number file = record file { failing_writes = file.failing_writes ++ number ∷ [] }
