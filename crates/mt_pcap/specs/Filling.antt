-- What the calls within a merge do to its captures.
use Rattle.std.specs.Prelude.{◌≡◌, ℕ, ◌+◌, ◌≤◌, List, [], ◌∷◌, length, map, slice_get, slice_set, Option, Some, None, option_map, ⊤}
use Rattle.mt_pcap.specs.Capture.{Capture}
use Rattle.mt_pcap.specs.Stream.{Standing, over}
use Rattle.mt_pcap.specs.Merge.{next_index}
use Rattle.mt_pcap.specs.Sources.{Source, names_of, AreApart}

-- ---- one capture

-- its next record was read, or there is none
abbrev pub stands_ready : Option (ℕ × List ℕ) → Standing → Type 0
stands_ready None standing = standing ≡ over None
stands_ready (Some r) standing = ⊤

abbrev pub IsReady : Source → Type 0
IsReady s = stands_ready s.head s.reader.standing

-- how many records were read and not given
abbrev pub count_of : Option (ℕ × List ℕ) → ℕ
count_of None = 0
count_of (Some r) = 1

-- as many records were given as before
abbrev pub IsBalanced : Source → Source → Type 0
IsBalanced old new = new.reader.given + count_of old.head ≡ old.reader.given + count_of new.head

-- ---- all of them

abbrev pub AreReady : List Source → Type 0
AreReady sources = (k : ℕ) (s : Source) → slice_get sources k ≡ Some s → IsReady s

abbrev pub AreBalanced : List Source → List Source → Type 0
AreBalanced old new = (k : ℕ) (s t : Source) → slice_get old k ≡ Some s → slice_get new k ≡ Some t → IsBalanced s t

-- the time of the record that was read
abbrev pub stamp_of : Source → Option ℕ
stamp_of s = option_map (λ r. r.0) s.head

-- the records that were read, each as a capture of one record
abbrev pub alone_of : Option (ℕ × List ℕ) → Capture
alone_of None = record { records = []; end = None }
alone_of (Some r) = record { records = r ∷ []; end = None }

abbrev pub heads_of : List Source → List Capture
heads_of sources = map (λ s. alone_of s.head) sources

-- the record that comes next was taken, of the capture of a device
pub record HasTaken (old : List Source) (device : ℕ) (r : ℕ × List ℕ) (new : List Source) : Type 0 where
  pub index : ℕ
  pub source : Source
  pub next : next_index (heads_of old) ≡ Some index
  pub there : slice_get old index ≡ Some source
  pub head : source.head ≡ Some r
  pub device_is : device ≡ index + 1
  pub after : new ≡ slice_set old index (record { reader = source.reader; head = None })

-- at most 32 captures of files with different names, and no reader has given a record that is neither given nor at hand
pub record IsOfMerge (sources : List Source) (given : ℕ) : Type 0 where
  pub few : length sources ≤ 32
  pub apart : AreApart (names_of sources)
  pub counted : (k : ℕ) (s : Source) → slice_get sources k ≡ Some s → s.reader.given ≤ given + count_of s.head
