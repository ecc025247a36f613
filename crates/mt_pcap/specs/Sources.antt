-- Captures that are merged as they are read: what is left of each, with the record that was read of it.
use Rattle.std.specs.Prelude.{◌≡◌, ◌≢◌, ◌⊎◌, ℕ, ◌+◌, List, map, slice_get, Option, Some, None, option_map, ⊤}
use Rattle.mt_io.specs.Files.{Rose}
use Rattle.mt_lists.specs.Options.{each}
use Rattle.mt_packet.specs.declared.frame.Stamped.{Stamped}
use Rattle.mt_pcap.specs.declared.fault.PcapFault.{PcapFault}
use Rattle.mt_pcap.specs.Capture.{Capture}
use Rattle.mt_pcap.specs.Stream.{over, ReaderState, left_of, in_front}
use Rattle.mt_pcap.specs.Merge.{MergedEnd, ends, gives, step, Taken, stamped}

-- a reader, and the record that it gave and that the merge has not given yet
pub record Source : Type 0 where
  pub reader : ReaderState
  pub head : Option (ℕ × List ℕ)

-- a merge: its captures, the first of them that of device 1, and how many frames it has given
pub record MergeState : Type 0 where
  pub sources : List Source
  pub given : ℕ

-- readers that have given nothing to a merge yet
abbrev pub begun : List ReaderState → List Source
begun readers = map (λ r. record { reader = r; head = None }) readers

abbrev pub names_of : List Source → List (List ℕ)
names_of sources = map (λ s. s.reader.name) sources

-- no two names are one
abbrev pub AreApart : List (List ℕ) → Type 0
AreApart names = (i j : ℕ) (name : List ℕ) → slice_get names i ≡ Some name → slice_get names j ≡ Some name → i ≡ j

-- nothing changed of a name that is none of these
abbrev pub IsSameBeside : {X : Type 0} → List (List ℕ) → (List ℕ → X) → (List ℕ → X) → Type 0
IsSameBeside names old new = (other : List ℕ) → ((k : ℕ) (name : List ℕ) → slice_get names k ≡ Some name → other ≢ name) → new other ≡ old other

-- what is left where a record was read
abbrev pub behind_head : Option (ℕ × List ℕ) → Option Capture → Option Capture
behind_head None left = left
behind_head (Some r) left = option_map (in_front r) left

-- what is left of a capture, where what its file holds is told
abbrev pub left_in : (List ℕ → Option (List ℕ)) → Source → Option Capture
left_in held s = behind_head s.head (left_of s.reader held)

-- what is left of each capture, where what each file holds is told
abbrev pub all_left : (List ℕ → Option (List ℕ)) → List Source → Option (List Capture)
all_left held sources = each (left_in held) sources

-- the next step of the merge of what is left, if it is told, ends it so
abbrev pub EndsSo : Option (List Capture) → MergedEnd → Type 0
EndsSo None end = ⊤
EndsSo (Some left) end = step left ≡ ends end

-- or gives this frame, by its number, with something left behind it
abbrev pub GivesSo : ℕ → Option (List Capture) → Stamped → Option (List Capture) → Type 0
GivesSo number None frame after = after ≡ None
GivesSo number (Some left) frame after = (next : Taken) × (step left ≡ gives next) × (frame ≡ stamped number next) × (after ≡ Some next.left)

-- the fault was met before, or the count of failed reads of that capture's file rose
abbrev pub HasFailed : List Source → ℕ → PcapFault → (List ℕ → ℕ) → (List ℕ → ℕ) → Type 0
HasFailed sources device fault old new = (index : ℕ) × (s : Source) × (device ≡ index + 1) × (slice_get sources index ≡ Some s) × ((s.reader.standing ≡ over (Some fault)) ⊎ Rose (old s.reader.name) (new s.reader.name))
